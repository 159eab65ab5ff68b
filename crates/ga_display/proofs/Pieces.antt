-- Texts put together piece by piece.
use Rattle.std.proofs.Common.{◌≡◌, ℕ, ◌+◌, ◌<◌, List, [], ◌∷◌, ◌++◌, length, map, sym, subst, ap, ◌∙◌, arith, append_assoc}
use Rattle.std.specs.Prelude.{slice_index}
use Rattle.std.specs.List.{range_with_len}
use Rattle.std.proofs.lemmas.Grind.{flat_map-append}
use Rattle.std.proofs.lemmas.List.{ext_get_or}
use Rattle.std.proofs.lemmas.List.FromFn.{map-range_with_len_more, get_or-map-range_with_len, length-map-range_with_len}
use Rattle.ga_word.specs.Word.{hex_digits_of_word}
use Rattle.ga_text.specs.Digits.{spaced_words_text}

-- one piece more
pub piece_more : (old said new text piece : List ℕ) → said ≡ old ++ text → new ≡ said ++ piece → new ≡ old ++ (text ++ piece)
piece_more old said new text piece e f = f ∙ ap (λ (t : List ℕ). t ++ piece) e ∙ append_assoc old text piece

pub four_pieces : (old a b c d w x y z : List ℕ) → a ≡ old ++ w → b ≡ a ++ x → c ≡ b ++ y → d ≡ c ++ z → d ≡ old ++ (((w ++ x) ++ y) ++ z)
four_pieces old a b c d w x y z p q r s = piece_more old c d ((w ++ x) ++ y) z (piece_more old b c (w ++ x) y (piece_more old a b w x p q) r) s

pub six_pieces : (old a b c d e f u v w x y z : List ℕ) → a ≡ old ++ u → b ≡ a ++ v → c ≡ b ++ w → d ≡ c ++ x → e ≡ d ++ y → f ≡ e ++ z
    → f ≡ old ++ (((((u ++ v) ++ w) ++ x) ++ y) ++ z)
six_pieces old a b c d e f u v w x y z p q r s t k =
    piece_more old e f ((((u ++ v) ++ w) ++ x) ++ y) z
    (piece_more old d e (((u ++ v) ++ w) ++ x) y (four_pieces old a b c d u v w x p q r s) t) k

-- the first `count` words of a stack
abbrev pub first_words : ℕ → List ℕ → List ℕ
first_words count words = map (λ place. slice_index words place) (range_with_len 0 count)

-- one word more of a stack
pub words_more : (count : ℕ) (words : List ℕ) → spaced_words_text (first_words (count + 1) words) ≡ spaced_words_text (first_words count words) ++ 32 ∷ hex_digits_of_word (slice_index words count)
words_more count words =
    ap spaced_words_text (map-range_with_len_more (λ place. slice_index words place) 0 count count (omega arith))
    ∙ flat_map-append (λ word. 32 ∷ hex_digits_of_word word) (first_words count words) (slice_index words count ∷ [])

-- as many words as the stack has are all of them
pub words_whole : (count : ℕ) (words : List ℕ) → length words ≡ count → first_words count words ≡ words
words_whole count words size =
    let as_many = length-map-range_with_len (λ place. slice_index words place) 0 count in
    ext_get_or 0 (first_words count words) words (as_many ∙ sym size)
    (λ k below. get_or-map-range_with_len (λ place. slice_index words place) 0 count k k 0 (subst (λ (n : ℕ). k < n) as_many below) (omega arith))
