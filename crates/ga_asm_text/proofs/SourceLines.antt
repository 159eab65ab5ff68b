-- The lines of a source that is written.
use Rattle.std.specs.Prelude.{◌==◌, codes}
use Rattle.std.proofs.Common.{◌≡◌, ◌∙◌, ℕ, ◌+◌, ◌≤◌, true, false, List, [], ◌∷◌, ◌++◌, length, map, refl, arith, ap, sym, subst, append_assoc, length-append}
use Rattle.std.specs.List.{list_all}
use Rattle.std.proofs.lemmas.List.{append-nil}
use Rattle.std.proofs.lemmas.List.Folds.{list_all-append}
use Rattle.std.proofs.lemmas.Bool.{and_from, cond-true, cond-false, eq-eqb, ne_eqb}
use Rattle.ga_text.specs.Lines.{Text}
use Rattle.ga_parser.specs.Saying.{source_words, TokenContent, word_token, tokens_of_words}
use Rattle.ga_asm_text.specs.inner.{SourceWordText, TextSaysWords, AppendsSourceWords, AddsBytesWithinLastLine, IsOrdinarySourceWord, LacksByteOrderMark, is_comment_byte, last_hex_digits, hex_number_source_word, register_source_words, address_source_words, cell_source_words}
use Rattle.ga_asm_text.proofs.HexLemmas.{all_shown}
use Rattle.ga_asm_text.proofs.Telling.{says_nothing, says_both, says_line, says_two, no_end, word_first, remark_last, all_inner, plain_word, grown}

-- ---- numbers as words

pub number_ordinary : (k n : ℕ) → IsOrdinarySourceWord (hex_number_source_word k n)
number_ordinary k n = record { bytes = refl; shown = all_shown k n; no_remark = refl; no_opening = refl; no_expect = refl }

hex_inner : (k n : ℕ) → list_all is_comment_byte (last_hex_digits k n) ≡ true
hex_inner k n = all_inner (last_hex_digits k n) (all_shown k n)

-- ---- texts that grew

pub nothing_added : (old : Text) (words : List SourceWordText) → words ≡ [] → AppendsSourceWords old old words
nothing_added old words none = ([], sym (append-nil old), subst (TextSaysWords []) (sym none) says_nothing)

pub both_added : (old between new : Text) (words more : List SourceWordText) → AppendsSourceWords old between words → AppendsSourceWords between new more → AppendsSourceWords old new (words ++ more)
both_added old between new words more a b = (a.0 ++ b.0, grown old between new a.0 b.0 a.1 b.1, says_both a.0 b.0 words more a.2 b.2)

-- ---- a register

register_line : (name : SourceWordText) (v : ℕ) → LacksByteOrderMark name → IsOrdinarySourceWord name → length name ≤ 10 → TextSaysWords (((name ++ codes " 0x") ++ last_hex_digits 5 v) ++ 10 ∷ []) (name ∷ hex_number_source_word 5 v ∷ [])
register_line name v start is short =
    subst (λ (t : Text). TextSaysWords (t ++ 10 ∷ []) (name ∷ hex_number_source_word 5 v ∷ [])) (sym (append_assoc name (codes " 0x") (last_hex_digits 5 v)))
    (says_two name (hex_number_source_word 5 v) start is (number_ordinary 5 v) (omega arith))

pub register_added : (old new : Text) (name : SourceWordText) (v usual : ℕ) → (v ≡ usual → ⊥) → new ≡ old ++ (((name ++ codes " 0x") ++ last_hex_digits 5 v) ++ 10 ∷ []) → LacksByteOrderMark name → IsOrdinarySourceWord name → length name ≤ 10 → AppendsSourceWords old new (register_source_words name v usual)
register_added old new name v usual differs e start is short =
    subst (λ (words : List SourceWordText). AppendsSourceWords old new words) (sym (cond-false (v == usual) [] (name ∷ hex_number_source_word 5 v ∷ []) (ne_eqb v usual differs)))
    (((name ++ codes " 0x") ++ last_hex_digits 5 v) ++ 10 ∷ [], e, register_line name v start is short)

pub register_usual : (old : Text) (name : SourceWordText) (v usual : ℕ) → v ≡ usual → AppendsSourceWords old old (register_source_words name v usual)
register_usual old name v usual same = nothing_added old (register_source_words name v usual) (cond-true (v == usual) [] (name ∷ hex_number_source_word 5 v ∷ []) (eq-eqb v usual same))

pub register_same : (old new : Text) (name : SourceWordText) (v n usual m : ℕ) → v ≡ n → usual ≡ m → AppendsSourceWords old new (register_source_words name v usual) → AppendsSourceWords old new (register_source_words name n m)
register_same old new name v n usual m e f added = subst (λ (k : ℕ). AppendsSourceWords old new (register_source_words name n k)) f (subst (λ (k : ℕ). AppendsSourceWords old new (register_source_words name k usual)) e added)

-- ---- an address

pub address_added : (old new : Text) (address next : ℕ) → (address ≡ next → ⊥) → new ≡ old ++ ((codes "org 0x" ++ last_hex_digits 2 address) ++ 10 ∷ []) → AppendsSourceWords old new (address_source_words address next)
address_added old new address next differs e =
    subst (λ (words : List SourceWordText). AppendsSourceWords old new words) (sym (cond-false (address == next) [] (codes "org" ∷ hex_number_source_word 2 address ∷ []) (ne_eqb address next differs)))
    ((codes "org 0x" ++ last_hex_digits 2 address) ++ 10 ∷ [], e, says_two (codes "org") (hex_number_source_word 2 address) refl (plain_word (codes "org") refl refl refl refl refl) (number_ordinary 2 address) (omega arith))

pub address_usual : (old : Text) (address next : ℕ) → address ≡ next → AppendsSourceWords old old (address_source_words address next)
address_usual old address next same = nothing_added old (address_source_words address next) (cond-true (address == next) [] (codes "org" ∷ hex_number_source_word 2 address ∷ []) (eq-eqb address next same))

-- ---- a cell

abbrev behind : Text → Text
behind remark = 44 ∷ 32 ∷ 92 ∷ 32 ∷ remark

cell_says : (w : ℕ) (remark : Text) (line : ℕ) → tokens_of_words line false (source_words (hex_number_source_word 6 w ++ 32 ∷ behind remark)) ≡ map (word_token line) (hex_number_source_word 6 w ∷ codes "," ∷ [])
cell_says w remark line =
    word_first line (hex_number_source_word 6 w) (behind remark) (number_ordinary 6 w)
    ∙ ap (λ (l : List TokenContent). word_token line (hex_number_source_word 6 w) ∷ l) (word_first line (codes ",") (92 ∷ 32 ∷ remark) (plain_word (codes ",") refl refl refl refl refl)
    ∙ ap (λ (l : List TokenContent). word_token line (codes ",") ∷ l) (remark_last line remark))

cell_line : (w : ℕ) (remark : Text) → list_all is_comment_byte remark ≡ true → length remark ≤ 80 → TextSaysWords ((hex_number_source_word 6 w ++ 32 ∷ behind remark) ++ 10 ∷ []) (hex_number_source_word 6 w ∷ codes "," ∷ [])
cell_line w remark inner short =
    says_line (hex_number_source_word 6 w ++ 32 ∷ behind remark) (hex_number_source_word 6 w ∷ codes "," ∷ []) refl
    (list_all-append is_comment_byte (hex_number_source_word 6 w) (32 ∷ behind remark) ∙ and_from (list_all is_comment_byte (hex_number_source_word 6 w)) (list_all is_comment_byte (32 ∷ behind remark)) (hex_inner 6 w) inner)
    (omega (arith, length-append (hex_number_source_word 6 w) (32 ∷ behind remark)))
    (no_end (hex_number_source_word 6 w) (behind remark))
    (λ none. cc)
    refl
    (cell_says w remark)

pub cell_added : (old with_number new : Text) (w : ℕ) (remark : Text) → with_number ≡ old ++ (hex_number_source_word 6 w ++ codes " , \\ ") → new ≡ (with_number ++ remark) ++ 10 ∷ [] → list_all is_comment_byte remark ≡ true → length remark ≤ 80 → AppendsSourceWords old new (hex_number_source_word 6 w ∷ codes "," ∷ [])
cell_added old with_number new w remark e f inner short = (
  (hex_number_source_word 6 w ++ 32 ∷ behind remark) ++ 10 ∷ [],
  f ∙ (ap (λ (t : Text). t ++ 10 ∷ []) (ap (λ (t : Text). t ++ remark) e ∙ (append_assoc old (hex_number_source_word 6 w ++ codes " , \\ ") remark ∙ ap (λ (t : Text). old ++ t) (append_assoc (hex_number_source_word 6 w) (codes " , \\ ") remark)))
      ∙ append_assoc old (hex_number_source_word 6 w ++ 32 ∷ behind remark) (10 ∷ [])),
  cell_line w remark inner short,
)

pub cell_words_added : (old between new : Text) (word address next : ℕ) → (word ≡ 0 → ⊥) → AppendsSourceWords old between (address_source_words address next) → AppendsSourceWords between new (hex_number_source_word 6 word ∷ codes "," ∷ []) → AppendsSourceWords old new (cell_source_words word address next)
cell_words_added old between new word address next some a b =
    subst (λ (words : List SourceWordText). AppendsSourceWords old new words) (sym (cond-false (word == 0) [] (address_source_words address next ++ (hex_number_source_word 6 word ∷ codes "," ∷ [])) (ne_eqb word 0 some)))
    (both_added old between new (address_source_words address next) (hex_number_source_word 6 word ∷ codes "," ∷ []) a b)

pub cell_words_usual : (old : Text) (word address next : ℕ) → word ≡ 0 → AppendsSourceWords old old (cell_source_words word address next)
cell_words_usual old word address next none =
    nothing_added old (cell_source_words word address next) (cond-true (word == 0) [] (address_source_words address next ++ (hex_number_source_word 6 word ∷ codes "," ∷ [])) (eq-eqb word 0 none))

-- ---- remarks

pub remark_none : (old : Text) → AddsBytesWithinLastLine 0 old old
remark_none old = ([], sym (append-nil old), refl, omega arith)

pub remark_more : (m n : ℕ) (old new : Text) → m ≤ n → AddsBytesWithinLastLine m old new → AddsBytesWithinLastLine n old new
remark_more m n old new less a = (a.0, a.1, a.2, omega (arith, a.3))

pub remark_both : (m n most : ℕ) (old between new : Text) → m + n ≤ most → AddsBytesWithinLastLine m old between → AddsBytesWithinLastLine n between new → AddsBytesWithinLastLine most old new
remark_both m n most old between new less a b = (
  a.0 ++ b.0,
  grown old between new a.0 b.0 a.1 b.1,
  list_all-append is_comment_byte a.0 b.0 ∙ and_from (list_all is_comment_byte a.0) (list_all is_comment_byte b.0) a.2 b.2,
  omega (arith, a.3, b.3, length-append a.0 b.0),
)

-- a byte that doesn't end its line, or none
pub remark_byte : (old new : Text) (byte : ℕ) → (byte ≡ 10 → ⊥) → (byte ≡ 13 → ⊥) → new ≡ old ++ byte ∷ [] → AddsBytesWithinLastLine 1 old new
remark_byte old new byte no_feed no_return e =
    let one : (byte == 10) ≡ false = ne_eqb byte 10 no_feed in
    let two : (byte == 13) ≡ false = ne_eqb byte 13 no_return in
    (byte ∷ [], e, rw (one, two) refl, omega arith)
