use Rattle.std.proofs.Common.{ℕ, List, ◌≡◌, ◌^◌, ◌<◌, [], ◌∷◌, ◌++◌, get_or, length, take, sym, ap, ◌∙◌, arith}
use Rattle.ga_word.specs.Word.{hex_digits_of_word}
use Rattle.ga_text.specs.Digits.{spaced_words_text}
use Rattle.ga_image.proofs.Pieces.{words_more, each_word, grown}
use Rattle.ga_image.proofs.field_text.push_words.Goals as goal

pub loop-word-preserved : goal.loop-word-preserved
loop-word-preserved c =
    let old : List ℕ = c.args.text.now.items in
    let text : List ℕ = c.loop-word.text.items in
    let new : List ℕ = c.extend_from_slice-in-loop-word.new.self.items in
    let words = c.args.words.now in
    let i = c.loop-word.word-index in
    let within : i < length words = omega arith in
    let small : get_or words i 0 < 2 ^ 18 = each_word words i within c.requires in
    let same : c.from_low_bits.result ≡ get_or words i 0 = omega (arith, c.from_low_bits.ensures) in
    let digits : c.to_hex_digits.result ≡ hex_digits_of_word (get_or words i 0) = c.to_hex_digits.ensures ∙ ap hex_digits_of_word same in
    let piece : new ≡ text ++ 32 ∷ hex_digits_of_word (get_or words i 0) =
    grown text c.extend_from_slice.new.self.items new (32 ∷ []) c.to_hex_digits.result c.in_ok-extend_from_slice.ensures.items c.in_ok-extend_from_slice-2.ensures.items
    ∙ ap (λ xs. text ++ 32 ∷ xs) digits in
    grown old text new (spaced_words_text (take i words)) (32 ∷ hex_digits_of_word (get_or words i 0)) c.loop-word.invariant piece
    ∙ ap (λ xs. old ++ xs) (sym (words_more words i within))
