use Rattle.std.proofs.Common.{◌≡◌, ℕ, List, ◌++◌, decimal, ap, ◌∙◌, arith}
use Rattle.ga_word.specs.Word.{hex_digits_of_word}
use Rattle.ga_node.specs.Record.{record_of_node}
use Rattle.ga_display.proofs.Pieces.{six_pieces}
use Rattle.ga_display.proofs.node_text.push_flags.Goals as goal

pub returns-clause-text : goal.returns-clause-text
unfolding record_of_node
returns-clause-text g c =
    let number : List ℕ → ℕ → List ℕ = λ text n. text ++ decimal n in
    let word : List ℕ → ℕ → List ℕ = λ text n. text ++ hex_digits_of_word n in
    let same : c.from_low_bits.result ≡ c.get-3.result = omega (arith, c.from_low_bits.ensures, c.get-3.ensures.in_range) in
    six_pieces c.args.out.now.items c.push_text.new.out.items c.push_decimal_digit.new.out.items c.push_text-2.new.out.items c.push_decimal_digit-2.new.out.items c.push_text-3.new.out.items c.push_word.new.out.items
    _ _ _ _ _ _
    c.push_text.ensures.text
    (c.push_decimal_digit.ensures.text ∙ ap (number c.push_text.new.out.items) c.get.ensures.value)
    c.push_text-2.ensures.text
    (c.push_decimal_digit-2.ensures.text ∙ ap (number c.push_text-2.new.out.items) c.get-2.ensures.value)
    c.push_text-3.ensures.text
    (c.push_word.ensures.text ∙ ap (word c.push_text-3.new.out.items) (same ∙ c.get-3.ensures.value))
