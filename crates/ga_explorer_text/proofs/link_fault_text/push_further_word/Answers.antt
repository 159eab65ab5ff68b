use Rattle.std.proofs.Common.{◌∙◌, ◌++◌, ℕ, List, ap, append_assoc}
use Rattle.std.specs.Prelude.{codes}
use Rattle.ga_word.specs.Word.{hex_digits_of_word}
use Rattle.ga_explorer_text.proofs.link_fault_text.push_further_word.Goals as goal

pub returns-clause-text : goal.returns-clause-text
returns-clause-text c =
    let text : List ℕ = codes "a further word is " in
    let word = c.from_low_bits-word.result in
    c.push_word.ensures.text ∙ ap (λ (z : List ℕ). z ++ hex_digits_of_word word) c.push_text.ensures.text
    ∙ append_assoc c.args.out.now.items text (hex_digits_of_word word)
    ∙ ap (λ (n : ℕ). c.args.out.now.items ++ (text ++ hex_digits_of_word n)) c.from_low_bits-word.ensures
