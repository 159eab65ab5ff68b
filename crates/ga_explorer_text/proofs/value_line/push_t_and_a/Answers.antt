use Rattle.std.proofs.Common.{◌++◌, List, ℕ, codes, ap, ◌∙◌, append_assoc}
use Rattle.ga_word.specs.Word.{hex_digits_of_word}
use Rattle.ga_display.specs.Texts.{register_text}
use Rattle.ga_explorer_text.proofs.value_line.push_t_and_a.Goals as goal

pub returns-clause-text : goal.returns-clause-text
returns-clause-text c =
    let rest : List ℕ = register_text (codes "a") c.args.words.a in
    c.push_named_word.ensures.text
    ∙ ap (λ (z : List ℕ). z ++ rest) c.push_spaced_word.ensures.text
    ∙ append_assoc c.args.out.now.items (codes " " ++ hex_digits_of_word c.args.words.word) rest
