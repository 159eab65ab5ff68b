use Rattle.std.proofs.Common.{List, ℕ, ◌++◌, codes, ap, ◌∙◌, append_assoc}
use Rattle.ga_word.specs.Word.{hex_digits_of_word}
use Rattle.ga_text.specs.Digits.{name_of_node}
use Rattle.ga_explorer_text.proofs.races_text.push_from.Goals as goal

pub returns-clause-text : goal.returns-clause-text
returns-clause-text c =
    let old : List ℕ = c.args.out.now.items in
    let word = hex_digits_of_word c.args.word in
    let node = name_of_node c.args.node in
    c.push_node.ensures.text
    ∙ ap (λ (t : List ℕ). t ++ node) (c.push_text.ensures.text ∙ ap (λ (t : List ℕ). t ++ codes " from ") c.push_word.ensures.text)
    ∙ append_assoc (old ++ word) (codes " from ") node
    ∙ append_assoc old word (codes " from " ++ node)
