use Rattle.std.specs.Prelude.{codes}
use Rattle.std.proofs.Common.{ℕ, List, ◌++◌, ap, ◌∙◌}
use Rattle.ga_display.specs.Texts.{register_text}
use Rattle.ga_node.specs.Record.{record_of_node}
use Rattle.ga_display.proofs.Pieces.{four_pieces}
use Rattle.ga_display.proofs.node_text.push_registers.Goals as goal

pub returns-clause-text : goal.returns-clause-text
unfolding record_of_node
returns-clause-text g c =
    let register : List ℕ → List ℕ → ℕ → List ℕ = λ text name n. text ++ register_text name n in
    four_pieces c.args.out.now.items c.push_register.new.out.items c.push_register-2.new.out.items c.push_register-3.new.out.items c.push_register-4.new.out.items
    _ _ _ _
    (c.push_register.ensures.text ∙ ap (register c.args.out.now.items (codes "p")) c.get.ensures.value)
    (c.push_register-2.ensures.text ∙ ap (register c.push_register.new.out.items (codes "a")) c.get-2.ensures.value)
    (c.push_register-3.ensures.text ∙ ap (register c.push_register-2.new.out.items (codes "b")) c.get-3.ensures.value)
    (c.push_register-4.ensures.text ∙ ap (register c.push_register-3.new.out.items (codes "i")) c.get-4.ensures.value)
