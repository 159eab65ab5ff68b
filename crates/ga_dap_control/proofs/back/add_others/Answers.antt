use Rattle.std.proofs.Common.{◌∙◌, ◌++◌, ℕ, ap, string_bytes}
use Rattle.ga_dap_control.specs.Back.{removed_steps_of_other_node_text}
use Rattle.ga_dap_control.proofs.WentLines.{none_gone, one_gone}
use Rattle.ga_dap_control.proofs.back.add_others.Goals as goal

pub nodes-init : goal.nodes-init
nodes-init c = none_gone c.args.gone.now.node.number c.args.gone.now.before c.args.lab.now (string_bytes c.args.text.now)

pub nodes-preserved : goal.nodes-preserved
nodes-preserved c =
    one_gone c.args.gone.now.node.number c.args.gone.now.before c.args.lab.now c.nodes.number (string_bytes c.args.text.now) (string_bytes c.nodes.text) _ c.nodes.invariant
    (c.in_ok-add_gone.ensures ∙ ap (λ (n : ℕ). string_bytes c.nodes.text ++ removed_steps_of_other_node_text c.args.gone.now.node.number c.args.gone.now.before c.args.lab.now n) c.new-node.ensures)
