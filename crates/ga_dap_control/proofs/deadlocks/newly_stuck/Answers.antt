use Rattle.std.proofs.Common.{◌∙◌, ap}
use Rattle.ga_causal.specs.Dependence.{is_node_flagged}
use Rattle.ga_dap_control.specs.Slices.{is_newly_deadlocked}
use Rattle.ga_dap_control.proofs.Answered.{none_more}
use Rattle.ga_dap_control.proofs.deadlocks.newly_stuck.Goals as goal

pub nodes-preserved : goal.nodes-preserved
nodes-preserved c =
    none_more (is_newly_deadlocked (is_node_flagged c.args.known.now) (is_node_flagged c.args.now.now) c.args.program.now) c.nodes.number c.is_newly_marked.result c.nodes.invariant
    (c.is_newly_marked.ensures ∙ ap (is_newly_deadlocked (is_node_flagged c.args.known.now) (is_node_flagged c.args.now.now) c.args.program.now) c.new-node.ensures) c.if-is_newly_marked.false
