use Rattle.std.proofs.Common.{List, subst}
use Rattle.ga_node.specs.Record.{NodeRecord}
use Rattle.ga_causal.specs.Dependence.{is_node_flagged}
use Rattle.ga_dap_control.specs.Slices.{IsGreatestDeadlock}
use Rattle.ga_dap_control.proofs.deadlocks.stuck_of.Goals as goal

pub returns : goal.returns
returns c = subst (λ (z : List NodeRecord). IsGreatestDeadlock z (is_node_flagged c.find_deadlocked_nodes.result)) c.chip.ensures.value (c.find_deadlocked_nodes.ensures.stuck, c.find_deadlocked_nodes.ensures.greatest)
