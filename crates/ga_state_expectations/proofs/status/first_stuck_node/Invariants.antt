use Rattle.std.proofs.Common.{◌≡◌, drop}
use Rattle.ga_causal.specs.Dependence.{is_node_flagged}
use Rattle.ga_state_expectations.specs.Statuses.{first_stuck_node}
use Rattle.ga_state_expectations.proofs.status.first_stuck_node.Given as goal

abbrev pub invariant-loop-condition : goal.invariant-loop-condition
invariant-loop-condition l = first_stuck_node (is_node_flagged l.stuck) (drop l.condition-index l.conditions) ≡ first_stuck_node (is_node_flagged l.stuck) l.conditions
