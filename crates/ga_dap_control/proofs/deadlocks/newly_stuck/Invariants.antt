use Rattle.std.proofs.Common.{◌≡◌, ◌<◌, ℕ, false}
use Rattle.ga_causal.specs.Dependence.{is_node_flagged}
use Rattle.ga_dap_control.specs.Slices.{is_newly_deadlocked}
use Rattle.ga_dap_control.proofs.deadlocks.newly_stuck.Given as goal

abbrev pub invariant-nodes : goal.invariant-nodes
invariant-nodes l = (n : ℕ) → n < l.number → is_newly_deadlocked (is_node_flagged l.known) (is_node_flagged l.now) l.program n ≡ false
