use Rattle.std.proofs.Common.{◌≡◌, ◌↔◌, ℕ, ◌<◌, true, length}
use Rattle.ga_causal.specs.Dependence.{is_node_flagged}
use Rattle.ga_scheduler.specs.Idle.{IsIdleNode}
use Rattle.ga_scheduler.proofs.idle.find_idle_nodes.Given as goal

abbrev pub invariant-nodes : goal.invariant-nodes
invariant-nodes l = record {
  size : length l.marks ≡ 144;
  marked : (n : ℕ) → n < l.number → (is_node_flagged l.marks n ≡ true) ↔ IsIdleNode l.lab n;
}
