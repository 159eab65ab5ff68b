use Rattle.std.proofs.Common.{◌≡◌, ℕ, ◌<◌, ◌&&◌, length}
use Rattle.ga_causal.specs.Dependence.{is_node_flagged}
use Rattle.ga_explorer_text.specs.Ended.{is_not_live_node}
use Rattle.ga_explorer_text.proofs.ended.find_ended_marked_nodes.Given as goal

abbrev pub invariant-nodes : goal.invariant-nodes
invariant-nodes l = record {
  size : length l.ended ≡ 144;
  marked : (n : ℕ) → n < l.number → is_node_flagged l.ended n ≡ (is_node_flagged l.marks n && is_not_live_node l.live n);
}
