use Rattle.std.proofs.Common.{◌≡◌, ℕ, ◌<◌, length}
use Rattle.ga_causal.specs.Dependence.{is_node_flagged}
use Rattle.ga_picture.specs.inner.{works_independently}
use Rattle.ga_picture.proofs.independent.NodeActivity.loose_nodes.Given as goal

abbrev pub invariant-nodes : goal.invariant-nodes
invariant-nodes l = record {
  size : length l.loose ≡ 144;
  marked : (n : ℕ) → n < l.number → is_node_flagged l.loose n ≡ works_independently l.self n;
}
