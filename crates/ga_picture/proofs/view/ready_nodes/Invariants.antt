use Rattle.std.proofs.Common.{◌≡◌, ℕ, ◌<◌, length}
use Rattle.ga_grid.specs.Chip.{records_of_chip}
use Rattle.ga_causal.specs.Dependence.{is_node_flagged}
use Rattle.ga_picture.specs.Picture.{is_node_ready}
use Rattle.ga_picture.proofs.view.ready_nodes.Given as goal

abbrev pub invariant-nodes : goal.invariant-nodes
invariant-nodes l = record {
  size : length l.ready ≡ 144;
  marked : (n : ℕ) → n < l.number → is_node_flagged l.ready n ≡ is_node_ready (records_of_chip l.chip) n;
}
