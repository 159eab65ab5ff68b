use Rattle.std.proofs.Common.{◌≡◌, ◌<◌, ◌≤◌, ℕ, length}
use Rattle.ga_node.specs.Record.{record_of_node}
use Rattle.ga_grid.specs.Chip.{node_at}
use Rattle.ga_shared.specs.inner.{IsNodeAtDefaults}
use Rattle.ga_shared.proofs.copies.copy_of.Given as goal

abbrev pub invariant-loop-number : goal.invariant-loop-number
invariant-loop-number l = record {
  size : 0 < l.number → length l.chip ≡ 144;
  copy_size : length l.copy ≡ 144;
  same : (k : ℕ) → k < l.number → record_of_node (node_at l.copy k) ≡ record_of_node (node_at l.chip k);
  fresh : (k : ℕ) → l.number ≤ k → k < 144 → IsNodeAtDefaults (node_at l.copy k);
}
