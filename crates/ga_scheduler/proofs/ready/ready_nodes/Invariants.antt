use Rattle.std.proofs.Common.{ℕ, ◌<◌, ◌≤◌}
use Rattle.ga_grid.specs.Chip.{records_of_chip}
use Rattle.ga_scheduler.specs.inner.{IsReadinessCorrectInSet}
use Rattle.ga_scheduler.proofs.ready.ready_nodes.Given as goal

abbrev pub invariant-loop-number : goal.invariant-loop-number
invariant-loop-number l = record {
  before : (n : ℕ) → n < l.number → IsReadinessCorrectInSet (records_of_chip l.chip) l.ready n;
  past : (n : ℕ) → 144 ≤ n → IsReadinessCorrectInSet (records_of_chip l.chip) l.ready n;
}
