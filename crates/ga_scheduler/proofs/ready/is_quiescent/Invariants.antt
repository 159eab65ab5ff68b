use Rattle.std.proofs.Common.{◌≡◌, ◌<◌, ℕ, false}
use Rattle.ga_grid.specs.Chip.{records_of_chip}
use Rattle.ga_races.specs.Orders.{node_has_event}
use Rattle.ga_scheduler.proofs.ready.is_quiescent.Given as goal

abbrev pub invariant-loop-number : goal.invariant-loop-number
invariant-loop-number l = (n : ℕ) → n < l.number → node_has_event (records_of_chip l.chip) n ≡ false
