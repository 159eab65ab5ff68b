use Rattle.std.proofs.Common.{◌≡◌, ℕ, ◌<◌, true, false}
use Rattle.ga_grid.specs.Chip.{records_of_chip}
use Rattle.ga_causal.specs.Dependence.{is_node_flagged}
use Rattle.ga_races.specs.inner.{is_freed}
use Rattle.ga_races.proofs.deadlock.first_freed.Given as goal

abbrev pub invariant-loop-number : goal.invariant-loop-number
invariant-loop-number l = (n : ℕ) → n < l.number → is_node_flagged l.marks n ≡ true → is_freed (records_of_chip l.chip) (is_node_flagged l.marks) n ≡ false
