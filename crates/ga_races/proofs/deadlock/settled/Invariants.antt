use Rattle.std.proofs.Common.{◌≡◌, ℕ, Bool, length}
use Rattle.ga_grid.specs.Chip.{records_of_chip}
use Rattle.ga_causal.specs.Dependence.{is_node_flagged}
use Rattle.ga_races.specs.Acts.{AreDeadlocked, IsMarkedSubset}
use Rattle.ga_races.proofs.Freeing.{how_many}
use Rattle.ga_races.proofs.deadlock.settled.Given as goal

abbrev pub invariant-freeing : goal.invariant-freeing
invariant-freeing l = record {
  size : length l.marks ≡ 144;
  fewer : IsMarkedSubset (is_node_flagged l.marks) (is_node_flagged l.initial.marks);
  greatest : (others : ℕ → Bool) → AreDeadlocked (records_of_chip l.chip) others → IsMarkedSubset others (is_node_flagged l.initial.marks) → IsMarkedSubset others (is_node_flagged l.marks);
}

abbrev pub decreases-freeing : goal.decreases-freeing
decreases-freeing l = how_many l.marks
