use Rattle.std.proofs.Common.{◌≡◌, ℕ, ◌<◌, ◌≤◌}
use Rattle.ga_journal.specs.Marks.{entries_to_remove}
use Rattle.ga_journal.specs.inner.Marks.{to_go}
use Rattle.ga_rollback.specs.inner.{AreSomeMarksRaised}
use Rattle.ga_rollback.proofs.forecast.release.Given as goal

abbrev pub invariant-nodes : goal.invariant-nodes
invariant-nodes l = record {
  raising : AreSomeMarksRaised l.fn.journal l.journal l.events;
  none : (m : ℕ) → m < l.n → entries_to_remove l.journal m ≡ 0;
  ahead : (m : ℕ) → l.n ≤ m → entries_to_remove l.journal m ≡ entries_to_remove l.fn.journal m;
}

abbrev pub invariant-marks : goal.invariant-marks
invariant-marks l = record {
  raising : AreSomeMarksRaised l.fn.journal l.journal l.events;
  none : (m : ℕ) → m < l.n → entries_to_remove l.journal m ≡ 0;
  ahead : (m : ℕ) → l.n < m → entries_to_remove l.journal m ≡ entries_to_remove l.fn.journal m;
}

abbrev pub decreases-marks : goal.decreases-marks
decreases-marks l = to_go l.journal
