use Rattle.std.proofs.Common.{◌≡◌, ◌<◌, ◌≤◌, ℕ}
use Rattle.ga_journal.specs.inner.Histories.{stamp_bound_of_history}
use Rattle.ga_journal.specs.Histories.{history}
use Rattle.ga_journal.proofs.histories.bounds.scan.Given as goal

abbrev pub invariant-loop-number : goal.invariant-loop-number
invariant-loop-number g l =
    (l.greatest ≡ stamp_bound_of_history (history (g.B.Bounds.seen l.histories) l.best.number))
    × ((m : ℕ) → m < l.number → stamp_bound_of_history (history (g.B.Bounds.seen l.histories) m) ≤ l.greatest)
