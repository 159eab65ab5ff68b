use Rattle.std.proofs.Common.{◌≡◌, ◌+◌, ◌-◌, List, length}
use Rattle.ga_journal.specs.inner.Histories.{entry_lists_of_histories}
use Rattle.ga_journal.specs.Logs.{StampedEvent, AreHistoriesOfLog}
use Rattle.ga_journal.proofs.Down.{IsDown}
use Rattle.ga_journal.proofs.histories.Histories.walk_down.Given as goal

-- the causes so far are those of the events walked, and the step was within the list before the last of them
abbrev pub invariant-loop-lengths : goal.invariant-loop-lengths
invariant-loop-lengths l =
    ((log : List StampedEvent) → l.kept ≡ length log → AreHistoriesOfLog log (entry_lists_of_histories l.self) l.fn.top →
    IsDown (entry_lists_of_histories l.self) l.lengths l.top log l.from.0.number l.from.1 l.causes.items (l.kept - l.before))
    × (length l.lengths ≡ 144) × (l.before + length l.causes.items ≡ l.kept)

abbrev pub decreases-loop-lengths : goal.decreases-loop-lengths
decreases-loop-lengths l = l.before
