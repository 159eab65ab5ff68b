use Rattle.std.proofs.Common.{◌≡◌, ◌+◌, ◌-◌, ◌<◌, ◌≤◌, List, length, drop, get_or, vec_len}
use Rattle.std.specs.Prelude.{reverse, vec_capacity}
use Rattle.ga_journal.specs.inner.Histories.{entry_lists_of_histories, AreCutHistoriesOfLog, AreMadeEventsAtPlaces}
use Rattle.ga_journal.specs.Logs.{StampedEvent, AreHistoriesOfLog}
use Rattle.ga_journal.proofs.histories.Histories.recall_all.Given as goal

-- `left` events are not walked back yet, and the events at the places above them are in the list
abbrev pub invariant-loop-at : goal.invariant-loop-at
invariant-loop-at l =
    ((log : List StampedEvent) → l.kept ≡ length log → AreHistoriesOfLog log (entry_lists_of_histories l.self) l.fn.top →
    AreCutHistoriesOfLog (entry_lists_of_histories l.self) l.lengths l.top (drop (l.kept - l.left) log) × AreMadeEventsAtPlaces log (drop l.at l.places) (reverse l.list.items))
    × (l.left ≤ l.kept) × (0 < l.at → get_or l.places (l.at - 1) 0 < l.left) × (vec_len l.list + l.at ≡ length l.places) × (length l.places ≤ vec_capacity l.list)

abbrev pub decreases-loop-at : goal.decreases-loop-at
decreases-loop-at l = l.at
