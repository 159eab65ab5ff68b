use Rattle.std.proofs.Common.{◌≡◌, ◌≤◌, List, length, drop, take, map, vec_len}
use Rattle.std.specs.Prelude.{vec_capacity}
use Rattle.ga_journal.specs.inner.Histories.{entry_lists_of_histories, AreCutHistoriesOfLog}
use Rattle.ga_journal.specs.Logs.{StampedEvent, AreHistoriesOfLog}
use Rattle.ga_journal.proofs.Recalling.{cause_at}
use Rattle.ga_journal.proofs.histories.Histories.all_causes.Given as goal

abbrev pub invariant-loop : goal.invariant-loop
invariant-loop l =
    ((log : List StampedEvent) → l.kept ≡ length log → AreHistoriesOfLog log (entry_lists_of_histories l.self) l.fn.top →
    (AreCutHistoriesOfLog (entry_lists_of_histories l.self) l.lengths l.top (drop l.counter log)) × (l.list.items ≡ map cause_at (take l.counter log)))
    × (vec_len l.list ≡ l.counter) × (l.kept ≤ vec_capacity l.list)
