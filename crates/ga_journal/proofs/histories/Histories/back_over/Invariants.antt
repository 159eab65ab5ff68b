use Rattle.std.proofs.Common.{◌≤◌, ◌-◌, List, length, drop}
use Rattle.ga_journal.specs.inner.Histories.{entry_lists_of_histories, AreCutHistoriesOfLog}
use Rattle.ga_journal.specs.Logs.{StampedEvent}
use Rattle.ga_journal.proofs.histories.Histories.back_over.Given as goal

abbrev pub invariant-loop : goal.invariant-loop
invariant-loop l =
    (log : List StampedEvent) → l.count ≤ length log → AreCutHistoriesOfLog (entry_lists_of_histories l.self) l.fn.lengths l.fn.top log → AreCutHistoriesOfLog (entry_lists_of_histories l.self) l.lengths l.top (drop (l.counter - 1) log)
