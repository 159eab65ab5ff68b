use Rattle.std.proofs.Common.{◌≡◌, ◌≤◌, take, vec_len}
use Rattle.std.specs.Prelude.{vec_capacity}
use Rattle.ga_journal.specs.inner.Marks.{made_events_of_entries}
use Rattle.ga_journal.proofs.histories.Histories.mades.Given as goal

abbrev pub invariant-loop-place : goal.invariant-loop-place
invariant-loop-place l =
    (l.list.items ≡ made_events_of_entries l.node 0 (take l.place l.history.items)) × (vec_len l.list ≡ l.place) × (l.entries ≤ vec_capacity l.list)
