use Rattle.std.proofs.Common.{◌≡◌, ◌≤◌, [], length, vec_len, replicate}
use Rattle.std.specs.Prelude.{vec_capacity}
use Rattle.ga_journal.specs.inner.Histories.{entry_lists_of_histories}
use Rattle.ga_journal.proofs.histories.Histories.new.Given as goal

abbrev pub invariant-loop : goal.invariant-loop
invariant-loop l =
    (entry_lists_of_histories l.nodes.items ≡ replicate l.counter []) × (length l.nodes.items ≡ l.counter) × (vec_len l.nodes ≡ l.counter) × (144 ≤ vec_capacity l.nodes)
