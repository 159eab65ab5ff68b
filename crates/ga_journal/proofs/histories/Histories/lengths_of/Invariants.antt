use Rattle.std.proofs.Common.{◌≡◌, ◌<◌, ℕ, length}
use Rattle.std.specs.Prelude.{slice_index}
use Rattle.ga_journal.specs.inner.Histories.{entry_lists_of_histories}
use Rattle.ga_journal.specs.Histories.{history}
use Rattle.ga_journal.proofs.histories.Histories.lengths_of.Given as goal

abbrev pub invariant-loop-number : goal.invariant-loop-number
invariant-loop-number l = (length l.lengths ≡ 144) × ((n : ℕ) → n < l.number → slice_index l.lengths n ≡ length (history (entry_lists_of_histories l.self) n))
