use Rattle.std.proofs.Common.{◌≡◌, ℕ, ◌+◌, ◌<◌, ◌≤◌, Some, length}
use Rattle.std.specs.Prelude.{slice_get, slice_index}
use Rattle.ga_scheduler.specs.declared.condition.Condition.{Condition}
use Rattle.ga_scheduler.specs.inner.{condition_transfer_count, condition_transfers_added}
use Rattle.ga_scheduler.proofs.watching.count_on.Given as goal

abbrev pub invariant-loop-place : goal.invariant-loop-place
invariant-loop-place l = record {
  size : length l.words ≡ 8;
  done : (k : ℕ) (one : Condition) → slice_get l.until k ≡ Some one → k < l.place → condition_transfer_count one l.lab ≡ slice_index l.words k;
  left : (k : ℕ) (one : Condition) → slice_get l.until k ≡ Some one → l.place ≤ k → condition_transfer_count one l.lab ≡ slice_index l.words k + condition_transfers_added one l.made;
}
