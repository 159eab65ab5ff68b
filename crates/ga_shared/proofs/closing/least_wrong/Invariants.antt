use Rattle.std.proofs.Common.{◌<◌, ℕ}
use Rattle.ga_shared.specs.Log.{HasMatchingReceipts}
use Rattle.ga_shared.proofs.closing.least_wrong.Given as goal

abbrev pub invariant-loop-worker : goal.invariant-loop-worker
invariant-loop-worker g l = (w : ℕ) → w < l.worker → HasMatchingReceipts l.log l.seats w
