use Rattle.std.proofs.Common.{take}
use Rattle.ga_shared.specs.Log.{HasMatchingReceipts}
use Rattle.ga_shared.proofs.closing.agrees.Given as goal

abbrev pub invariant-loop-i : goal.invariant-loop-i
invariant-loop-i g l = HasMatchingReceipts l.log (take l.i l.seats) l.worker
