use Rattle.std.proofs.Common.{take}
use Rattle.ga_shared.specs.Log.{HasMadeCalls}
use Rattle.ga_shared.proofs.workers.make_worker_calls.Given as goal

abbrev pub invariant-loop-i : goal.invariant-loop-i
invariant-loop-i g l = HasMadeCalls l.initial.seat l.seat (take l.i l.calls)
