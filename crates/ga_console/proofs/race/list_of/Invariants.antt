use Rattle.std.proofs.Common.{◌≡◌}
use Rattle.ga_console.specs.Race.{worker_calls}
use Rattle.ga_console.proofs.race.list_of.Given as goal

abbrev pub invariant-loop-call : goal.invariant-loop-call
invariant-loop-call l = l.list.items ≡ worker_calls l.worker l._call
