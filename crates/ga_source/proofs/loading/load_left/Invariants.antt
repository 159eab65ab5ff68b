use Rattle.ga_source.specs.inner.{Adds, IsAnyFaultList}
use Rattle.ga_source.proofs.loading.load_left.Given as goal

abbrev pub invariant-loop-group : goal.invariant-loop-group
invariant-loop-group l = Adds IsAnyFaultList l.fn.faults.items l.faults.items
