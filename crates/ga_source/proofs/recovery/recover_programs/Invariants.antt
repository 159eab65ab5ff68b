use Rattle.std.proofs.Common.{◌≡◌, length, ◌-◌}
use Rattle.ga_source.proofs.Recovering.{AreFoundSoFar}
use Rattle.ga_source.proofs.recovery.recover_programs.Given as goal

abbrev pub invariant-loop-start : goal.invariant-loop-start
invariant-loop-start l = record {
  size : length l.begun ≡ 144;
  found : AreFoundSoFar l.all l.begun l.start l.faults.items;
}

abbrev pub decreases-loop-start : goal.decreases-loop-start
decreases-loop-start l = length l.all - l.start
