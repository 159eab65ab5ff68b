use Rattle.std.proofs.Common.{◌≤◌}
use Rattle.ga_provenance.specs.inner.{AreRegistersAfterSteps}
use Rattle.ga_provenance.proofs.kept.registers_at.Given as goal

abbrev pub invariant-going : goal.invariant-going
invariant-going l = record {
  held : AreRegistersAfterSteps l.lab l.node.number l.step l.registers;
  order : l.to ≤ l.step;
}

abbrev pub decreases-going : goal.decreases-going
decreases-going l = l.step
