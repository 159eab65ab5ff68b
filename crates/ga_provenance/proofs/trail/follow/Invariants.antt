use Rattle.std.proofs.Common.{◌≡◌, ◌≤◌, true}
use Rattle.ga_event.specs.Flow.{IsNodePartInRange}
use Rattle.ga_provenance.specs.Origins.{origin_of_value}
use Rattle.ga_provenance.specs.inner.{AreRegistersAfterSteps}
use Rattle.ga_provenance.proofs.trail.follow.Given as goal

abbrev pub invariant-telling : goal.invariant-telling
invariant-telling l = record {
  part : IsNodePartInRange l.value.part;
  node : l.value.node ≡ l.initial.value.node;
  within : l.value.step ≤ l.initial.value.step;
  held : l.along ≡ true → AreRegistersAfterSteps l.lab l.value.node.number l.value.step l.registers;
  same : origin_of_value l.lab l.value ≡ origin_of_value l.lab l.initial.value;
}

abbrev pub decreases-telling : goal.decreases-telling
decreases-telling l = l.value.step
