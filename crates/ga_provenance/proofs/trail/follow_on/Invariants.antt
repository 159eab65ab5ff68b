use Rattle.std.proofs.Common.{◌≡◌, ◌≤◌}
use Rattle.ga_event.specs.Flow.{IsNodePartInRange}
use Rattle.ga_provenance.specs.Origins.{origin_of_value}
use Rattle.ga_provenance.specs.inner.{AreRegistersAfterSteps}
use Rattle.ga_provenance.proofs.trail.follow_on.Given as goal

abbrev pub invariant-passing : goal.invariant-passing
invariant-passing l = record {
  part : IsNodePartInRange l.followed.value.part;
  node : l.followed.value.node ≡ l.fn.value.node;
  within : l.followed.value.step ≤ l.fn.value.step;
  held : AreRegistersAfterSteps l.lab l.followed.value.node.number l.followed.value.step l.followed.registers;
  same : origin_of_value l.lab l.followed.value ≡ origin_of_value l.lab l.fn.value;
}

abbrev pub decreases-passing : goal.decreases-passing
decreases-passing l = l.followed.value.step
