use Rattle.std.proofs.Common.{◌≡◌, ◌≤◌, ◌<◌, true}
use Rattle.ga_event.specs.declared.flow.part.NodePart.TheVariants.{Data}
use Rattle.ga_provenance.specs.Origins.{origin_after_steps, origin_of_value}
use Rattle.ga_provenance.specs.inner.{AreRegistersAfterSteps}
use Rattle.ga_provenance.proofs.trail.follow_data.Given as goal

abbrev pub invariant-telling : goal.invariant-telling
invariant-telling l = record {
  place : l.place < 10;
  within : l.step ≤ l.fn.followed.value.step;
  held : l.along ≡ true → AreRegistersAfterSteps l.lab l.node.number l.step l.registers;
  same : origin_after_steps l.lab l.fn.followed.value.node l.step (Data l.place) ≡ origin_of_value l.lab l.fn.followed.value;
}

abbrev pub decreases-telling : goal.decreases-telling
decreases-telling l = l.step
