use Rattle.std.proofs.Common.{◌≡◌, ◌≤◌}
use Rattle.ga_lab.specs.Machine.{node_at_step}
use Rattle.ga_event.specs.Flow.{IsNodePartInRange}
use Rattle.ga_provenance.specs.Origins.{origin_after_steps}
use Rattle.ga_provenance.proofs.origin.origin_behind.Given as goal

abbrev pub invariant-steps : goal.invariant-steps
invariant-steps l = record {
  node : l.value.node ≡ l.node;
  part : IsNodePartInRange l.value.part;
  trail : l.trail ≡ node_at_step l.lab l.node l.trail.step;
  order : l.value.step ≤ l.trail.step;
  back : l.value.step ≤ l.fn.step;
  same : origin_after_steps l.lab l.node l.value.step l.value.part ≡ origin_after_steps l.lab l.node l.fn.step l.fn.part;
}

abbrev pub decreases-steps : goal.decreases-steps
decreases-steps l = l.value.step
