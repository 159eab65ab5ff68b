use Rattle.std.proofs.Common.{◌≡◌, ◌≤◌, ◌+◌}
use Rattle.ga_lab.specs.Machine.{node_at_step}
use Rattle.ga_dap_breakpoints.specs.Reversing.{hit_count_among_steps}
use Rattle.ga_dap_breakpoints.proofs.reversing.hit_count_among_steps.Given as goal

abbrev pub invariant-going : goal.invariant-going
invariant-going l = record {
  walk : l.walk ≡ node_at_step l.lab l.node l.walk.step;
  order : l.step ≤ l.walk.step;
  within : l.number + l.step ≤ l.among;
  same : hit_count_among_steps l.lab l.node l.one l.among ≡ l.number + hit_count_among_steps l.lab l.node l.one l.step;
}

abbrev pub decreases-going : goal.decreases-going
decreases-going l = l.step
