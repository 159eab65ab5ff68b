use Rattle.std.proofs.Common.{◌≡◌, ◌≤◌, ◌<◌}
use Rattle.ga_lab.specs.Machine.{node_at_step}
use Rattle.ga_dap_views.specs.Calls.{step_pushing_return_entry}
use Rattle.ga_dap_views.proofs.entries.step_pushing_return_entry.Given as goal

abbrev pub invariant-following : goal.invariant-following
invariant-following l = record {
  walk : l.walk ≡ node_at_step l.lab l.node l.walk.step;
  order : l.left ≤ l.walk.step;
  within : l.left ≤ l.step;
  place : l.place < 9;
  same : step_pushing_return_entry l.lab l.node l.step l.behind ≡ step_pushing_return_entry l.lab l.node l.left l.place;
}

abbrev pub decreases-following : goal.decreases-following
decreases-following l = l.left
