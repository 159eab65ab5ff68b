use Rattle.std.proofs.Common.{◌≡◌, ◌≤◌}
use Rattle.ga_lab.specs.Machine.{node_at_step}
use Rattle.ga_dap_views.specs.Spots.{slot_address_after_steps}
use Rattle.ga_dap_breakpoints.specs.Lines.{nearest_line_start}
use Rattle.ga_dap_breakpoints.proofs.lines.nearest_line_start.Given as goal

abbrev pub invariant-going : goal.invariant-going
invariant-going l = record {
  walk : l.walk ≡ node_at_step l.lab l.node l.walk.step;
  order : l.place ≤ l.walk.step;
  within : l.place ≤ l.from;
  spot : l.spot ≡ slot_address_after_steps l.lab l.node l.place;
  same : nearest_line_start l.notes l.lab l.node l.from l.most ≡ nearest_line_start l.notes l.lab l.node l.place l.left;
}

abbrev pub decreases-going : goal.decreases-going
decreases-going l = l.left
