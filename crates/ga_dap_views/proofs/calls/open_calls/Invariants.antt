use Rattle.std.proofs.Common.{◌≡◌, ◌≤◌, ◌+◌}
use Rattle.arrayvec.specs.ArrayVec.{array_vec_len}
use Rattle.ga_lab.specs.Machine.{node_at_step}
use Rattle.ga_dap_views.specs.Calls.{open_calls}
use Rattle.ga_dap_views.proofs.Windows.{Follows}
use Rattle.ga_dap_views.proofs.calls.open_calls.Given as goal

abbrev pub invariant-going : goal.invariant-going
invariant-going l = record {
  walk : l.walk ≡ node_at_step l.lab l.node l.walk.step;
  order : l.step ≤ l.walk.step;
  within : l.window.place + l.window.left ≤ 9;
  room : array_vec_len l.calls + l.window.left ≤ 9;
  same : Follows l.lab l.node (open_calls l.lab l.node) l.calls.items l.step l.window.place l.window.left;
}

abbrev pub decreases-going : goal.decreases-going
decreases-going l = l.step
