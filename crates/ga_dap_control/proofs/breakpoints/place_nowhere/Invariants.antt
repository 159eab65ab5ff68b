use Rattle.std.proofs.Common.{◌≡◌, map, replicate}
use Rattle.serde_json.specs.View.{view}
use Rattle.ga_dap_control.specs.Breakpoints.{other_file_breakpoint_object}
use Rattle.ga_dap_control.proofs.breakpoints.place_nowhere.Given as goal

abbrev pub invariant-asked : goal.invariant-asked
invariant-asked l = map view l.list.items ≡ replicate l._place other_file_breakpoint_object
