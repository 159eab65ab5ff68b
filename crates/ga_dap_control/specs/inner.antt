-- What came of the breakpoints of a request so far.
use Rattle.std.specs.Prelude.{map}
use Rattle.serde_json.specs.View.{view}
use Rattle.ga_dap_control.specs.declared.placing.PlacementProgress.{PlacementProgress}
use Rattle.ga_dap_control.specs.Placing.{BreakpointPlacement}

abbrev pub placement_of_progress : PlacementProgress → BreakpointPlacement
placement_of_progress p = record { told = map view p.told.items; placed = p.placed.items; next = p.next }
