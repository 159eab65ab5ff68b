use Rattle.std.proofs.Common.{drop, map}
use Rattle.serde_json.specs.View.{view}
use Rattle.ga_dap_control.specs.Placing.{BreakpointPlacement, PlacesBreakpoints}
use Rattle.ga_dap_control.specs.inner.{placement_of_progress}
use Rattle.ga_dap_control.proofs.placing.place_all.Given as goal

abbrev pub invariant-asked : goal.invariant-asked
invariant-asked l =
    (new : BreakpointPlacement) → PlacesBreakpoints l.program l.family (map view (drop l.one-index l.asked)) (placement_of_progress l.placing) new
    → PlacesBreakpoints l.program l.family (map view l.asked) (placement_of_progress l.initial.placing) new
