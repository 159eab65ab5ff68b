use Rattle.std.proofs.Common.{◌∙◌, List, map, refl, ap}
use Rattle.serde_json.specs.View.{view}
use Rattle.ga_dap_queries.specs.Sending.{success_response}
use Rattle.ga_dap_control.specs.declared.configuration.PlacedBreakpoint.{PlacedBreakpoint}
use Rattle.ga_dap_control.proofs.breakpoints.set_placing.Goals as goal

pub returns-clause-sent : goal.returns-clause-sent
returns-clause-sent c = (
  success_response c.args.request.now (view c.in_ok-body.body),
  ap (success_response c.args.request.now) c.in_ok-body.ensures,
  record {
    placed = refl;
    points = c.in_ok-points.ensures ∙ ap (λ (z : List PlacedBreakpoint). map (λ (one : PlacedBreakpoint). one.breakpoint) z) c.as_slice.ensures.value;
    next = refl;
    others = refl;
  },
  c.in_ok-respond.ensures.sent,
)
