use Rattle.std.proofs.Common.{List, inl, sym, subst}
use Rattle.ga_state_expectations.specs.declared.source.LineExpectation.{LineExpectation}
use Rattle.ga_dap_control.specs.Watched.{AreWatchedExpectations}
use Rattle.ga_dap_control.proofs.execution.make_events.Goals as goal

pub returns-in-Ok-clause-slice : goal.returns-in-Ok-clause-slice
returns-in-Ok-clause-slice c = inl (
  c.as_slice.result.now,
  subst (λ (z : List LineExpectation). AreWatchedExpectations c.args.program.now c.args.settings.now z) (sym c.as_slice.ensures.value) c.in-Ok.ensures.known.expectations,
  c.make_events_expecting-stop.ensures.slice,
)
