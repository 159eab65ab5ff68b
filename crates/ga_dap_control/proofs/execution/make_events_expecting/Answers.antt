use Rattle.std.proofs.Common.{◌∙◌, ap}
use Rattle.ga_dap_control.specs.declared.execution.Execution.{Execution}
use Rattle.ga_dap_control.specs.Slices.{execution_after_stop}
use Rattle.ga_dap_control.proofs.execution.make_events_expecting.Goals as goal

pub returns-clause-slice : goal.returns-clause-slice
returns-clause-slice c = (
  c.advance-went.result,
  c.advance-went.new.execution,
  c.stuck_of-now.result,
  c.newly_stuck-stuck.result,
  c.advance-went.ensures.slice,
  c.stuck_of-now.ensures,
  c.newly_stuck-stuck.ensures,
  c.slice_stop_reason-stop.ensures,
  c.end_for.ensures ∙ ap (λ (z : Execution). execution_after_stop z c.slice_stop_reason-stop.result) c.keep_reported.ensures,
)
