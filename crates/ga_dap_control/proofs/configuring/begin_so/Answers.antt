use Rattle.std.proofs.Common.{Bool, true, Some, None, [], ◌∷◌, codes, refl, sym, subst}
use Rattle.ga_dap_queries.specs.Sending.{Message}
use Rattle.ga_dap_queries.proofs.Sent.{sent_one}
use Rattle.ga_dap_control.specs.declared.execution.Execution.{Execution}
use Rattle.ga_dap_control.specs.declared.execution.RunGoal.TheVariants.{Continue}
use Rattle.ga_dap_control.specs.Configuring.{StopsOnEntryOrRuns}
use Rattle.ga_dap_control.specs.Stopping.{stopped_message}
use Rattle.ga_dap_control.proofs.configuring.begin_so.Goals as goal

pub returns-in_ok-emit_stopped_event-clause-sent : goal.returns-in_ok-emit_stopped_event-clause-sent
returns-in_ok-emit_stopped_event-clause-sent c =
    let message : Message = stopped_message (codes "entry") (codes "at load") c.first_of-first.result.number in
    let new : Execution = record c.args.execution.now { is_configured = true } in (
      message ∷ [],
      subst (λ (z : Bool). StopsOnEntryOrRuns z c.args.program.now c.args.execution.now (message ∷ []) new) (sym c.if-stops.true) (c.first_of-first.result, c.first_of-first.ensures, refl, refl),
      sent_one c.args.out.now message c.emit_stopped_event.new.out c.in_ok-emit_stopped_event.ensures.sent,
    )

pub returns-else-stops-clause-sent : goal.returns-else-stops-clause-sent
returns-else-stops-clause-sent c =
    let new : Execution = record c.args.execution.now { is_configured = true; goal = Some Continue; tally = None } in
    ([], subst (λ (z : Bool). StopsOnEntryOrRuns z c.args.program.now c.args.execution.now [] new) (sym c.if-stops.false) (refl, refl), refl)
