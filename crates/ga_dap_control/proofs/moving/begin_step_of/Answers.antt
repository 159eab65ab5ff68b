use Rattle.std.proofs.Common.{Option, refl, ap, subst}
use Rattle.ga_dap_breakpoints.specs.declared.stepping.StepMove.{StepMove}
use Rattle.ga_dap_queries.specs.Sending.{refused_response}
use Rattle.ga_dap_queries.proofs.Sent.{ok_then}
use Rattle.ga_dap_control.specs.Moving.{BeginsStepMove}
use Rattle.ga_dap_control.proofs.Answered.{begins_unless, stopped_unless}
use Rattle.ga_dap_control.proofs.moving.begin_step_of.Goals as goal

pub returns-then-can_step-clause-sent : goal.returns-then-can_step-clause-sent
returns-then-can_step-clause-sent c = ok_then c.begin_stepping.result c.begin_stepping.ensures.sent
    (λ sent. (
      sent.0,
      begins_unless _ c.can_step.result c.args.kind c.args.execution.now c.args.request.now _ sent.0 c.begin_stepping.new.execution c.can_step.ensures c.if-can_step.true
          (subst (λ (z : Option StepMove). BeginsStepMove c.args.execution.now c.args.request.now z sent.0 c.begin_stepping.new.execution) c.requested_step_move-stepping.ensures sent.1),
      sent.2,
    ))

pub returns-else-can_step-clause-sent : goal.returns-else-can_step-clause-sent
returns-else-can_step-clause-sent c = ok_then c.refuse.result c.refuse.ensures.sent
    (λ sent. (
      refused_response c.args.request.now c.node_stopped.result.now,
      stopped_unless _ c.can_step.result c.args.kind c.args.execution.now c.args.request.now _ _ c.args.execution.now c.can_step.ensures c.if-can_step.false
          (ap (refused_response c.args.request.now) c.node_stopped.ensures, refl),
      sent,
    ))
