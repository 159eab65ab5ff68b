use Rattle.std.proofs.Common.{Option, codes, refl, sym, subst}
use Rattle.ga_dap_breakpoints.specs.declared.stepping.StepMove.{StepMove}
use Rattle.ga_dap_queries.specs.Sending.{Message, bare_success_response, refused_response}
use Rattle.ga_dap_queries.proofs.Sent.{ok_then}
use Rattle.ga_dap_control.specs.Moving.{BeginsStepMove}
use Rattle.ga_dap_control.proofs.moving.begin_stepping.Goals as goal

pub returns-in-Some-clause-sent : goal.returns-in-Some-clause-sent
returns-in-Some-clause-sent c = ok_then c.begin.result c.begin.ensures.sent
    (λ sent. (
      bare_success_response c.args.request.now,
      subst (λ (z : Option StepMove). BeginsStepMove c.args.execution.now c.args.request.now z (bare_success_response c.args.request.now) c.begin.new.execution) (sym c.in-Some.is) (refl, sent.1),
      sent.0,
    ))

pub returns-in-None-clause-sent : goal.returns-in-None-clause-sent
returns-in-None-clause-sent c =
    let message : Message = refused_response c.args.request.now (codes "stepOut: the node is in no call that is kept") in
    ok_then c.refuse.result c.refuse.ensures.sent
    (λ sent. (
      message,
      subst (λ (z : Option StepMove). BeginsStepMove c.args.execution.now c.args.request.now z message c.args.execution.now) (sym c.in-None.is) (refl, refl),
      sent,
    ))
