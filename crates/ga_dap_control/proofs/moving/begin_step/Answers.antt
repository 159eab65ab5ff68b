use Rattle.std.proofs.Common.{Some, None, refl, ap}
use Rattle.ga_dap_queries.specs.Sending.{refused_response}
use Rattle.ga_dap_queries.proofs.Sent.{ok_then}
use Rattle.ga_dap_control.proofs.moving.begin_step.Goals as goal

pub returns-in-None-clause-sent : goal.returns-in-None-clause-sent
returns-in-None-clause-sent c = ok_then c.refuse.result c.refuse.ensures.sent
    (λ sent. (
      refused_response c.args.request.now c.no_thread.result.now,
      (None, c.in-None.ensures, (ap (refused_response c.args.request.now) c.no_thread.ensures, refl)),
      sent,
    ))

pub returns-in-Some-clause-sent : goal.returns-in-Some-clause-sent
returns-in-Some-clause-sent c = ok_then c.begin_step_of.result c.begin_step_of.ensures.sent
    (λ sent. (sent.0, (Some c.in-Some.node, c.in-Some.ensures, sent.1), sent.2))
