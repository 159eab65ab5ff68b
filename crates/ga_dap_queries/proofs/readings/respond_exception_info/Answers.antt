use Rattle.std.proofs.Common.{List, codes, Some, None, refl, ap, subst}
use Rattle.serde_json.specs.View.{view}
use Rattle.ga_node.specs.Record.{NodeRecord}
use Rattle.ga_dap_queries.specs.Readings.{TellsIfNodeIsDeadlocked}
use Rattle.ga_dap_queries.specs.Sending.{success_response, refused_response}
use Rattle.ga_dap_queries.proofs.Sent.{ok_then}
use Rattle.ga_dap_queries.proofs.readings.respond_exception_info.Goals as goal

pub returns-in-None-clause-sent : goal.returns-in-None-clause-sent
returns-in-None-clause-sent c = ok_then c.refuse.result c.refuse.ensures.sent
    (λ sent. (refused_response c.args.request.now (codes "exceptionInfo: no such thread"), (None, c.in-None.ensures, refl), sent))

pub returns-in_ok-body-in-Some-clause-sent : goal.returns-in_ok-body-in-Some-clause-sent
returns-in_ok-body-in-Some-clause-sent c = ok_then c.respond.result c.respond.ensures.sent
    (λ sent. (
      success_response c.args.request.now (view c.in_ok-body-in-Some.body),
      (
        Some c.in-Some.node,
        c.in-Some.ensures,
        (
          c.is_deadlocked-stuck.result,
          subst (λ (z : List NodeRecord). TellsIfNodeIsDeadlocked z c.in-Some.node.number c.is_deadlocked-stuck.result) c.chip.ensures.value c.is_deadlocked-stuck.ensures,
          ap (success_response c.args.request.now) c.in_ok-body-in-Some.ensures,
        ),
      ),
      sent,
    ))
