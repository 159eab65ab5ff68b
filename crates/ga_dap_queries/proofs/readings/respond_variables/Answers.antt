use Rattle.std.proofs.Common.{codes, Some, None, refl}
use Rattle.ga_dap_queries.specs.Sending.{refused_response}
use Rattle.ga_dap_queries.proofs.Sent.{ok_then}
use Rattle.ga_dap_queries.proofs.readings.respond_variables.Goals as goal

pub returns-in-None-clause-sent : goal.returns-in-None-clause-sent
returns-in-None-clause-sent c = ok_then c.refuse.result c.refuse.ensures.sent
    (λ sent. (refused_response c.args.request.now (codes "variables: no such reference"), (None, c.in-None.ensures, refl), sent))

pub returns-in-Some-clause-sent : goal.returns-in-Some-clause-sent
returns-in-Some-clause-sent c = ok_then c.tell_variables_at.result c.tell_variables_at.ensures.sent
    (λ sent. (sent.0, (Some c.in-Some.at, c.in-Some.ensures, sent.1), sent.2))
