use Rattle.std.proofs.Common.{ap}
use Rattle.ga_dap_queries.specs.Capabilities.{initialize_response}
use Rattle.ga_dap_queries.proofs.Sent.{ok_then}
use Rattle.ga_dap_queries.proofs.capabilities.respond_initialize.Goals as goal

pub returns-in-Some-clause-sent : goal.returns-in-Some-clause-sent
returns-in-Some-clause-sent c = ok_then c.refuse.result c.refuse.ensures.sent (λ sent. (_, ap (initialize_response c.args.request.now) c.in-Some.ensures, sent))

pub returns-in-None-clause-sent : goal.returns-in-None-clause-sent
returns-in-None-clause-sent c =
    ok_then c.tell_capabilities.result c.tell_capabilities.ensures.sent (λ sent. (_, ap (initialize_response c.args.request.now) c.in-None.ensures, sent))
