use Rattle.std.proofs.Common.{codes, refl}
use Rattle.ga_dap_queries.specs.Sending.{refused_response}
use Rattle.ga_dap_queries.proofs.Sent.{ok_then, with_within}
use Rattle.ga_dap_queries.proofs.disassembling.tell_counted.Goals as goal

pub returns-in-None-clause-sent : goal.returns-in-None-clause-sent
returns-in-None-clause-sent c = ok_then c.refuse.result c.refuse.ensures.sent
    (λ sent. (
      refused_response c.args.request.now (codes "disassemble: 4096 instructions at most"),
      with_within c.args.program.now c.args.request.now c.args.at _ _ _ c.in-None.ensures.value refl,
      sent,
    ))

pub returns-in-Some-clause-sent : goal.returns-in-Some-clause-sent
returns-in-Some-clause-sent c = ok_then c.tell_some.result c.tell_some.ensures.sent
    (λ sent. (sent.0, with_within c.args.program.now c.args.request.now c.args.at _ _ sent.0 c.in-Some.ensures.value sent.1, sent.2))
