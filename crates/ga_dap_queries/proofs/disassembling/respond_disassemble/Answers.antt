use Rattle.std.proofs.Common.{codes, refl}
use Rattle.ga_dap_queries.specs.Sending.{refused_response}
use Rattle.ga_dap_queries.proofs.Sent.{ok_then, with_reference}
use Rattle.ga_dap_queries.proofs.disassembling.respond_disassemble.Goals as goal

pub returns-in-None-clause-sent : goal.returns-in-None-clause-sent
returns-in-None-clause-sent c = ok_then c.refuse.result c.refuse.ensures.sent
    (λ sent. (
      refused_response c.args.request.now (codes "disassemble: there is no memoryReference"),
      with_reference c.args.program.now c.args.request.now _ _ _ c.in-None.ensures refl,
      sent,
    ))

pub returns-in-Some-clause-sent : goal.returns-in-Some-clause-sent
returns-in-Some-clause-sent c = ok_then c.tell_referred.result c.tell_referred.ensures.sent
    (λ sent. (sent.0, with_reference c.args.program.now c.args.request.now _ _ sent.0 c.in-Some.ensures sent.1, sent.2))
