use Rattle.std.proofs.Common.{Bool, [], ◌∷◌, codes, refl, sym, subst}
use Rattle.ga_dap_queries.specs.Sending.{Message, refused_response}
use Rattle.ga_dap_queries.proofs.Sent.{ok_then, sent_one}
use Rattle.ga_dap_control.specs.Configuring.{CompletesConfigurationUnlessDone}
use Rattle.ga_dap_control.proofs.configuring.configure_if.Goals as goal

pub returns-then-done-clause-sent : goal.returns-then-done-clause-sent
returns-then-done-clause-sent c =
    let message : Message = refused_response c.args.request.now (codes "configurationDone: it is done") in
    ok_then c.refuse.result c.refuse.ensures.sent
    (λ sent. (
      message ∷ [],
      subst (λ (z : Bool). CompletesConfigurationUnlessDone z c.args.program.now c.args.execution.now c.args.request.now (message ∷ []) c.args.execution.now) (sym c.if-done.true) (refl, refl),
      sent_one c.args.out.now message c.refuse.new.self sent,
    ))

pub returns-else-done-clause-sent : goal.returns-else-done-clause-sent
returns-else-done-clause-sent c = ok_then c.configure_once.result c.configure_once.ensures.sent
    (λ sent. (
      sent.0,
      subst (λ (z : Bool). CompletesConfigurationUnlessDone z c.args.program.now c.args.execution.now c.args.request.now sent.0 c.configure_once.new.execution) (sym c.if-done.false) sent.1,
      sent.2,
    ))
