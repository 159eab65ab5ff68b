use Rattle.std.proofs.Common.{Option, ◌∷◌, [], refl, sym, subst}
use Rattle.ga_dap_queries.specs.Sending.{bare_success_response}
use Rattle.ga_dap_queries.proofs.Sent.{ok_then, sent_one}
use Rattle.ga_dap_control.specs.declared.execution.RunGoal.{RunGoal}
use Rattle.ga_dap_control.specs.Moving.{PausesIfRunning}
use Rattle.ga_dap_control.proofs.moving.tell_pause.Goals as goal

pub returns-in-None : goal.returns-in-None
returns-in-None c = ok_then c.acknowledge.result c.acknowledge.ensures.sent
    (λ sent. (
      bare_success_response c.args.request.now ∷ [],
      subst (λ (z : Option RunGoal). PausesIfRunning c.args.program.now c.args.request.now z (bare_success_response c.args.request.now ∷ [])) (sym c.in-None.is) refl,
      sent_one c.args.out.now (bare_success_response c.args.request.now) c.acknowledge.new.self sent,
    ))

pub returns-in-Some : goal.returns-in-Some
returns-in-Some c = ok_then c.tell_paused.result c.tell_paused.ensures
    (λ told. (told.0, subst (λ (z : Option RunGoal). PausesIfRunning c.args.program.now c.args.request.now z told.0) (sym c.in-Some.is) told.1, told.2))
