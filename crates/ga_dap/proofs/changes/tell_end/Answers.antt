use Rattle.std.proofs.Common.{[], ◌∷◌, Option, refl, subst, sym}
use Rattle.ga_dap_control.specs.declared.stop_reason.StopReason.{StopReason}
use Rattle.ga_dap_queries.proofs.Sent.{ok_then, sent_one}
use Rattle.ga_dap.specs.Telling.{AreRunEndMessages}
use Rattle.ga_dap.proofs.changes.tell_end.Goals as goal

pub returns-in-Some : goal.returns-in-Some
returns-in-Some c =
    ok_then c.emit_run_end.result c.emit_run_end.ensures.sent
    (λ told. (
      told.0 ∷ [],
      subst (λ (stop : Option StopReason). AreRunEndMessages c.args.program.now c.args.settings.now stop (told.0 ∷ [])) (sym c.in-Some.is) (told.0, told.1, refl),
      sent_one c.args.out.now told.0 c.emit_run_end.new.out told.2,
    ))
