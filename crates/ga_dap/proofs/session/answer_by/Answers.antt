use Rattle.std.proofs.Common.{Option, refl, subst}
use Rattle.ga_text.specs.Lines.{Text}
use Rattle.ga_dap.specs.Answering.{PerformsRequestUnlessRefused}
use Rattle.ga_dap.proofs.Known.{carries_so}
use Rattle.ga_dap.proofs.session.answer_by.Goals as goal

pub returns-in-Some : goal.returns-in-Some
returns-in-Some c = carries_so c.refuse.result _ _ _ _ _ _ c.refuse.ensures
    (λ messages told. subst (λ (z : Option Text). PerformsRequestUnlessRefused z c.args.command c.args.launched.now c.args.request.now messages c.args.launched.now) c.in-Some.ensures (told, refl))
    (λ stays. refl)

pub returns-in-None : goal.returns-in-None
returns-in-None c = carries_so c.answer_standing.result _ _ _ _ _ _ c.answer_standing.ensures
    (λ messages does. subst (λ (z : Option Text). PerformsRequestUnlessRefused z c.args.command c.args.launched.now c.args.request.now messages c.answer_standing.new.launched) c.in-None.ensures does)
    (λ stays. stays)
