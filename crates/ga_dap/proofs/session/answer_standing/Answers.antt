use Rattle.std.proofs.Common.{refl, subst, sym, ap}
use Rattle.ga_dap_queries.specs.declared.debuggee.Debuggee.{Debuggee}
use Rattle.ga_dap_queries.specs.declared.request_name.RequestName.{RequestName}
use Rattle.ga_dap_control.specs.declared.launched.LaunchedSession.{LaunchedSession}
use Rattle.ga_dap.specs.Answering.{PerformsRequest}
use Rattle.ga_dap.proofs.Known.{of_place, carries_so}
use Rattle.ga_dap.proofs.session.answer_standing.Goals as goal

abbrev with_program : LaunchedSession → Debuggee → LaunchedSession
with_program l p = record l { program = p }

pub returns-in-StepBack : goal.returns-in-StepBack
returns-in-StepBack c = carries_so c.step_back.result _ _ _ _ _ _ c.step_back.ensures
    (λ messages does. subst (λ (k : RequestName). PerformsRequest k c.args.launched.now c.args.request.now messages (with_program c.args.launched.now c.step_back.new.program)) (sym c.in-StepBack.is) (does, refl))
    (λ stays. ap (with_program c.args.launched.now) stays)

pub returns-in-ReverseContinue : goal.returns-in-ReverseContinue
returns-in-ReverseContinue c = carries_so c.reverse.result _ _ _ _ _ _ c.reverse.ensures
    (λ messages does. subst (λ (k : RequestName). PerformsRequest k c.args.launched.now c.args.request.now messages (with_program c.args.launched.now c.reverse.new.program)) (sym c.in-ReverseContinue.is) (does, refl))
    (λ stays. ap (with_program c.args.launched.now) stays)

pub returns-in-Evaluate : goal.returns-in-Evaluate
returns-in-Evaluate c = carries_so c.evaluate.result _ _ _ _ _ _ c.evaluate.ensures
    (λ messages does. subst (λ (k : RequestName). PerformsRequest k c.args.launched.now c.args.request.now messages (with_program c.args.launched.now c.evaluate.new.program)) (sym c.in-Evaluate.is) (does, refl))
    (λ stays. ap (with_program c.args.launched.now) stays)

pub returns-in_default : goal.returns-in_default
returns-in_default c = carries_so c.in_place.result _ _ _ _ _ _ c.in_place.ensures
    (λ messages does. of_place c.args.command c.args.launched.now c.args.request.now messages c.in_place.new.launched c.in_default.not-StepBack c.in_default.not-ReverseContinue c.in_default.not-Evaluate does)
    (λ stays. stays)
