use Rattle.std.proofs.Common.{◌∙◌, Option, Some, refl, subst, sym, ap}
use Rattle.ga_dap_control.specs.declared.launched.LaunchedSession.{LaunchedSession}
use Rattle.ga_dap.specs.declared.session.Session.{Session}
use Rattle.ga_dap.specs.Answering.{AnswersRequestIfLaunched}
use Rattle.ga_dap.proofs.Known.{carries_so}
use Rattle.ga_dap.proofs.session.Session.answer_launched.Goals as goal

pub returns-in-Some : goal.returns-in-Some
returns-in-Some c =
    let new : LaunchedSession = c.answer_by.new.launched in
    carries_so c.answer_by.result _ _ _ _ _ _ c.answer_by.ensures
    (λ messages does. (subst (λ (l : Option LaunchedSession). AnswersRequestIfLaunched c.args.command l c.args.request.now messages (Some new)) (sym c.in-Some.is) (new, does, refl), refl))
    (λ stays. ap (λ (l : Option LaunchedSession). let s : Session = record c.args.self.now { launched = l } in s) (ap Some stays ∙ sym c.in-Some.is))
