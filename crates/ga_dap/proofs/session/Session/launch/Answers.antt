use Rattle.std.proofs.Common.{Option, refl, subst, sym}
use Rattle.ga_dap_control.specs.declared.launched.LaunchedSession.{LaunchedSession}
use Rattle.ga_dap.specs.Launches.{AnswersLaunchRequest}
use Rattle.ga_dap.proofs.Known.{carries_so}
use Rattle.ga_dap.proofs.session.Session.launch.Goals as goal

pub returns-in-Some : goal.returns-in-Some
returns-in-Some g c = carries_so c.refuse.result _ _ _ _ _ _ c.refuse.ensures
    (λ messages told. (
      subst (λ (l : Option LaunchedSession). AnswersLaunchRequest g.S.ProgramFiles.gives c.args.sources.now l c.args.request.now messages c.args.sources.now l) (sym c.in-Some.is) (told, refl, refl),
      refl,
    ))
    (λ stays. refl)
