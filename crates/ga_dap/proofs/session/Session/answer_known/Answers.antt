use Rattle.std.proofs.Common.{refl, subst, sym}
use Rattle.ga_dap_queries.specs.declared.request_name.RequestName.{RequestName}
use Rattle.ga_dap.specs.Answering.{AnswersKnownRequest}
use Rattle.ga_dap.proofs.Known.{of_launched, carries_so}
use Rattle.ga_dap.proofs.session.Session.answer_known.Goals as goal

pub returns-in-Initialize : goal.returns-in-Initialize
returns-in-Initialize g c = carries_so c.initialize.result _ _ _ _ _ _ c.initialize.ensures
    (λ messages does. subst (λ (k : RequestName). AnswersKnownRequest g.S.ProgramFiles.gives c.args.sources.now c.args.self.now k c.args.request.now messages c.args.sources.now c.initialize.new.self)
    (sym c.in-Initialize.is) (does, refl)) (λ stays. stays)

pub returns-in-Launch : goal.returns-in-Launch
returns-in-Launch g c = carries_so c.launch.result _ _ _ _ _ _ c.launch.ensures
    (λ messages does. subst (λ (k : RequestName). AnswersKnownRequest g.S.ProgramFiles.gives c.args.sources.now c.args.self.now k c.args.request.now messages c.launch.new.sources c.launch.new.self)
    (sym c.in-Launch.is) does) (λ stays. stays)

pub returns-in-Disconnect : goal.returns-in-Disconnect
returns-in-Disconnect g c = carries_so c.disconnect.result _ _ _ _ _ _ c.disconnect.ensures
    (λ messages does. subst (λ (k : RequestName). AnswersKnownRequest g.S.ProgramFiles.gives c.args.sources.now c.args.self.now k c.args.request.now messages c.args.sources.now c.disconnect.new.self)
    (sym c.in-Disconnect.is) (does, refl)) (λ stays. stays)

pub returns-in-Terminate : goal.returns-in-Terminate
returns-in-Terminate g c = carries_so c.terminate.result _ _ _ _ _ _ c.terminate.ensures
    (λ messages does. subst (λ (k : RequestName). AnswersKnownRequest g.S.ProgramFiles.gives c.args.sources.now c.args.self.now k c.args.request.now messages c.args.sources.now c.terminate.new.self)
    (sym c.in-Terminate.is) (does, refl)) (λ stays. stays)

pub returns-in_default : goal.returns-in_default
returns-in_default g c = carries_so c.answer_launched.result _ _ _ _ _ _ c.answer_launched.ensures
    (λ messages does. of_launched g.S.ProgramFiles.gives c.args.sources.now c.args.self.now c.args.command c.args.request.now messages c.answer_launched.new.self
    c.in_default.not-Initialize c.in_default.not-Launch c.in_default.not-Disconnect c.in_default.not-Terminate does) (λ stays. stays)
