use Rattle.std.proofs.Common.{sym, ◌∙◌, ap, subst, inl, inr, ⊎_elim, Ok, Err}
use Rattle.std.specs.Prelude.{Result, IsOk}
use Rattle.ga_event.specs.declared.made.MadeEvent.{MadeEvent}
use Rattle.ga_lab.specs.declared.fault.LabFault.{LabFault}
use Rattle.ga_lab.specs.Machine.{step_answer, answer_to_event}
use Rattle.ga_lab.proofs.Stepping.{answer_is, made_step, can_made}
use Rattle.ga_lab.proofs.lab.Lab.step_by_wait.Goals as goal

pub make-requires : goal.make-requires
make-requires c = can_made c.self.inside.chip c.self.inside.chronicle.journal c.args.self.now c.args.node c.in-Ok.event c.self.invariant.tied c.self.view_is c.in-Ok.ensures

pub returns-in-Err-clause-answer : goal.returns-in-Err-clause-answer
returns-in-Err-clause-answer c =
    inl (ap (λ (f : LabFault). Err f) c.fault_of.ensures ∙ sym (answer_is c.self.inside.chip c.self.inside.chronicle.journal c.args.node (Err c.in-Err.why) c.self.invariant.tied c.in-Err.ensures) ∙ ap (λ z. step_answer z c.args.node) c.self.view_is)

pub returns-in-Ok-clause-answer : goal.returns-in-Ok-clause-answer
returns-in-Ok-clause-answer c =
    let same = ap (λ s. answer_to_event s (Ok c.in-Ok.event)) (sym c.self.view_is) ∙ sym (answer_is c.self.inside.chip c.self.inside.chronicle.journal c.args.node (Ok c.in-Ok.event) c.self.invariant.tied c.in-Ok.ensures) ∙ ap (λ z. step_answer z c.args.node) c.self.view_is in
    ⊎_elim (λ h. inl (h ∙ same)) (λ h. inr (h.0, subst (λ (r : Result MadeEvent LabFault). IsOk r) same h.1)) c.make.ensures.answer

pub returns-in-Ok-clause-ok : goal.returns-in-Ok-clause-ok
returns-in-Ok-clause-ok c =
    made_step c.self.inside.chip c.self.inside.chronicle.journal c.args.self.now c.make.new.self c.args.node c.in-Ok.event c.make.result c.self.invariant.tied c.self.view_is c.in-Ok.ensures c.make.ensures.answer c.make.ensures.ok
