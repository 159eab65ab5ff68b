use Rattle.std.proofs.Common.{◌≡◌, ◌+◌, ◌<◌, length, Ok, Err, sym, ◌∙◌, ap, arith, subst}
use Rattle.std.proofs.lemmas.Bool.{both_ways}
use Rattle.ga_lab.specs.declared.fault.LabFault.TheVariants.{NoStep}
use Rattle.std.specs.Prelude.{Result, ℕ, OnErr}
use Rattle.ga_journal.specs.Histories.{RollbackWork, no_rollback_work, rollback_work_sum, JournalState}
use Rattle.ga_rollback.specs.declared.rollback.RollbackFault.{RollbackFault}
use Rattle.ga_journal.specs.Events.{kept_events_with_outcomes}
use Rattle.ga_lab.specs.Machine.{MachineState, has_step, state_after_rewind, rewind_answer, HasBoundedTicks}
use Rattle.ga_lab.specs.inner.LabInvariant.{IsLab, state_of}
use Rattle.ga_lab.proofs.Rewinding.{only_fault, stands_yes, stands_no, entries_fit, lab_rolled, state_rolled_back, answer_rolled_back, state_refused, answer_refused, lab_anew, state_anew, rest_exact, bounded_by, ticks_within, on_ok, on_err}
use Rattle.ga_lab.proofs.lab.Lab.rewind_counting_ticks.Goals.{in-Ok, in-Err-NoStep}
use Rattle.ga_lab.proofs.lab.Lab.rewind_counting_ticks.Goals as goal

pub rewind-requires-clause-fits : goal.rewind-requires-clause-fits
rewind-requires-clause-fits c =
    let book = c.reset_ticks.new.self.journal in
    let lab = lab_anew c.self.inside.chip c.self.inside.chronicle.journal book c.reset_ticks.ensures c.self.invariant in
    let short : length (kept_events_with_outcomes c.self.inside.chronicle.journal) < 4294967296 = (let v = c.kept-kept.ensures.value in let r : c.kept-kept.result < 4294967296 = c.kept-kept.type_inv in omega arith) in
    let same : length (kept_events_with_outcomes book) ≡ length (kept_events_with_outcomes c.self.inside.chronicle.journal) = ap (λ (b : JournalState). length (kept_events_with_outcomes b)) c.reset_ticks.ensures in
    let none : book.ticks.count ≡ 0 = ap (λ (b : JournalState). b.ticks.count) c.reset_ticks.ensures in
    let a = entries_fit c.self.inside.chip book lab (omega arith) in
    omega arith

pub rewind-requires-clause-tied : goal.rewind-requires-clause-tied
rewind-requires-clause-tied c = (lab_anew c.self.inside.chip c.self.inside.chronicle.journal c.reset_ticks.new.self.journal c.reset_ticks.ensures c.self.invariant).tied

pub rewind-requires-clause-rest : goal.rewind-requires-clause-rest
rewind-requires-clause-rest c = (lab_anew c.self.inside.chip c.self.inside.chronicle.journal c.reset_ticks.new.self.journal c.reset_ticks.ensures c.self.invariant).rest

pub add-requires : goal.add-requires
add-requires c =
    let book = c.reset_ticks.new.self.journal in
    let lab = lab_anew c.self.inside.chip c.self.inside.chronicle.journal book c.reset_ticks.ensures c.self.invariant in
    let short : length (kept_events_with_outcomes c.self.inside.chronicle.journal) < 4294967296 = (let v = c.kept-kept.ensures.value in let r : c.kept-kept.result < 4294967296 = c.kept-kept.type_inv in omega arith) in
    let same : length (kept_events_with_outcomes book) ≡ length (kept_events_with_outcomes c.self.inside.chronicle.journal) = ap (λ (b : JournalState). length (kept_events_with_outcomes b)) c.reset_ticks.ensures in
    let none : book.ticks ≡ no_rollback_work = ap (λ (b : JournalState). b.ticks) c.reset_ticks.ensures in
    let a = ticks_within book c.rewind.new.journal c.in-Ok.ensures.tick_counted none (entries_fit c.self.inside.chip book lab (omega arith)) in
    let b : c.ticks.result.now.count ≡ c.rewind.new.journal.ticks.count = ap (λ (w : RollbackWork). w.count) c.ticks.ensures in
    let f = c.requires.fits in
    omega arith

pub invariant_of-self : goal.invariant_of-self
invariant_of-self c =
    let book = c.reset_ticks.new.self.journal in
    let lab = lab_anew c.self.inside.chip c.self.inside.chronicle.journal book c.reset_ticks.ensures c.self.invariant in
    let view = state_anew c.self.inside.chip c.self.inside.chronicle.journal book c.reset_ticks.ensures ∙ c.self.view_is in
    elim c.match-rewind.branch [
      | in-Ok w ↦ lab_rolled c.self.inside.chip book c.args.node.number c.args.step c.rewind.new.journal c.rewind.new.chip w.in-Ok.removed w.in-Ok.ensures.ok
      | in-Err-NoStep w ↦ subst (λ z. IsLab c.rewind.new.chip z) (sym w.in-Err-NoStep.ensures.journal) (subst (λ z. IsLab z book) (sym w.in-Err-NoStep.ensures.chip) lab)
    ]

pub returns-clause-answer : goal.returns-clause-answer
returns-clause-answer c =
    let book = c.reset_ticks.new.self.journal in
    let lab = lab_anew c.self.inside.chip c.self.inside.chronicle.journal book c.reset_ticks.ensures c.self.invariant in
    let view = state_anew c.self.inside.chip c.self.inside.chronicle.journal book c.reset_ticks.ensures ∙ c.self.view_is in
    elim c.match-rewind.branch [
      | in-Ok w ↦ w.result-is
          ∙ answer_rolled_back c.self.inside.chip book c.args.node.number c.args.step c.rewind.new.journal c.rewind.new.chip w.in-Ok.removed lab.tied w.in-Ok.ensures.ok
          ∙ ap (λ z. rewind_answer z c.args.node.number c.args.step) view
      | in-Err-NoStep w ↦ w.result-is
          ∙ answer_refused c.self.inside.chip book c.args.node.number c.args.step lab.tied (w.in-Err-NoStep.ensures.refused.0 (ap (λ (f : RollbackFault). let r : Result ℕ RollbackFault = Err f in r) (only_fault w.in-Err-NoStep.field-0)))
          ∙ ap (λ z. rewind_answer z c.args.node.number c.args.step) view
    ]

pub returns-clause-state : goal.returns-clause-state
returns-clause-state c =
    let book = c.reset_ticks.new.self.journal in
    let lab = lab_anew c.self.inside.chip c.self.inside.chronicle.journal book c.reset_ticks.ensures c.self.invariant in
    let view = state_anew c.self.inside.chip c.self.inside.chronicle.journal book c.reset_ticks.ensures ∙ c.self.view_is in
    elim c.match-rewind.branch [
      | in-Ok w ↦ state_rolled_back c.self.inside.chip book c.args.node.number c.args.step c.rewind.new.journal c.rewind.new.chip w.in-Ok.removed lab.tied w.in-Ok.ensures.ok
          ∙ ap (λ z. state_after_rewind z c.args.node.number c.args.step) view
      | in-Err-NoStep w ↦ ap (λ z. state_of z c.rewind.new.journal) w.in-Err-NoStep.ensures.chip
          ∙ ap (state_of c.self.inside.chip) w.in-Err-NoStep.ensures.journal
          ∙ state_refused c.self.inside.chip book c.args.node.number c.args.step lab.tied (w.in-Err-NoStep.ensures.refused.0 (ap (λ (f : RollbackFault). let r : Result ℕ RollbackFault = Err f in r) (only_fault w.in-Err-NoStep.field-0)))
          ∙ ap (λ z. state_after_rewind z c.args.node.number c.args.step) view
    ]

pub returns-clause-refused : goal.returns-clause-refused
returns-clause-refused c =
    let book = c.reset_ticks.new.self.journal in
    let lab = lab_anew c.self.inside.chip c.self.inside.chronicle.journal book c.reset_ticks.ensures c.self.invariant in
    let view = state_anew c.self.inside.chip c.self.inside.chronicle.journal book c.reset_ticks.ensures ∙ c.self.view_is in
    elim c.match-rewind.branch [
      | in-Ok w ↦ (
        λ e. let q : Ok w.in-Ok.removed ≡ Err NoStep = sym w.result-is ∙ e in absurd (cc),
        λ f. absurd (both_ways (has_step c.args.self.now c.args.node.number c.args.step) f
            (ap (λ (s : MachineState). has_step s c.args.node.number c.args.step) (sym view) ∙ stands_yes c.self.inside.chip book c.args.node.number c.args.step w.in-Ok.ensures.ok.stands)),
      )
      | in-Err-NoStep w ↦ (
        λ e. ap (λ (s : MachineState). has_step s c.args.node.number c.args.step) (sym view) ∙ stands_no c.self.inside.chip book c.args.node.number c.args.step (w.in-Err-NoStep.ensures.refused.0 (ap (λ (f : RollbackFault). let r : Result ℕ RollbackFault = Err f in r) (only_fault w.in-Err-NoStep.field-0))),
        λ f. w.result-is,
      )
    ]

pub returns-clause-tick_counted : goal.returns-clause-tick_counted
returns-clause-tick_counted c =
    let book = c.reset_ticks.new.self.journal in
    let lab = lab_anew c.self.inside.chip c.self.inside.chronicle.journal book c.reset_ticks.ensures c.self.invariant in
    let view = state_anew c.self.inside.chip c.self.inside.chronicle.journal book c.reset_ticks.ensures ∙ c.self.view_is in
    let new = c.rewind.new.journal in
    let now = c.rewind.new.chip in
    let none : book.ticks ≡ no_rollback_work = ap (λ (b : JournalState). b.ticks) c.reset_ticks.ensures in
    let Bounded : MachineState → Type 0 = λ s.
    (work vain : ℕ) × (c.match-rewind.ticks.count ≡ c.args.ticks.now.count + work) × (c.match-rewind.ticks.vain ≡ c.args.ticks.now.vain + vain) × HasBoundedTicks s.kept (state_of now new).kept work vain in
    elim c.match-rewind.branch [
      | in-Ok w ↦
          let after = lab_rolled c.self.inside.chip book c.args.node.number c.args.step new now w.in-Ok.removed w.in-Ok.ensures.ok in
          let rise : c.match-rewind.ticks ≡ rollback_work_sum c.args.ticks.now new.ticks = w.ticks-is ∙ w.add.ensures ∙ ap (rollback_work_sum c.args.ticks.now) w.ticks.ensures in
          let is = bounded_by c.self.inside.chip now book new lab after w.in-Ok.ensures.tick_counted none in
          on_ok (Bounded c.args.self.now) _ w.in-Ok.removed w.result-is (subst Bounded view (new.ticks.count, new.ticks.vain, ap (λ (w : RollbackWork). w.count) rise, ap (λ (w : RollbackWork). w.vain) rise, is))
      | in-Err-NoStep w ↦ on_err (Bounded c.args.self.now) _ NoStep w.result-is
    ]

pub returns-clause-same : goal.returns-clause-same
returns-clause-same c =
    let book = c.reset_ticks.new.self.journal in
    let view = state_anew c.self.inside.chip c.self.inside.chronicle.journal book c.reset_ticks.ensures ∙ c.self.view_is in
    elim c.match-rewind.branch [
      | in-Ok w ↦ subst (λ z. OnErr z (state_of c.rewind.new.chip c.rewind.new.journal ≡ c.args.self.now)) (sym w.result-is) _
      | in-Err-NoStep w ↦ subst (λ z. OnErr z (state_of c.rewind.new.chip c.rewind.new.journal ≡ c.args.self.now)) (sym w.result-is)
          (ap (λ z. state_of z c.rewind.new.journal) w.in-Err-NoStep.ensures.chip ∙ ap (state_of c.self.inside.chip) w.in-Err-NoStep.ensures.journal ∙ view)
    ]

pub returns-clause-dependence : goal.returns-clause-dependence
returns-clause-dependence c place = rest_exact c.args.self.now _ c.args.node.number c.args.step place (returns-clause-state c)
