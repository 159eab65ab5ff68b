use Rattle.std.proofs.Common.{◌≡◌, ℕ, ◌+◌, ◌<◌, length, Ok, Err, sym, ◌∙◌, ap, arith, subst}
use Rattle.std.proofs.lemmas.Bool.{both_ways}
use Rattle.std.specs.Prelude.{Result, slice_index}
use Rattle.ga_journal.specs.Histories.{JournalState}
use Rattle.ga_journal.specs.Events.{kept_events_with_outcomes}
use Rattle.ga_event.specs.Told.{count_steps}
use Rattle.ga_rollback.specs.declared.rollback.RollbackFault.{RollbackFault}
use Rattle.ga_rollback.specs.declared.forecast.RollbackForecast.{RollbackForecast}
use Rattle.ga_lab.specs.declared.fault.LabFault.{LabFault}
use Rattle.ga_lab.specs.declared.fault.LabFault.TheVariants.{NoStep}
use Rattle.ga_lab.specs.Machine.{MachineState, has_step, state_after_rewind, rewind_answer}
use Rattle.ga_lab.proofs.Rewinding.{only_fault, stands_yes, stands_no, entries_fit, answer_refused, lab_anew, state_anew, answer_foretold, steps_foretold, state_ticked, if_ok, if_err, ok_if, err_if}
use Rattle.ga_lab.proofs.lab.Lab.forecast_rollback.Goals.{in-Ok, in-Err-NoStep}
use Rattle.ga_lab.proofs.lab.Lab.forecast_rollback.Goals as goal

pub forecast_rollback-requires-clause-fits : goal.forecast_rollback-requires-clause-fits
forecast_rollback-requires-clause-fits c =
    let book = c.reset_ticks.new.self.journal in
    let lab = lab_anew c.self.inside.chip c.self.inside.chronicle.journal book c.reset_ticks.ensures c.self.invariant in
    let short : length (kept_events_with_outcomes c.self.inside.chronicle.journal) < 4294967296 = (let v = c.kept-kept.ensures.value in let r : c.kept-kept.result < 4294967296 = c.kept-kept.type_inv in omega arith) in
    let same : length (kept_events_with_outcomes book) ≡ length (kept_events_with_outcomes c.self.inside.chronicle.journal) = ap (λ (b : JournalState). length (kept_events_with_outcomes b)) c.reset_ticks.ensures in
    let none : book.ticks.count ≡ 0 = ap (λ (b : JournalState). b.ticks.count) c.reset_ticks.ensures in
    let a = entries_fit c.self.inside.chip book lab (omega arith) in
    omega arith

pub returns-clause-answer : goal.returns-clause-answer
returns-clause-answer c =
    let book = c.reset_ticks.new.self.journal in
    let lab = lab_anew c.self.inside.chip c.self.inside.chronicle.journal book c.reset_ticks.ensures c.self.invariant in
    let view = state_anew c.self.inside.chip c.self.inside.chronicle.journal book c.reset_ticks.ensures ∙ c.self.view_is in
    let P : RollbackForecast → Type 0 = λ going. rewind_answer c.args.self.now c.args.node.number c.args.step ≡ Ok going.events in
    elim c.match-forecast_rollback.branch [
      | in-Ok w ↦ if_ok P _ w.in-Ok.going w.result-is
          (ap (λ z. rewind_answer z c.args.node.number c.args.step) (sym view)
          ∙ answer_foretold c.self.inside.chip book c.args.node.number c.args.step w.in-Ok.going.events w.in-Ok.going.steps lab.tied w.in-Ok.ensures.ok)
      | in-Err-NoStep w ↦ ok_if P _ NoStep w.result-is
    ]

pub returns-clause-steps : goal.returns-clause-steps
returns-clause-steps c =
    let book = c.reset_ticks.new.self.journal in
    let lab = lab_anew c.self.inside.chip c.self.inside.chronicle.journal book c.reset_ticks.ensures c.self.invariant in
    let view = state_anew c.self.inside.chip c.self.inside.chronicle.journal book c.reset_ticks.ensures ∙ c.self.view_is in
    let P : RollbackForecast → Type 0 = λ going. (m : ℕ) → slice_index going.steps m + count_steps m (state_after_rewind c.args.self.now c.args.node.number c.args.step).kept ≡ count_steps m c.args.self.now.kept in
    elim c.match-forecast_rollback.branch [
      | in-Ok w ↦ if_ok P _ w.in-Ok.going w.result-is
          (subst (λ (s : MachineState). (m : ℕ) → slice_index w.in-Ok.going.steps m + count_steps m (state_after_rewind s c.args.node.number c.args.step).kept ≡ count_steps m s.kept) view
          (steps_foretold c.self.inside.chip book c.args.node.number c.args.step w.in-Ok.going.events w.in-Ok.going.steps lab.tied w.in-Ok.ensures.ok))
      | in-Err-NoStep w ↦ ok_if P _ NoStep w.result-is
    ]

pub returns-clause-err : goal.returns-clause-err
returns-clause-err c =
    let book = c.reset_ticks.new.self.journal in
    let lab = lab_anew c.self.inside.chip c.self.inside.chronicle.journal book c.reset_ticks.ensures c.self.invariant in
    let view = state_anew c.self.inside.chip c.self.inside.chronicle.journal book c.reset_ticks.ensures ∙ c.self.view_is in
    let P : LabFault → Type 0 = λ why. rewind_answer c.args.self.now c.args.node.number c.args.step ≡ Err why in
    elim c.match-forecast_rollback.branch [
      | in-Ok w ↦ err_if P _ w.in-Ok.going w.result-is
      | in-Err-NoStep w ↦ if_err P _ NoStep w.result-is
          (ap (λ z. rewind_answer z c.args.node.number c.args.step) (sym view)
          ∙ sym (answer_refused c.self.inside.chip book c.args.node.number c.args.step lab.tied (w.in-Err-NoStep.ensures.refused.0 (ap (λ (f : RollbackFault). let r : Result RollbackForecast RollbackFault = Err f in r) (only_fault w.in-Err-NoStep.field-0)))))
    ]

pub returns-clause-same : goal.returns-clause-same
returns-clause-same c =
    let book = c.reset_ticks.new.self.journal in
    let view = state_anew c.self.inside.chip c.self.inside.chronicle.journal book c.reset_ticks.ensures ∙ c.self.view_is in
    state_ticked c.self.inside.chip book c.forecast_rollback.new.journal c.forecast_rollback.ensures.same ∙ view

pub returns-clause-refused : goal.returns-clause-refused
returns-clause-refused c =
    let book = c.reset_ticks.new.self.journal in
    let view = state_anew c.self.inside.chip c.self.inside.chronicle.journal book c.reset_ticks.ensures ∙ c.self.view_is in
    elim c.match-forecast_rollback.branch [
      | in-Ok w ↦ (
        λ e. let q : (let r : Result RollbackForecast LabFault = Ok w.in-Ok.going in r) ≡ Err NoStep = sym w.result-is ∙ e in absurd (cc),
        λ f. absurd (both_ways (has_step c.args.self.now c.args.node.number c.args.step) f
            (ap (λ (s : MachineState). has_step s c.args.node.number c.args.step) (sym view) ∙ stands_yes c.self.inside.chip book c.args.node.number c.args.step w.in-Ok.ensures.ok.stands)),
      )
      | in-Err-NoStep w ↦ (
        λ e. ap (λ (s : MachineState). has_step s c.args.node.number c.args.step) (sym view) ∙ stands_no c.self.inside.chip book c.args.node.number c.args.step (w.in-Err-NoStep.ensures.refused.0 (ap (λ (f : RollbackFault). let r : Result RollbackForecast RollbackFault = Err f in r) (only_fault w.in-Err-NoStep.field-0))),
        λ f. w.result-is,
      )
    ]
