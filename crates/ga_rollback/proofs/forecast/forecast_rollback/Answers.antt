use Rattle.std.proofs.Common.{refl, inl, inr, ⊎_elim, ◌≡◌, ◌<◌, ap, length, arith}
use Rattle.ga_journal.specs.Histories.{JournalState}
use Rattle.ga_journal.specs.Events.{kept_events_with_outcomes}
use Rattle.ga_journal.specs.Marks.{mark_of_node, entries_to_remove}
use Rattle.ga_rollback.specs.inner.{count_events_of_histories}
use Rattle.ga_rollback.proofs.Rewinding.{back_fits}
use Rattle.ga_rollback.proofs.Foretold.{counted_all, would_go, as_before, forecast_ticks, steps_whole}
use Rattle.ga_rollback.proofs.forecast.forecast_rollback.Goals as goal

pub release-events-requires-clause-few : goal.release-events-requires-clause-few
release-events-requires-clause-few c =
    let same : count_events_of_histories c.mark.new.journal.histories ≡ count_events_of_histories c.args.journal.now.histories = ap (λ (b : JournalState). count_events_of_histories b.histories) c.mark.ensures.others in
    let all : count_events_of_histories c.args.journal.now.histories ≡ length (kept_events_with_outcomes c.args.journal.now) = counted_all c.args.journal.now c.requires.whole in
    let kept : c.kept-kept.result ≡ length (kept_events_with_outcomes c.args.journal.now) = c.kept-kept.ensures.value in
    let r : c.kept-kept.result < 4294967296 = c.kept-kept.type_inv in
    omega arith

pub release-events-requires-clause-fits : goal.release-events-requires-clause-fits
release-events-requires-clause-fits c =
    let a = back_fits c.args.journal.now c.mark.new.journal c.mark.ensures.others c.mark.ensures.marked_nodes.sound c.mark.ensures.counted in
    let d = c.requires.fits in
    omega arith

pub returns-clause-ok : goal.returns-clause-ok
returns-clause-ok c =
    let steps : c.mark_of_node-steps.result ≡ mark_of_node c.args.journal.now c.args.node.number = c.mark_of_node-steps.ensures.value in
    let none : entries_to_remove c.args.journal.now c.args.node.number ≡ 0 = c.requires.rest.settled c.args.node.number in
    would_go c.args.journal.now c.mark.new.journal c.release-events.new.journal c.args.node.number c.args.step c.release-events.result c.mark.new.visited
    c.requires.whole (let a = c.if-step-eq0.false in omega arith) (let a = c.if-steps-step.false in omega arith)
    c.mark.ensures.others c.mark.ensures.marked_nodes c.mark.ensures.unseen c.release-events.ensures.done c.release-events.ensures.none c.mark.ensures.value

pub returns-clause-same : goal.returns-clause-same
returns-clause-same c =
    as_before c.args.journal.now c.mark.new.journal c.release-events.new.journal c.release-events.result c.mark_of_node-steps.ensures.sound c.requires.rest c.mark.ensures.marked_nodes.sound
    c.mark.ensures.others c.mark.ensures.idle c.release-events.ensures.done c.release-events.ensures.none

pub returns-clause-tick_counted : goal.returns-clause-tick_counted
returns-clause-tick_counted c =
    forecast_ticks c.args.journal.now c.mark.new.journal c.release-events.new.journal c.release-events.result c.mark.new.visited c.mark.ensures.marked_nodes.sound c.mark.ensures.counted
    c.release-events.ensures.done c.release-events.ensures.none c.mark.ensures.size c.mark.ensures.value

pub returns-then-step-eq0-clause-refused : goal.returns-then-step-eq0-clause-refused
returns-then-step-eq0-clause-refused c = (
  λ e. ⊎_elim inl
      (λ w. let l = w.1 in
      let steps = steps_whole c.args.journal.now c.args.node.number c.mark_of_node-steps.result c.requires.whole c.requires.rest c.mark_of_node-steps.ensures.value in
      inr (omega arith))
      c.then-step-eq0.either,
  λ h. refl,
)

pub returns-clause-refused : goal.returns-clause-refused
returns-clause-refused c = (
  λ e. absurd (cc),
  λ h. ⊎_elim
      (λ none. absurd (c.if-step-eq0.false none))
      (λ past. let steps = steps_whole c.args.journal.now c.args.node.number c.mark_of_node-steps.result c.requires.whole c.requires.rest c.mark_of_node-steps.ensures.value in
      let l = c.if-steps-step.false in
      absurd (omega arith))
      h,
)
