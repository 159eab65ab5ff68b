use Rattle.std.proofs.Common.{◌∙◌, ◌<◌, ◌≤◌, ℕ, None, sym, ap, subst, arith}
use Rattle.std.proofs.lemmas.List.{get_or_default}
use Rattle.std.proofs.lemmas.List.Elements.{All-get_or}
use Rattle.ga_causal.specs.Steps.{count_touching_events}
use Rattle.ga_grid.specs.declared.node_id.NodeId.{NodeId}
use Rattle.ga_race_detector.specs.declared.look_changes.LookChange.{LookChange}
use Rattle.ga_race_detector.specs.inner.Glances.{AreStepsLeftNearby, IsStepsLeftAround, IsRemovedStepMade, AreStepsKeptByLookRollback, rollback_step_of_look_change}
use Rattle.ga_race_detector.proofs.readings.around_of.Goals as goal

pub returns-in-Some-clause-around : goal.returns-in-Some-clause-around
returns-in-Some-clause-around c = λ glance is.
    c.requires.known c.args.place glance c.in-Some.around is
    (get_or_default c.args.known.now.items c.args.place None c.index.result.now (let q = c.requires.size in let l = c.requires.within in omega (arith, q, l)) ∙ sym c.index.ensures ∙ c.in-Some.is)

pub note-requires-clause-first : goal.note-requires-clause-first
note-requires-clause-first c =
    (subst (IsRemovedStepMade c.args.causes.now) (sym c.glance_at-other.ensures) (All-get_or (IsRemovedStepMade c.args.causes.now) c.args.glances.now c.others.at c.glance_at-other.result (omega arith) c.requires.steps)).first

pub others-preserved : goal.others-preserved
others-preserved c = record {
  size = c.note.ensures.size ∙ c.others.invariant.size;
  known = c.note.ensures.known c.args.causes.now c.args.glances.now
      (subst (λ (z : NodeId × ℕ). AreStepsLeftNearby c.args.causes.now z.0.number c.glance_at-of.result.node.number c.in_ok-lists.lists) c.taken-taken.ensures c.in_ok-lists.ensures.left)
      (subst (IsRemovedStepMade c.args.causes.now) (sym c.glance_at-other.ensures) (All-get_or (IsRemovedStepMade c.args.causes.now) c.args.glances.now c.others.at c.glance_at-other.result (omega arith) c.requires.steps))
      (omega arith) c.glance_at-other.ensures c.others.invariant.known;
}

pub at-requires : goal.at-requires
at-requires c =
    subst (λ (z : NodeId × ℕ). 0 < z.1) (sym c.taken-taken.ensures)
    (subst (IsRemovedStepMade c.args.causes.now) (sym c.glance_at-of.ensures) (All-get_or (IsRemovedStepMade c.args.causes.now) c.args.glances.now c.args.place c.glance_at-of.result c.requires.within c.requires.steps)).first

pub returns-clause-around : goal.returns-clause-around
returns-clause-around c = λ glance is.
    let of = c.glance_at-of.result in
    let step : IsRemovedStepMade c.args.causes.now of = subst (IsRemovedStepMade c.args.causes.now) (sym c.glance_at-of.ensures) (All-get_or (IsRemovedStepMade c.args.causes.now) c.args.glances.now c.args.place of c.requires.within c.requires.steps) in
    let lists = subst (λ (z : NodeId × ℕ). AreStepsLeftNearby c.args.causes.now z.0.number of.node.number c.in_ok-lists.lists) c.taken-taken.ensures c.in_ok-lists.ensures.left in
    let here : AreStepsKeptByLookRollback c.args.causes.now of c.at.result =
    subst (λ (z : ℕ). IsStepsLeftAround c.args.causes.now (rollback_step_of_look_change of).0.number z of.node.number c.at.result) (ap (λ (z : NodeId × ℕ). z.1) c.taken-taken.ensures)
    (c.at.ensures c.args.causes.now (rollback_step_of_look_change of).0.number of.node.number lists (subst (λ (z : ℕ). z ≤ count_touching_events (rollback_step_of_look_change of).0.number c.args.causes.now) (sym (ap (λ (z : NodeId × ℕ). z.1) c.taken-taken.ensures)) step.within)) in
    subst (λ (z : LookChange). AreStepsKeptByLookRollback c.args.causes.now z c.at.result) (c.glance_at-of.ensures ∙ get_or_default c.args.glances.now c.args.place of glance c.requires.within ∙ sym is) here
