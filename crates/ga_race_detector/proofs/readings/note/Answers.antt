use Rattle.std.proofs.Common.{◌≡◌, ◌<◌, ◌≤◌, ℕ, sym, subst}
use Rattle.ga_causal.specs.Steps.{count_touching_events}
use Rattle.ga_grid.specs.declared.node_id.NodeId.{NodeId}
use Rattle.ga_race_detector.specs.inner.Glances.{IsStepsLeftAround, rollback_step_of_look_change, AreStepsKeptByLookRollback}
use Rattle.ga_race_detector.proofs.Lefts.{hang_around, known_next}
use Rattle.ga_race_detector.proofs.readings.note.Goals as goal

pub at-around-requires : goal.at-around-requires
at-around-requires c = subst (λ (z : NodeId × ℕ). 0 < z.1) (sym c.taken-step.ensures) c.requires.first

pub returns-then-is_related-clause-known : goal.returns-then-is_related-clause-known
returns-then-is_related-clause-known c = λ causes glances lists step l is known.
    let other = c.args.other.now in
    let taken : c.taken-step.result ≡ rollback_step_of_look_change other = c.taken-step.ensures in
    let within : c.taken-step.result.1 ≤ count_touching_events (rollback_step_of_look_change other).0.number causes = subst (λ (z : NodeId × ℕ). z.1 ≤ count_touching_events (rollback_step_of_look_change other).0.number causes) (sym taken) step.within in
    let here : AreStepsKeptByLookRollback causes other c.at-around.result =
    subst (λ (z : NodeId × ℕ). IsStepsLeftAround causes (rollback_step_of_look_change other).0.number z.1 other.node.number c.at-around.result) taken
    (c.at-around.ensures causes (rollback_step_of_look_change other).0.number other.node.number (hang_around causes other c.args.of.now c.args.lists.now (c.is_related.ensures c.if-is_related.true) lists) within) in
    known_next causes glances c.args.known.now.items c.args.at other c.at-around.result c.requires.within l is here known
