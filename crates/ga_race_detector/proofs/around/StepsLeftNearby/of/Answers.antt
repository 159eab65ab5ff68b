use Rattle.std.proofs.Common.{◌+◌, ◌∙◌, ◌<◌, ℕ, cond, length, refl, drop, get_or, sym, ap, subst, arith}
use Rattle.ga_causal.specs.Dependence.{event_with_look_touches_node}
use Rattle.ga_race_detector.specs.inner.Glances.{IsEventAddedToSweep}
use Rattle.ga_race_detector.proofs.Lefts.{touching_next, behind_here, one_most, AreGoing, are_first, none_most, are_taken, are_most, are_few, are_ended}
use Rattle.ga_race_detector.proofs.around.StepsLeftNearby.of.Goals as goal

pub causes-init : goal.causes-init
causes-init c = record {
  going = are_first c.args.causes.now c.args.from.number c.args.node (λ (n : ℕ). get_or c.none-depths.result n 0) c.none-sweep.result c.none-depths.ensures c.none-sweep.ensures;
  all = refl;
  made = omega arith;
  few = none_most c.args.node c.none-sweep.result c.none-sweep.ensures;
}

pub take-requires : goal.take-requires
take-requires c = are_few c.causes.sweep c.causes.cause-index (omega arith) c.causes.invariant.few

pub causes-preserved : goal.causes-preserved
causes-preserved c =
    let all = c.args.causes.now in
    let r = c.args.from.number in
    let i = c.causes.cause-index in
    let e = c.cause-item.result in
    let within : i < length all = omega arith in
    let known : ℕ → ℕ = λ (n : ℕ). get_or c.causes.depths n 0 in
    let next : ℕ → ℕ = λ (n : ℕ). get_or c.put.new.self n 0 in
    let taken : IsEventAddedToSweep c.causes.sweep c.take.new.self e c.of-depth.result = c.in_ok-take.ensures.ok in
    record {
      going = are_taken all r c.args.node.number known next c.causes.made c.with_step-made.result c.causes.sweep c.take.new.self e (drop (i + 1) all)
          (subst (AreGoing all r c.args.node.number known c.causes.made c.causes.sweep) (behind_here all i e within c.cause-item.is) c.causes.invariant.going)
          (λ n. c.put.ensures n ∙ ap (λ (z : ℕ). cond {A = ℕ} (event_with_look_touches_node e n) z (known n)) c.of-depth.ensures)
          (subst (IsEventAddedToSweep c.causes.sweep c.take.new.self e) c.of-depth.ensures taken)
          c.with_step-made.ensures;
      all = c.with_step-made.ensures ∙ ap (λ (z : ℕ). z + cond {A = ℕ} (event_with_look_touches_node e r) 1 0) c.causes.invariant.all ∙ sym (touching_next r all i e within c.cause-item.is);
      made = (let q = c.with_step-made.ensures in let l = c.causes.invariant.made in one_most (event_with_look_touches_node e r) c.causes.made c.with_step-made.result i q l);
      few = are_most c.causes.sweep c.take.new.self e c.of-depth.result i taken c.causes.invariant.few;
    }

pub returns-clause-left : goal.returns-clause-left
returns-clause-left c =
    are_ended c.args.causes.now c.args.from.number c.args.node.number (λ (n : ℕ). get_or c.causes.depths n 0) c.causes.made c.causes.cause-index c.causes.sweep c.end.result
    (omega arith) c.causes.invariant.going c.causes.invariant.all c.end.ensures.here c.end.ensures.beside
