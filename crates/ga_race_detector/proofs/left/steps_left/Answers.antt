use Rattle.std.proofs.Common.{◌+◌, ◌∙◌, ◌<◌, ℕ, cond, length, refl, drop, get_or, sym, ap, subst, arith}
use Rattle.ga_causal.specs.Dependence.{event_with_look_touches_node}
use Rattle.ga_grid.specs.declared.node_id.NodeId.{NodeId}
use Rattle.ga_race_detector.specs.inner.Writers.{IsStepsLeftUpdated}
use Rattle.ga_race_detector.proofs.Depths.{going_taken, IsGoing}
use Rattle.ga_race_detector.proofs.Lefts.{going_none, going_end, touching_next, behind_here, one_most, if_ok}
use Rattle.ga_race_detector.proofs.left.steps_left.Goals as goal

pub causes-init : goal.causes-init
causes-init c = record {
  going = going_none c.args.causes.now c.args.node.number c.args.other.number (λ (n : ℕ). get_or c.none-depths.result n 0) c.none-left.result c.none-depths.ensures c.none-left.ensures.count c.none-left.ensures.list;
  of = c.none-left.ensures.node;
  all = refl;
  made = omega arith;
  count = (let q = c.none-left.ensures.count in omega (arith, q));
}

pub causes-preserved : goal.causes-preserved
causes-preserved c =
    let all = c.args.causes.now in
    let r = c.args.node.number in
    let m = c.args.other.number in
    let i = c.causes.cause-index in
    let e = c.cause-item.result in
    let within : i < length all = omega arith in
    let known : ℕ → ℕ = λ (n : ℕ). get_or c.causes.depths n 0 in
    let next : ℕ → ℕ = λ (n : ℕ). get_or c.put.new.self n 0 in
    let old = c.causes.left in
    let new = c.take.new.self in
    let taken : IsStepsLeftUpdated old new e c.of-depth.result = c.in_ok-take.ensures.ok in
    record {
      going = going_taken all r m known next c.causes.made c.with_step-made.result old new e (drop (i + 1) all)
          (ap (λ (z : NodeId). z.number) c.causes.invariant.of)
          (subst (IsGoing all r m known c.causes.made old.count old.list.items) (behind_here all i e within c.cause-item.is) c.causes.invariant.going)
          (λ n. c.put.ensures n ∙ ap (λ (z : ℕ). cond {A = ℕ} (event_with_look_touches_node e n) z (known n)) c.of-depth.ensures)
          (subst (IsStepsLeftUpdated old new e) c.of-depth.ensures taken)
          c.with_step-made.ensures;
      of = taken.node ∙ c.causes.invariant.of;
      all = c.with_step-made.ensures ∙ ap (λ (z : ℕ). z + cond {A = ℕ} (event_with_look_touches_node e r) 1 0) c.causes.invariant.all ∙ sym (touching_next r all i e within c.cause-item.is);
      made = (let q = c.with_step-made.ensures in let l = c.causes.invariant.made in one_most (event_with_look_touches_node e r) c.causes.made c.with_step-made.result i q l);
      count = (let q = taken.count in let l = c.causes.invariant.count in one_most (event_with_look_touches_node e old.node.number) old.count new.count i q l);
    }

pub returns-clause-left : goal.returns-clause-left
returns-clause-left c =
    if_ok c.end.result
    (λ left filled. going_end c.args.causes.now c.args.node.number c.args.other.number (λ (n : ℕ). get_or c.causes.depths n 0) c.causes.made c.causes.left.count c.causes.cause-index c.causes.left.list.items left.items
    (omega arith) c.causes.invariant.going c.causes.invariant.all filled)
    c.end.ensures.ok
