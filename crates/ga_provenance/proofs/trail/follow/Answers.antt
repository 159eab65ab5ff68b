use Rattle.std.proofs.Common.{◌≡◌, ◌≢◌, ◌≤◌, ◌-◌, true, false, refl, sym, ap, ◌∙◌, arith}
use Rattle.ga_provenance.specs.declared.value.PartValue.{PartValue}
use Rattle.ga_provenance.specs.Origins.{origin_after_steps, origin_of_value}
use Rattle.ga_provenance.proofs.Moves.{one_back}
use Rattle.ga_provenance.proofs.trail.follow.Goals as goal
use Rattle.ga_provenance.proofs.trail.follow.Goals.{In-Some, in-Data+else-value-eq0, in_default}

true_false : true ≡ false → ⊥
true_false h = cc

-- a value whose words within the data stack are passed over
record Followed (c : In-Some) : Type 0 where
  some : c.match-value.value.step ≢ 0
  node : c.match-value.value.node ≡ c.args.value.node
  within : c.match-value.value.step ≤ c.args.value.step
  same : origin_of_value c.args.lab.now c.match-value.value ≡ origin_of_value c.args.lab.now c.args.value

followed : (c : In-Some) → Followed c
followed c = elim c.match-value.branch [
  | in-Data+else-value-eq0 w ↦
      let step = ap (λ (z : PartValue). z.step) w.value-is in
      record {
        some = omega (arith, step, w.if-value-eq0.false);
        node = ap (λ (z : PartValue). z.node) w.value-is ∙ w.follow_data-followed.ensures.node ∙ c.telling.invariant.node;
        within = omega (arith, step, w.follow_data-followed.ensures.within, c.telling.invariant.within);
        same = ap (λ (z : PartValue). origin_of_value c.args.lab.now z) w.value-is ∙ w.follow_data-followed.ensures.same ∙ c.telling.invariant.same;
      }
  | in_default w ↦
      let step = ap (λ (z : PartValue). z.step) w.value-is in
      record {
        some = omega (arith, step, c.telling-test.true);
        node = ap (λ (z : PartValue). z.node) w.value-is ∙ c.telling.invariant.node;
        within = omega (arith, step, c.telling.invariant.within);
        same = ap (λ (z : PartValue). origin_of_value c.args.lab.now z) w.value-is ∙ c.telling.invariant.same;
      }
]

before : (c : In-Some) → origin_after_steps c.args.lab.now c.match-value.value.node (c.match-value.value.step - 1) c.in-Some.part ≡ origin_of_value c.args.lab.now c.args.value
before c =
    let value = c.match-value.value in
    one_back c.args.lab.now value value.step value.part c.in-Some.part c.made_event_of_step-told.result (followed c).some c.made_event_of_step-told.ensures c.in-Some.ensures.value refl ∙ (followed c).same

pub telling-preserved : goal.telling-preserved
telling-preserved c =
    let there = followed (goal.at.telling-preserved c).In-Some in
    record {
      part = c.in-Some.ensures.part;
      node = there.node;
      within = omega (arith, there.within);
      held = λ is. absurd (true_false (sym is ∙ c.if-along.false));
      same = before (goal.at.telling-preserved c).In-Some;
    }

pub telling-preserved-then-along : goal.telling-preserved-then-along
telling-preserved-then-along c =
    let there = followed (goal.at.telling-preserved-then-along c).In-Some in
    record {
      part = c.in-Some.ensures.part;
      node = there.node;
      within = omega (arith, there.within);
      held = λ is. c.registers_before-registers.ensures;
      same = before (goal.at.telling-preserved-then-along c).In-Some;
    }
