use Rattle.std.proofs.Common.{◌≡◌, ◌≢◌, ◌-◌, true, false, sym, ◌∙◌, arith}
use Rattle.ga_event.specs.declared.flow.part.NodePart.TheVariants.{Data}
use Rattle.ga_provenance.specs.Origins.{origin_after_steps, origin_of_value}
use Rattle.ga_provenance.proofs.Moves.{one_back}
use Rattle.ga_provenance.proofs.trail.follow_data.Goals as goal
use Rattle.ga_provenance.proofs.trail.follow_data.Goals.{In-Some}

true_false : true ≡ false → ⊥
true_false h = cc

before : (c : In-Some) → origin_after_steps c.args.lab.now c.args.followed.value.node (c.telling.step - 1) (Data c.in-Some.from) ≡ origin_of_value c.args.lab.now c.args.followed.value
before c =
    let some : c.telling.step ≢ 0 = omega (arith, c.telling-test.true) in
    one_back c.args.lab.now c.args.followed.value c.telling.step (Data c.telling.place) (Data c.in-Some.from) c.made_event_of_step-told.result some c.made_event_of_step-told.ensures (sym c.in-Some.ensures.value) c.telling.invariant.same

pub telling-preserved : goal.telling-preserved
telling-preserved c = record {
  place = c.in-Some.ensures.within;
  within = omega (arith, c.telling.invariant.within);
  held = λ is. absurd (true_false (sym is ∙ c.if-along.false));
  same = before (goal.at.telling-preserved c).In-Some;
}

pub telling-preserved-then-along : goal.telling-preserved-then-along
telling-preserved-then-along c = record {
  place = c.in-Some.ensures.within;
  within = omega (arith, c.telling.invariant.within);
  held = λ is. c.registers_before-registers.ensures;
  same = before (goal.at.telling-preserved-then-along c).In-Some;
}
