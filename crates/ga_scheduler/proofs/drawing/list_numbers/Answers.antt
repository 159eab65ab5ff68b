use Rattle.std.proofs.Common.{◌≡◌, ℕ, List, ◌∷◌, [], ◌++◌, length, sym, ◌∙◌, ap, arith}
use Rattle.ga_scheduler.specs.inner.{is_number_in_set}
use Rattle.ga_scheduler.specs.Schedules.{passing_numbers_below}
use Rattle.ga_scheduler.proofs.Drawn.{numbers_zero, numbers_next, numbers_end, numbers_few}
use Rattle.ga_scheduler.proofs.drawing.list_numbers.Goals as goal

pub loop-from-init : goal.loop-from-init
loop-from-init c = record {
  within = omega arith;
  listed = c.truncate.ensures.items ∙ sym (numbers_zero (is_number_in_set c.args.ready.now));
}

pub push-requires : goal.push-requires
push-requires c =
    let few = numbers_few (is_number_in_set c.args.ready.now) c.loop-from.from in
    let size : length c.loop-from.numbers.items ≡ length (passing_numbers_below (is_number_in_set c.args.ready.now) c.loop-from.from) = ap length c.loop-from.invariant.listed in
    (omega arith, omega (arith, few, size, c.loop-from-test.true))

pub loop-from-preserved : goal.loop-from-preserved
loop-from-preserved c = record {
  within = let l = c.in-Some.node.in_range in omega (arith, l);
  listed = c.push.ensures.items
      ∙ ap (λ (z : List ℕ). z ++ c.in-Some.node.number ∷ []) c.loop-from.invariant.listed
      ∙ numbers_next (is_number_in_set c.args.ready.now) c.loop-from.from c.in-Some.node.number (omega (arith, c.in-Some.ensures.least, c.new.ensures)) c.in-Some.ensures.is_in
      (λ m l h. c.in-Some.ensures.before m (omega (arith, l, c.new.ensures)) h);
}

pub returns-in-None : goal.returns-in-None
returns-in-None c =
    c.loop-from.invariant.listed
    ∙ numbers_end (is_number_in_set c.args.ready.now) c.loop-from.from 144 c.loop-from.invariant.within (λ m l h. c.in-None.ensures.none m (omega (arith, l, c.new.ensures)) h)
