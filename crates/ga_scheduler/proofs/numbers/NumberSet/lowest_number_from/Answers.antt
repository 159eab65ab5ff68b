use Rattle.std.proofs.Common.{arith, refl}
use Rattle.ga_scheduler.proofs.Sets.{is_in, none_until}
use Rattle.ga_scheduler.proofs.numbers.NumberSet.lowest_number_from.Goals as goal

pub returns-in-Some-clause-is_in : goal.returns-in-Some-clause-is_in
returns-in-Some-clause-is_in c = is_in c.args.self.now _ c.loop-index.index c.in-Some.place refl c.in-Some.ensures.in_range c.in-Some.ensures.one

pub returns-in-Some-clause-before : goal.returns-in-Some-clause-before
returns-in-Some-clause-before c =
    none_until c.args.self.now c.args.first c.loop-index.index c.loop-index.from c.in-Some.place (omega (arith, c.in-Some.ensures.in_range)) c.loop-index.invariant.before c.in-Some.ensures.before

pub loop-index-preserved : goal.loop-index-preserved
loop-index-preserved c = record {
  place = omega arith;
  reach = omega (arith, c.loop-index.invariant.reach, c.loop-index.invariant.place);
  before = λ m l h.
      none_until c.args.self.now c.args.first c.loop-index.index c.loop-index.from 64 (omega arith) c.loop-index.invariant.before c.in-None.ensures.none m l (omega arith);
}
