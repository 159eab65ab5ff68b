use Rattle.std.proofs.Common.{arith}
use Rattle.ga_race_detector.proofs.left.fill.Goals as goal

pub returns-clause-ok : goal.returns-clause-ok
returns-clause-ok c = record {
  size = (let q = c.fill.invariant.size in let l = c.fill.invariant.from in let m = c.fill.invariant.most in let past = c.fill-test.false in omega (arith, q, l, m, past));
  same = c.fill.invariant.same;
  more = c.fill.invariant.more;
}
