use Rattle.std.proofs.Common.{◌≡◌, Some, length, refl, arith}
use Rattle.std.specs.Prelude.{slice_get}
use Rattle.std.proofs.lemmas.Option.{slice_get_read, slice_get_within}
use Rattle.ga_scheduler.proofs.Needing.{needed_more}
use Rattle.ga_scheduler.proofs.watching.needs_of.Goals as goal

pub loop-condition-preserved : goal.loop-condition-preserved
loop-condition-preserved c =
    let there : slice_get c.args.until.now c.loop-condition.condition-index ≡ Some c.condition-item.result =
    slice_get_read c.args.until.now (length c.args.until.now) c.loop-condition.condition-index c.condition-item.result refl c.loop-condition-test.true c.condition-item.is in
    needed_more c.loop-condition.needs c.with-needs.result c.args.until.now c.loop-condition.condition-index c.condition-item.result there
    c.with-needs.ensures.covers c.with-needs.ensures.opcodes c.with-needs.ensures.fetches c.loop-condition.invariant

pub returns : goal.returns
returns c = λ k one is. c.loop-condition.invariant k one is (omega (arith, slice_get_within c.args.until.now k one is, c.loop-condition-test.false))
