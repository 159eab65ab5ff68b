use Rattle.std.proofs.Common.{◌≡◌, ◌∙◌, Some, length, refl, sym}
use Rattle.std.specs.Prelude.{slice_get}
use Rattle.std.proofs.lemmas.Option.{slice_get_read}
use Rattle.ga_state_expectations.proofs.Tested.{one_tested, known_with}
use Rattle.ga_state_expectations.proofs.testing.breaks_one_expectation.Goals as goal

pub test_expectation-is_known-requires-clause-earlier : goal.test_expectation-is_known-requires-clause-earlier
test_expectation-is_known-requires-clause-earlier c is =
    c.lines.invariant.earlier c.lines.place c.index-expectations-place.result
    (slice_get_read c.args.expectations.now (length c.args.expectations.now) c.lines.place c.index-expectations-place.result refl c.lines-test.true c.index-expectations-place.is) is

pub returns-then-breaks-clause-known : goal.returns-then-breaks-clause-known
returns-then-breaks-clause-known c =
    let there : slice_get c.args.expectations.now c.lines.place ≡ Some c.index-expectations-place.result =
    slice_get_read c.args.expectations.now (length c.args.expectations.now) c.lines.place c.index-expectations-place.result refl c.lines-test.true c.index-expectations-place.is in
    known_with c.args.expectations.now c.args.lab.now c.lines.place c.lines.broken c.index-expectations-place.result c.test_expectation-is_known.result.0 there c.test_expectation-is_known.ensures.known c.lines.invariant

pub lines-preserved : goal.lines-preserved
lines-preserved c =
    let there : slice_get c.args.expectations.now c.lines.place ≡ Some c.index-expectations-place.result =
    slice_get_read c.args.expectations.now (length c.args.expectations.now) c.lines.place c.index-expectations-place.result refl c.lines-test.true c.index-expectations-place.is in
    one_tested c.args.expectations.now c.args.lab.now c.lines.place c.lines.broken c.index-expectations-place.result c.test_expectation-is_known.result.0 there c.test_expectation-is_known.ensures.known
    (sym c.test_expectation-is_known.ensures.breaks ∙ c.if-breaks.false) c.lines.invariant
