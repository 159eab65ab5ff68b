use Rattle.std.proofs.Common.{◌≡◌, ◌∙◌, Some, length, refl, sym, arith}
use Rattle.std.specs.Prelude.{slice_get}
use Rattle.std.proofs.lemmas.Option.{slice_get_read}
use Rattle.ga_scheduler.proofs.Needing.{none_more}
use Rattle.ga_state_expectations.specs.Breaking.{condition_holds_given_breach}
use Rattle.ga_state_expectations.proofs.Tested.{held_first, none_held}
use Rattle.ga_state_expectations.proofs.testing.first_condition_given_breach.Goals as goal

pub returns-then-condition_holds_given_breach : goal.returns-then-condition_holds_given_breach
returns-then-condition_holds_given_breach c =
    let there : slice_get c.args.until.now c.conditions.place ≡ Some c.index-until-place.result =
    slice_get_read c.args.until.now (length c.args.until.now) c.conditions.place c.index-until-place.result refl c.conditions-test.true c.index-until-place.is in
    sym (held_first c.args.breaks c.args.until.now c.conditions.place c.index-until-place.result c.args.made.now c.args.lab.now there c.conditions.invariant
    (sym c.condition_holds_given_breach.ensures ∙ c.if-condition_holds_given_breach.true))

pub conditions-preserved : goal.conditions-preserved
conditions-preserved c =
    let there : slice_get c.args.until.now c.conditions.place ≡ Some c.index-until-place.result =
    slice_get_read c.args.until.now (length c.args.until.now) c.conditions.place c.index-until-place.result refl c.conditions-test.true c.index-until-place.is in
    none_more (λ one. condition_holds_given_breach c.args.breaks one c.args.made.now c.args.lab.now) c.args.until.now c.conditions.place c.index-until-place.result there
    (sym c.condition_holds_given_breach.ensures ∙ c.if-condition_holds_given_breach.false) c.conditions.invariant

pub returns : goal.returns
returns c = sym (none_held c.args.breaks c.args.until.now c.args.made.now c.args.lab.now (λ k one is l. c.conditions.invariant k one is (omega (arith, l, c.conditions-test.false))))
