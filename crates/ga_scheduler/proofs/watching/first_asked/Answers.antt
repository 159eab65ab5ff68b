use Rattle.std.proofs.Common.{◌≡◌, ◌∙◌, Some, length, refl, sym, arith}
use Rattle.std.specs.Prelude.{slice_get}
use Rattle.std.proofs.lemmas.Option.{slice_get_read}
use Rattle.ga_scheduler.proofs.Needing.{held_first, none_held, none_more}
use Rattle.ga_scheduler.specs.Conditions.{holds_after_made_event}
use Rattle.ga_scheduler.proofs.watching.first_asked.Goals as goal

pub returns-then-holds_after_made_event : goal.returns-then-holds_after_made_event
returns-then-holds_after_made_event c =
    let there : slice_get c.args.until.now c.loop-place.place ≡ Some c.index-until-place.result =
    slice_get_read c.args.until.now (length c.args.until.now) c.loop-place.place c.index-until-place.result refl c.loop-place-test.true c.index-until-place.is in
    sym (held_first c.args.until.now c.loop-place.place c.index-until-place.result c.args.made.now c.args.lab.now there c.loop-place.invariant (sym c.holds_after_made_event.ensures ∙ c.if-holds_after_made_event.true))

pub loop-place-preserved : goal.loop-place-preserved
loop-place-preserved c =
    let there : slice_get c.args.until.now c.loop-place.place ≡ Some c.index-until-place.result =
    slice_get_read c.args.until.now (length c.args.until.now) c.loop-place.place c.index-until-place.result refl c.loop-place-test.true c.index-until-place.is in
    none_more (λ one. holds_after_made_event one c.args.made.now c.args.lab.now) c.args.until.now c.loop-place.place c.index-until-place.result there (sym c.holds_after_made_event.ensures ∙ c.if-holds_after_made_event.false) c.loop-place.invariant

pub returns : goal.returns
returns c = sym (none_held c.args.until.now c.args.made.now c.args.lab.now (λ k one is l. c.loop-place.invariant k one is (omega (arith, l, c.loop-place-test.false))))
