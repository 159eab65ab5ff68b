use Rattle.std.proofs.Common.{sym, ◌∙◌, ap, arith, refl}
use Rattle.std.proofs.lemmas.List.{drop_all}
use Rattle.ga_journal.specs.Walked.{old_value_of_place}
use Rattle.ga_journal.proofs.Walks.{decides, passed_over, from_one}
use Rattle.ga_journal.proofs.history.overwritten_value.old_value_of_place.Goals as goal

pub loop-k-init : goal.loop-k-init
loop-k-init c = refl

pub returns-in-Some : goal.returns-in-Some
returns-in-Some c =
    sym
    (c.loop-k.invariant
    ∙ from_one c.args.what c.args.saved.now c.loop-k.k c.at-place.result c.at-place.ensures
    ∙ decides c.args.what c.at-place.result.0 c.at-place.result.1 _ _ (sym c.over.ensures ∙ c.in-Some.is))

pub loop-k-preserved : goal.loop-k-preserved
loop-k-preserved c =
    c.loop-k.invariant
    ∙ from_one c.args.what c.args.saved.now c.loop-k.k c.at-place.result c.at-place.ensures
    ∙ passed_over c.args.what c.at-place.result.0 c.at-place.result.1 _ (sym c.over.ensures ∙ c.in_default.is)

pub returns : goal.returns
returns c = sym (c.loop-k.invariant ∙ ap (old_value_of_place c.args.what) (drop_all c.loop-k.k c.args.saved.now (omega (arith, c.loop-k-test.false, c.len-k-end.ensures.value))))
