use Rattle.std.proofs.Common.{◌≡◌, ◌∙◌, List, ℕ, Bor, Some, None, rules, length-set, sym, ap}
use Rattle.std.specs.Prelude.{Option, option_map}
use Rattle.ga_conditions.specs.Conditions.{parsed_condition, split_first_condition}
use Rattle.ga_conditions.proofs.OrLemmas.{given_more, left_more, all_given, none_given, too_many}
use Rattle.ga_conditions.proofs.alternatives.parse_conditions.Goals as goal

pub returns-in_err-conditions : goal.returns-in_err-conditions
returns-in_err-conditions c =
    let left = c.loop-place.left.now in
    let none : c.parse_condition.result ≡ None = search rules in
    let gives : c.from_residual.result ≡ None = search rules in
    gives
    ∙ sym (none_given c.args.notes.now c.args.text.now c.loop-place.conditions c.loop-place.place left c.loop-place-test.true c.loop-place.invariant.given
    (ap (parsed_condition c.args.notes.now) (sym c.split_first_condition.ensures.first) ∙ sym c.parse_condition.ensures ∙ none))

pub returns-in-None : goal.returns-in-None
returns-in-None c =
    let left = c.loop-place.left.now in
    let one : c.parse_condition.result ≡ Some c.in_ok-conditions.field-0 = search rules in
    let last : (split_first_condition c.loop-place.left.now).1 ≡ None =
    sym c.split_first_condition.ensures.others ∙ ap (λ (o : Option (Bor (List ℕ))). option_map (λ (z : Bor (List ℕ)). z.now) o) c.in-None.is in
    sym (all_given c.args.notes.now c.args.text.now c.loop-place.conditions c.loop-place.place left c.in_ok-conditions.field-0 c.loop-place-test.true c.loop-place.invariant.size
    c.loop-place.invariant.given c.loop-place.invariant.rest (ap (parsed_condition c.args.notes.now) (sym c.split_first_condition.ensures.first) ∙ sym c.parse_condition.ensures ∙ one) last)

pub loop-place-preserved : goal.loop-place-preserved
loop-place-preserved c =
    let left = c.loop-place.left.now in
    let one : c.parse_condition.result ≡ Some c.in_ok-conditions.field-0 = search rules in
    let more : (split_first_condition c.loop-place.left.now).1 ≡ Some c.in-Some.others.now =
    sym c.split_first_condition.ensures.others ∙ ap (λ (o : Option (Bor (List ℕ))). option_map (λ (z : Bor (List ℕ)). z.now) o) c.in-Some.is in
    record {
      size = length-set c.loop-place.conditions c.loop-place.place c.in_ok-conditions.field-0 ∙ c.loop-place.invariant.size;
      given = given_more c.args.notes.now c.args.text.now c.loop-place.conditions c.loop-place.place left c.in_ok-conditions.field-0 c.in-Some.others.now c.loop-place-test.true c.loop-place.invariant.size
          c.loop-place.invariant.given (ap (parsed_condition c.args.notes.now) (sym c.split_first_condition.ensures.first) ∙ sym c.parse_condition.ensures ∙ one) more;
      rest = left_more c.loop-place.conditions c.loop-place.place c.in_ok-conditions.field-0 c.loop-place-test.true c.loop-place.invariant.size c.loop-place.invariant.rest;
    }

pub returns : goal.returns
returns c = sym (too_many c.args.notes.now c.args.text.now c.loop-place.conditions c.loop-place.place c.loop-place.left.now c.loop-place-test.false c.loop-place.invariant.given)
