use Rattle.std.proofs.Common.{◌≡◌, ◌∙◌, ℕ, suc, ◌+◌, ◌-◌, List, ◌∷◌, [], ◌++◌, Option, Bor, Some, None, Ok, length, sym, ap, arith}
use Rattle.std.specs.Prelude.{option_map}
use Rattle.std.proofs.lemmas.List.{length_push}
use Rattle.ga_conditions.specs.Conditions.{split_first_condition}
use Rattle.ga_state_conditions.specs.declared.condition.StateCondition.{StateCondition}
use Rattle.ga_state_conditions.specs.Asked.{parsed_state_condition, parsed_state_conditions_within, parsed_state_conditions}
use Rattle.ga_state_conditions.proofs.Spelling.{after_others, fault_first, last_first, next_first, too_many}
use Rattle.ga_state_conditions.proofs.asked.parse_state_conditions.Goals as goal

pub returns-in-Err-clause-conditions : goal.returns-in-Err-clause-conditions
returns-in-Err-clause-conditions c =
    let k : ℕ = 7 - c.conditions._place in
    let size : 8 - c.conditions._place ≡ suc k = omega (arith, c.conditions-test.true) in
    let first = ap (parsed_state_condition c.args.notes.now) (sym c.split_first_condition.ensures.first) ∙ sym c.parse_state_condition.ensures ∙ c.in-Err.is in
    fault_first c.args.notes.now k c.conditions.left.now c.conditions.conditions.items c.in-Err.fault (parsed_state_conditions c.args.notes.now c.args.text.now) first
    (ap (λ (n : ℕ). after_others c.conditions.conditions.items (parsed_state_conditions_within c.args.notes.now n c.conditions.left.now)) (sym size) ∙ c.conditions.invariant.rest)

pub returns-in-None-clause-conditions : goal.returns-in-None-clause-conditions
returns-in-None-clause-conditions c =
    let k : ℕ = 7 - c.conditions._place in
    let size : 8 - c.conditions._place ≡ suc k = omega (arith, c.conditions-test.true) in
    let first = ap (parsed_state_condition c.args.notes.now) (sym c.split_first_condition.ensures.first) ∙ sym c.parse_state_condition.ensures ∙ c.in-Ok.is in
    let last : (split_first_condition c.conditions.left.now).1 ≡ None =
    sym c.split_first_condition.ensures.others ∙ ap (λ (o : Option (Bor (List ℕ))). option_map (λ (z : Bor (List ℕ)). z.now) o) c.in-None.is in
    last_first c.args.notes.now k c.conditions.left.now c.conditions.conditions.items c.in-Ok.one (parsed_state_conditions c.args.notes.now c.args.text.now) first last
    (ap (λ (n : ℕ). after_others c.conditions.conditions.items (parsed_state_conditions_within c.args.notes.now n c.conditions.left.now)) (sym size) ∙ c.conditions.invariant.rest)
    ∙ ap (λ (z : List StateCondition). Ok z) (sym c.push.ensures.items)

pub conditions-preserved : goal.conditions-preserved
conditions-preserved c =
    let k : ℕ = 7 - c.conditions._place in
    let size : 8 - c.conditions._place ≡ suc k = omega (arith, c.conditions-test.true) in
    let first = ap (parsed_state_condition c.args.notes.now) (sym c.split_first_condition.ensures.first) ∙ sym c.parse_state_condition.ensures ∙ c.in-Ok.is in
    let next : (split_first_condition c.conditions.left.now).1 ≡ Some c.in-Some.others.now =
    sym c.split_first_condition.ensures.others ∙ ap (λ (o : Option (Bor (List ℕ))). option_map (λ (z : Bor (List ℕ)). z.now) o) c.in-Some.is in
    let rest = next_first c.args.notes.now k c.conditions.left.now c.in-Some.others.now c.conditions.conditions.items c.in-Ok.one
    (parsed_state_conditions c.args.notes.now c.args.text.now) first next
    (ap (λ (n : ℕ). after_others c.conditions.conditions.items (parsed_state_conditions_within c.args.notes.now n c.conditions.left.now)) (sym size) ∙ c.conditions.invariant.rest) in
    let left : 8 - (c.conditions._place + 1) ≡ k = omega arith in
    record {
      size = omega (arith, ap (λ (z : List StateCondition). length z) c.push.ensures.items, length_push c.conditions.conditions.items c.in-Ok.one, c.conditions.invariant.size);
      rest = ap (λ (z : List StateCondition). after_others z (parsed_state_conditions_within c.args.notes.now (8 - (c.conditions._place + 1)) c.in-Some.others.now)) c.push.ensures.items
          ∙ ap (λ (n : ℕ). after_others (c.conditions.conditions.items ++ c.in-Ok.one ∷ []) (parsed_state_conditions_within c.args.notes.now n c.in-Some.others.now)) left ∙ rest;
    }

pub returns-clause-conditions : goal.returns-clause-conditions
returns-clause-conditions c =
    let none : 8 - c.conditions._place ≡ 0 = omega (arith, c.conditions-test.false) in
    too_many c.args.notes.now c.conditions.left.now c.conditions.conditions.items (parsed_state_conditions c.args.notes.now c.args.text.now)
    (ap (λ (n : ℕ). after_others c.conditions.conditions.items (parsed_state_conditions_within c.args.notes.now n c.conditions.left.now)) (sym none) ∙ c.conditions.invariant.rest)
