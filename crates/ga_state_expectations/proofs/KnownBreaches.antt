-- What is known to be broken stays so, and no later event breaks it.
use Rattle.std.proofs.Common.{◌≡◌, ◌∙◌, ℕ, zero, suc, ◌+◌, ◌<◌, ◌≤◌, ◌==◌, min, Bool, true, false, cond, List, [], ◌∷◌, length, Option, Some, None, refl, sym, ap, arith}
use Rattle.std.specs.Prelude.{IsSome, is_some}
use Rattle.std.proofs.lemmas.Bool.{true≢false, false_from_ne_true, eqb-true}
use Rattle.ga_node.specs.Record.{NodeRecord}
use Rattle.ga_event.specs.declared.event.Event.{Event}
use Rattle.ga_event.specs.declared.made.MadeEvent.{MadeEvent}
use Rattle.ga_event.specs.Told.{made_event_at_place}
use Rattle.ga_lab.specs.Machine.{MachineState, machine_events_with_outcomes, earlier_state}
use Rattle.ga_scheduler.specs.Words.{link_transfer_count}
use Rattle.ga_scheduler.specs.Oldest.{earlier_place}
use Rattle.ga_scheduler.specs.Watched.{IsRunStep}
use Rattle.ga_scheduler.proofs.OldestLaws.{Found}
use Rattle.ga_scheduler.proofs.EarlierEvents.{HasOneMore, one_more_event, told_before_step, kept_before, length_more, IsOldestWith, both_with, none_with, all_with}
use Rattle.ga_state_conditions.specs.declared.condition.StateCondition.{StateCondition}
use Rattle.ga_state_conditions.specs.declared.condition.StateCondition.TheVariants.{HoldsAfterEvent, NodeIsStuck}
use Rattle.ga_state_links.specs.declared.expectation.LinkExpectation.{LinkExpectation}
use Rattle.ga_state_expectations.specs.declared.source.Expectation.{Expectation}
use Rattle.ga_state_expectations.specs.declared.source.Expectation.TheVariants.{NodeAtEveryEnd, Never, LinkPassesWords, EveryOrderEnds, OneEnd}
use Rattle.ga_state_expectations.specs.Violations.{is_unexpected_transfer}
use Rattle.ga_state_expectations.specs.Breaking.{is_unexpected_optional_transfer, is_unexpected_transfer_at, oldest_unexpected_transfer, oldest_event_of_never_condition, oldest_event_of_never, oldest_violation, is_last_place}
use Rattle.ga_state_expectations.specs.inner.{IsBrokenEarlier}
use Rattle.ga_state_expectations.proofs.BreachLaws.{violation_found}

-- ---- after a step

never_with : (all : List StateCondition) (old new : MachineState) → HasOneMore old new → IsOldestWith (length old.kept) (oldest_event_of_never all old) (oldest_event_of_never all new)
never_with [] old new h = none_with (length old.kept)
never_with (one ∷ all) old new h =
    both_with (length old.kept) (oldest_event_of_never_condition one old) (oldest_event_of_never_condition one new) (oldest_event_of_never all old) (oldest_event_of_never all new)
    (one_with one) (never_with all old new h)
  where
    one_with : (it : StateCondition) → IsOldestWith (length old.kept) (oldest_event_of_never_condition it old) (oldest_event_of_never_condition it new)
    one_with (HoldsAfterEvent u) = all_with (u ∷ []) old new h
    one_with (NodeIsStuck node) = none_with (length old.kept)

bare_state : List NodeRecord → List Event → MachineState
bare_state load kept = record { load = load; limit = 0; kept = kept; made = 0 }

count_bare : (w r : ℕ) (s : MachineState) → link_transfer_count s w r ≡ link_transfer_count (bare_state s.load s.kept) w r
unfolding bare_state
count_bare w r s = refl

count_same : (w r : ℕ) (s t : MachineState) → s.load ≡ t.load → s.kept ≡ t.kept → link_transfer_count s w r ≡ link_transfer_count t w r
count_same w r s t load kept =
    count_bare w r s
    ∙ ap (λ (z : List NodeRecord). link_transfer_count (bare_state z s.kept) w r) load
    ∙ ap (λ (z : List Event). link_transfer_count (bare_state t.load z) w r) kept
    ∙ sym (count_bare w r t)

unexpected_same : (expected : LinkExpectation) (o : Option MadeEvent) (s t : MachineState) → link_transfer_count s expected.from.number expected.to.number ≡ link_transfer_count t expected.from.number expected.to.number
    → is_unexpected_optional_transfer expected o s ≡ is_unexpected_optional_transfer expected o t
unexpected_same expected None s t e = refl
unexpected_same expected (Some m) s t e = ap (λ (k : ℕ). is_unexpected_transfer expected k m) e

unexpected_before_step : (expected : LinkExpectation) (old new : MachineState) → HasOneMore old new → (q : ℕ) → q < length old.kept → is_unexpected_transfer_at expected new q ≡ is_unexpected_transfer_at expected old q
unexpected_before_step expected old new h q l =
    ap (λ (o : Option MadeEvent). is_unexpected_optional_transfer expected o (earlier_state new (q + 1))) (told_before_step old new h q l)
    ∙ unexpected_same expected (made_event_at_place (machine_events_with_outcomes old) q) (earlier_state new (q + 1)) (earlier_state old (q + 1))
    (count_same expected.from.number expected.to.number (earlier_state new (q + 1)) (earlier_state old (q + 1)) h.load (kept_before old new h (q + 1) (omega (arith, l))))

link_before_step : (expected : LinkExpectation) (old new : MachineState) → HasOneMore old new → (n : ℕ) → n ≤ length old.kept → oldest_unexpected_transfer expected new n ≡ oldest_unexpected_transfer expected old n
link_before_step expected old new h zero l = refl
link_before_step expected old new h (suc n) l =
    ap (λ (z : Option ℕ). earlier_place z (cond (is_unexpected_transfer_at expected new n) (Some n) None)) (link_before_step expected old new h n (omega (arith, l)))
    ∙ ap (λ (b : Bool). earlier_place (oldest_unexpected_transfer expected old n) (cond b (Some n) None)) (unexpected_before_step expected old new h n (omega (arith, l)))

link_with : (expected : LinkExpectation) (old new : MachineState) → HasOneMore old new
    → IsOldestWith (length old.kept) (oldest_unexpected_transfer expected old (length old.kept)) (oldest_unexpected_transfer expected new (length new.kept))
link_with expected old new h = record {
  here = is_unexpected_transfer_at expected new (length old.kept);
  is = ap (oldest_unexpected_transfer expected new) (length_more old new h)
      ∙ ap (λ (z : Option ℕ). earlier_place z (cond (is_unexpected_transfer_at expected new (length old.kept)) (Some (length old.kept)) None)) (link_before_step expected old new h (length old.kept) (omega arith));
}

violation_with : (expectation : Expectation) (old new : MachineState) → HasOneMore old new → IsOldestWith (length old.kept) (oldest_violation expectation old) (oldest_violation expectation new)
violation_with (NodeAtEveryEnd expected) old new h = none_with (length old.kept)
violation_with (Never conditions) old new h = never_with conditions.items old new h
violation_with (LinkPassesWords expected) old new h = link_with expected old new h
violation_with EveryOrderEnds old new h = none_with (length old.kept)
violation_with OneEnd old new h = none_with (length old.kept)

-- ---- what was broken stays so

not_last : (p count : ℕ) → p < count → (suc count == p + 1) ≡ false
not_last p count l = false_from_ne_true (suc count == p + 1) (λ same. let e : suc count ≡ p + 1 = eqb-true (suc count) (p + 1) same in omega (arith, e, l))

stays : (f : ℕ → Bool) (count : ℕ) (before now : Option ℕ) → IsOldestWith count before now → Found f count before → IsSome before → IsSome now × (is_last_place now (suc count) ≡ false)
stays f count None now h found some = absurd (true≢false (sym some))
stays f count (Some p) now h found some =
    let below : p < count = found.0 in
    let least : (b : Bool) → earlier_place (Some p) (cond b (Some count) None) ≡ Some p = λ b. kept_as b below in
    let e : now ≡ Some p = h.is ∙ least h.here in
    (ap is_some e, ap (λ (o : Option ℕ). is_last_place o (suc count)) e ∙ not_last p count below)
  where
    kept_as : (b : Bool) → p < count → earlier_place (Some p) (cond b (Some count) None) ≡ Some p
    kept_as true l = ap (λ (n : ℕ). Some n) (let e : min p count ≡ p = omega (arith, l) in e)
    kept_as false l = refl

pub broken_stays : (expectation : Expectation) (old new : MachineState) (made : MadeEvent) → IsRunStep old new made → IsSome (oldest_violation expectation old) → IsBrokenEarlier expectation new
broken_stays expectation old new made step some =
    let h : HasOneMore old new = one_more_event old new made step in
    let it = stays _ (length old.kept) (oldest_violation expectation old) (oldest_violation expectation new) (violation_with expectation old new h) (violation_found expectation old) some in
    record {
      broken = it.0;
      earlier = ap (λ (n : ℕ). is_last_place (oldest_violation expectation new) n) (length_more old new h) ∙ it.1;
    }
