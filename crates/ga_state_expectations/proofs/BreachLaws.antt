-- The event that broke an expectation is the oldest that violates it.
use Rattle.std.proofs.Common.{◌≡◌, ℕ, zero, suc, ◌+◌, ◌<◌, ◌||◌, Bool, false, List, [], ◌∷◌, length, Option, Some, None, refl, sym, subst, arith}
use Rattle.ga_event.specs.Told.{made_event_at_place}
use Rattle.ga_event.specs.declared.made.MadeEvent.{MadeEvent}
use Rattle.ga_lab.specs.Machine.{MachineState, machine_events_with_outcomes, earlier_state}
use Rattle.ga_scheduler.specs.declared.condition.Condition.{Condition}
use Rattle.ga_scheduler.specs.Oldest.{earlier_place, holds_after_optional_event, has_held_at, oldest_holding_event}
use Rattle.ga_scheduler.proofs.OldestEvents.{earlier_none}
use Rattle.ga_scheduler.proofs.OldestLaws.{Found, found_same, found_both, found_more, one_found}
use Rattle.ga_state_conditions.specs.declared.condition.StateCondition.{StateCondition}
use Rattle.ga_state_conditions.specs.declared.condition.StateCondition.TheVariants.{HoldsAfterEvent, NodeIsStuck}
use Rattle.ga_state_links.specs.declared.expectation.LinkExpectation.{LinkExpectation}
use Rattle.ga_state_expectations.specs.declared.source.Expectation.{Expectation}
use Rattle.ga_state_expectations.specs.declared.source.Expectation.TheVariants.{NodeAtEveryEnd, Never, LinkPassesWords, EveryOrderEnds, OneEnd}
use Rattle.ga_state_expectations.specs.Violations.{never_condition_holds, one_never_condition_holds, violates_as_optional_event, is_violated_at, IsOldestViolation}
use Rattle.ga_state_expectations.specs.Breaking.{is_unexpected_optional_transfer, is_unexpected_transfer_at, oldest_unexpected_transfer, oldest_event_of_never_condition, oldest_event_of_never, oldest_violation}

-- ---- conditions that should never hold

-- one of them holds after the event with this report, or the event at a place
abbrev never_after : List StateCondition → Option MadeEvent → MachineState → Bool
never_after all None t = false
never_after all (Some m) t = one_never_condition_holds all m t

abbrev never_at : List StateCondition → MachineState → ℕ → Bool
never_at all s q = never_after all (made_event_at_place (machine_events_with_outcomes s) q) (earlier_state s (q + 1))

abbrev condition_after : StateCondition → Option MadeEvent → MachineState → Bool
condition_after one None t = false
condition_after one (Some m) t = never_condition_holds one m t

abbrev condition_at : StateCondition → MachineState → ℕ → Bool
condition_at one s q = condition_after one (made_event_at_place (machine_events_with_outcomes s) q) (earlier_state s (q + 1))

same_condition : (u : Condition) (o : Option MadeEvent) (t : MachineState) → holds_after_optional_event u o t ≡ condition_after (HoldsAfterEvent u) o t
same_condition u None t = refl
same_condition u (Some m) t = refl

one_condition : (one : StateCondition) (s : MachineState) → Found (condition_at one s) (length s.kept) (oldest_event_of_never_condition one s)
one_condition (HoldsAfterEvent u) s =
    subst (Found (condition_at (HoldsAfterEvent u) s) (length s.kept)) (sym (earlier_none (oldest_holding_event u s (length s.kept))))
    (found_same (has_held_at u s) (condition_at (HoldsAfterEvent u) s) (length s.kept) (oldest_holding_event u s (length s.kept))
    (λ q. same_condition u (made_event_at_place (machine_events_with_outcomes s) q) (earlier_state s (q + 1))) (one_found u s (length s.kept)))
one_condition (NodeIsStuck node) s = λ q l. never_stuck (made_event_at_place (machine_events_with_outcomes s) q) (earlier_state s (q + 1))
  where
    never_stuck : (o : Option MadeEvent) (t : MachineState) → condition_after (NodeIsStuck node) o t ≡ false
    never_stuck None t = refl
    never_stuck (Some m) t = refl

never_more : (one : StateCondition) (all : List StateCondition) (o : Option MadeEvent) (t : MachineState) → (condition_after one o t || never_after all o t) ≡ never_after (one ∷ all) o t
never_more one all None t = refl
never_more one all (Some m) t = refl

never_found : (all : List StateCondition) (s : MachineState) → Found (never_at all s) (length s.kept) (oldest_event_of_never all s)
never_found [] s = λ q l. none_after (made_event_at_place (machine_events_with_outcomes s) q) (earlier_state s (q + 1))
  where
    none_after : (o : Option MadeEvent) (t : MachineState) → never_after [] o t ≡ false
    none_after None t = refl
    none_after (Some m) t = refl
never_found (one ∷ all) s =
    found_same (λ q. condition_at one s q || never_at all s q) (never_at (one ∷ all) s) (length s.kept) (earlier_place (oldest_event_of_never_condition one s) (oldest_event_of_never all s))
    (λ q. never_more one all (made_event_at_place (machine_events_with_outcomes s) q) (earlier_state s (q + 1)))
    (found_both (condition_at one s) (never_at all s) (length s.kept) (oldest_event_of_never_condition one s) (oldest_event_of_never all s) (one_condition one s) (never_found all s))

-- ---- words over a link

link_found : (expected : LinkExpectation) (s : MachineState) (n : ℕ) → Found (is_unexpected_transfer_at expected s) n (oldest_unexpected_transfer expected s n)
link_found expected s zero = λ q l. absurd (omega (arith, l))
link_found expected s (suc n) =
    found_more (is_unexpected_transfer_at expected s) n (oldest_unexpected_transfer expected s n) (is_unexpected_transfer_at expected s n) refl (link_found expected s n)

-- ---- each kind

as_never : (conditions : Expectation) (all : List StateCondition) (o : Option MadeEvent) (t : MachineState) → ((m : MadeEvent) → one_never_condition_holds all m t ≡ violates_as_optional_event conditions (Some m) t)
    → never_after all o t ≡ violates_as_optional_event conditions o t
as_never conditions all None t same = refl
as_never conditions all (Some m) t same = same m

as_link : (expected : LinkExpectation) (o : Option MadeEvent) (t : MachineState) → is_unexpected_optional_transfer expected o t ≡ violates_as_optional_event (LinkPassesWords expected) o t
as_link expected None t = refl
as_link expected (Some m) t = refl

pub violation_found : (expectation : Expectation) (s : MachineState) → Found (is_violated_at expectation s) (length s.kept) (oldest_violation expectation s)
violation_found (NodeAtEveryEnd expected) s = λ q l. none_after (made_event_at_place (machine_events_with_outcomes s) q) (earlier_state s (q + 1))
  where
    none_after : (o : Option MadeEvent) (t : MachineState) → violates_as_optional_event (NodeAtEveryEnd expected) o t ≡ false
    none_after None t = refl
    none_after (Some m) t = refl
violation_found (Never conditions) s =
    found_same (never_at conditions.items s) (is_violated_at (Never conditions) s) (length s.kept) (oldest_event_of_never conditions.items s)
    (λ q. as_never (Never conditions) conditions.items (made_event_at_place (machine_events_with_outcomes s) q) (earlier_state s (q + 1)) (λ m. refl))
    (never_found conditions.items s)
violation_found (LinkPassesWords expected) s =
    found_same (is_unexpected_transfer_at expected s) (is_violated_at (LinkPassesWords expected) s) (length s.kept) (oldest_unexpected_transfer expected s (length s.kept))
    (λ q. as_link expected (made_event_at_place (machine_events_with_outcomes s) q) (earlier_state s (q + 1)))
    (link_found expected s (length s.kept))
violation_found EveryOrderEnds s = λ q l. none_after (made_event_at_place (machine_events_with_outcomes s) q) (earlier_state s (q + 1))
  where
    none_after : (o : Option MadeEvent) (t : MachineState) → violates_as_optional_event EveryOrderEnds o t ≡ false
    none_after None t = refl
    none_after (Some m) t = refl
violation_found OneEnd s = λ q l. none_after (made_event_at_place (machine_events_with_outcomes s) q) (earlier_state s (q + 1))
  where
    none_after : (o : Option MadeEvent) (t : MachineState) → violates_as_optional_event OneEnd o t ≡ false
    none_after None t = refl
    none_after (Some m) t = refl

-- ---- the law

pub some_oldest : (expectation : Expectation) (s : MachineState) (place : ℕ) → oldest_violation expectation s ≡ Some place → IsOldestViolation expectation s place
some_oldest expectation s place e =
    let h = subst (Found (is_violated_at expectation s) (length s.kept)) e (violation_found expectation s) in
    record { within = h.0; here = h.1; earlier = h.2 }

pub none_oldest : (expectation : Expectation) (s : MachineState) → oldest_violation expectation s ≡ None → (place : ℕ) → place < length s.kept → is_violated_at expectation s place ≡ false
none_oldest expectation s e = subst (Found (is_violated_at expectation s) (length s.kept)) e (violation_found expectation s)
