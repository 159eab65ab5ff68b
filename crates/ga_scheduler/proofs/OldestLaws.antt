-- What a search for the oldest event finds is the oldest.
use Rattle.std.proofs.Common.{◌≡◌, ◌∙◌, ℕ, zero, suc, ◌+◌, ◌<◌, min, ◌&&◌, ◌||◌, Bool, true, false, cond, List, [], ◌∷◌, length, Option, Some, None, inl, inr, refl, sym, ap, subst, arith}
use Rattle.std.specs.Prelude.{is_some, option_map}
use Rattle.std.proofs.lemmas.Bool.{cases_lt, false≢true}
use Rattle.ga_event.specs.Told.{made_event_at_place}
use Rattle.ga_event.specs.declared.made.MadeEvent.{MadeEvent}
use Rattle.ga_lab.specs.Machine.{MachineState, machine_events_with_outcomes, earlier_state}
use Rattle.ga_scheduler.specs.declared.condition.Condition.{Condition}
use Rattle.ga_scheduler.specs.Conditions.{holds_after_made_event, first_holding_condition}
use Rattle.ga_scheduler.specs.Running.{first_condition_held_by_event}
use Rattle.ga_scheduler.specs.Backward.{is_step_of_optional_node, has_condition_held_at}
use Rattle.ga_scheduler.specs.Oldest.{earlier_place, holds_after_optional_event, has_held_at, oldest_holding_event, oldest_event_of_conditions, find_oldest_matching_event, IsOldestMatchingEvent}

-- of the first `n` places the oldest that passes a test, or none does
abbrev pub Found : (ℕ → Bool) → ℕ → Option ℕ → Type 0
Found f n None = (q : ℕ) → q < n → f q ≡ false
Found f n (Some p) = (p < n) × (f p ≡ true) × ((q : ℕ) → q < p → f q ≡ false)

pub found_same : (f g : ℕ → Bool) (n : ℕ) (o : Option ℕ) → ((q : ℕ) → f q ≡ g q) → Found f n o → Found g n o
found_same f g n None same h = λ q l. sym (same q) ∙ h q l
found_same f g n (Some p) same h = (h.0, sym (same p) ∙ h.1, λ q l. sym (same q) ∙ h.2 q l)

or_false : (a b : Bool) → a ≡ false → b ≡ false → (a || b) ≡ false
or_false true b e h = absurd (false≢true (sym e))
or_false false b e h = h

or_right : (a b : Bool) → b ≡ true → (a || b) ≡ true
or_right true b h = refl
or_right false b h = h

-- by either of two tests
pub found_both : (f g : ℕ → Bool) (n : ℕ) (o r : Option ℕ) → Found f n o → Found g n r → Found (λ q. f q || g q) n (earlier_place o r)
found_both f g n None None h k = λ q l. or_false (f q) (g q) (h q l) (k q l)
found_both f g n None (Some p) h k = (
  k.0,
  or_right (f p) (g p) k.1,
  λ q l. or_false (f q) (g q) (h q (let below : p < n = k.0 in omega (arith, l, below))) (k.2 q l),
)
found_both f g n (Some p) None h k = (
  h.0,
  ap (λ (z : Bool). z || g p) h.1,
  λ q l. or_false (f q) (g q) (h.2 q l) (k q (let below : p < n = h.0 in omega (arith, l, below))),
)
found_both f g n (Some p) (Some r) h k = elim (cases_lt p r) [
  | inl less ↦ (
      let e : min p r ≡ p = omega (arith, less) in
      subst (λ (z : ℕ). Found (λ q. f q || g q) n (Some z)) (sym e)
      (h.0, ap (λ (z : Bool). z || g p) h.1, λ q l. or_false (f q) (g q) (h.2 q l) (k.2 q (omega (arith, l, less)))))
  | inr more ↦ (
      let e : min p r ≡ r = omega (arith, more) in
      subst (λ (z : ℕ). Found (λ q. f q || g q) n (Some z)) (sym e)
      (k.0, or_right (f r) (g r) k.1, λ q l. or_false (f q) (g q) (h.2 q (omega (arith, l, more))) (k.2 q l)))
]

-- one place more
pub found_more : (f : ℕ → Bool) (n : ℕ) (o : Option ℕ) (b : Bool) → f n ≡ b → Found f n o → Found f (suc n) (earlier_place o (cond b (Some n) None))
found_more f n None true e h = (omega arith, e, h)
found_more f n None false e h = λ q l. elim (cases_lt q n) [
  | inl less ↦ h q less
  | inr more ↦ (let same : q ≡ n = omega (arith, l, more) in ap f same ∙ e)
]
found_more f n (Some p) true e h =
    let below : p < n = h.0 in
    let least : min p n ≡ p = omega (arith, below) in
    subst (λ (z : ℕ). Found f (suc n) (Some z)) (sym least) (omega (arith, below), h.1, h.2)
found_more f n (Some p) false e h = (let below : p < n = h.0 in omega (arith, below), h.1, h.2)

-- one condition
pub one_found : (u : Condition) (s : MachineState) (n : ℕ) → Found (has_held_at u s) n (oldest_holding_event u s n)
one_found u s zero = λ q l. absurd (omega (arith, l))
one_found u s (suc n) = found_more (has_held_at u s) n (oldest_holding_event u s n) (has_held_at u s n) refl (one_found u s n)

-- some conditions
some_mapped : (o : Option ℕ) → is_some (option_map suc o) ≡ is_some o
some_mapped None = refl
some_mapped (Some x) = refl

some_first : (b : Bool) (o : Option ℕ) → is_some (cond b (Some 0) (option_map suc o)) ≡ (b || is_some o)
some_first true o = refl
some_first false o = some_mapped o

none_here : (o : Option MadeEvent) (t : MachineState) → (is_step_of_optional_node None o && is_some (first_condition_held_by_event [] o t)) ≡ false
unfolding first_holding_condition
none_here None t = refl
none_here (Some m) t = refl

more_here : (u : Condition) (us : List Condition) (o : Option MadeEvent) (t : MachineState)
    → (holds_after_optional_event u o t || (is_step_of_optional_node None o && is_some (first_condition_held_by_event us o t))) ≡ (is_step_of_optional_node None o && is_some (first_condition_held_by_event (u ∷ us) o t))
unfolding first_holding_condition
more_here u us None t = refl
more_here u us (Some m) t = sym (some_first (holds_after_made_event u m t) (first_holding_condition us m t))

pub all_found : (us : List Condition) (s : MachineState) (n : ℕ) → Found (has_condition_held_at us None s) n (oldest_event_of_conditions us s n)
all_found [] s n = λ q l. none_here (made_event_at_place (machine_events_with_outcomes s) q) (earlier_state s (q + 1))
all_found (u ∷ us) s n =
    found_same (λ q. has_held_at u s q || has_condition_held_at us None s q) (has_condition_held_at (u ∷ us) None s) n (earlier_place (oldest_holding_event u s n) (oldest_event_of_conditions us s n))
    (λ q. more_here u us (made_event_at_place (machine_events_with_outcomes s) q) (earlier_state s (q + 1)))
    (found_both (has_held_at u s) (has_condition_held_at us None s) n (oldest_holding_event u s n) (oldest_event_of_conditions us s n) (one_found u s n) (all_found us s n))

-- ---- the law

pub some_oldest : (us : List Condition) (s : MachineState) (place : ℕ) → find_oldest_matching_event us s ≡ Some place → IsOldestMatchingEvent us s place
some_oldest us s place e =
    let h = subst (Found (has_condition_held_at us None s) (length s.kept)) e (all_found us s (length s.kept)) in
    record { within = h.0; here = h.1; earlier = h.2 }

pub none_oldest : (us : List Condition) (s : MachineState) → find_oldest_matching_event us s ≡ None → (place : ℕ) → place < length s.kept → has_condition_held_at us None s place ≡ false
none_oldest us s e = subst (Found (has_condition_held_at us None s) (length s.kept)) e (all_found us s (length s.kept))
