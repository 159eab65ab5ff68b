-- The search for the oldest event after which a condition held.
use Rattle.std.proofs.Common.{◌≡◌, ◌∙◌, ℕ, zero, suc, ◌+◌, ◌<◌, ◌≤◌, min, Bool, cond, List, drop, length, get_or, Option, Some, None, refl, sym, ap, arith, add-one}
use Rattle.std.proofs.lemmas.List.{drop_more, drop_all}
use Rattle.ga_event.specs.Told.{made_event_at_place}
use Rattle.ga_event.specs.declared.made.MadeEvent.{MadeEvent}
use Rattle.ga_lab.specs.Machine.{MachineState, machine_events_with_outcomes, earlier_state}
use Rattle.ga_scheduler.specs.declared.condition.Condition.{Condition}
use Rattle.ga_scheduler.specs.Conditions.{holds_after_made_event}
use Rattle.ga_scheduler.specs.Oldest.{earlier_place, holds_after_optional_event, has_held_at, oldest_holding_event, oldest_event_of_conditions}

pub earlier_none : (o : Option ℕ) → earlier_place o None ≡ o
earlier_none None = refl
earlier_none (Some x) = refl

pub earlier_assoc : (a b c : Option ℕ) → earlier_place (earlier_place a b) c ≡ earlier_place a (earlier_place b c)
earlier_assoc None b c = refl
earlier_assoc (Some x) None c = refl
earlier_assoc (Some x) (Some y) None = refl
earlier_assoc (Some x) (Some y) (Some z) = ap (λ (n : ℕ). Some n) (let e : min (min x y) z ≡ min x (min y z) = omega arith in e)

-- the condition held after the event with this report
pub held_at : (u : Condition) (s : MachineState) (n : ℕ) (m : MadeEvent) (h : Bool) → made_event_at_place (machine_events_with_outcomes s) n ≡ Some m → h ≡ holds_after_made_event u m (earlier_state s (n + 1)) → has_held_at u s n ≡ h
held_at u s n m h is here = ap (λ (o : Option MadeEvent). holds_after_optional_event u o (earlier_state s (n + 1))) is ∙ sym here

-- one event back
pub one_back : (u : Condition) (s : MachineState) (n m : ℕ) (b : Bool) (found old total : Option ℕ) → m + 1 ≡ n → has_held_at u s m ≡ b → found ≡ cond b (Some m) None
    → earlier_place (oldest_holding_event u s n) old ≡ total → earlier_place (oldest_holding_event u s m) (earlier_place found old) ≡ total
one_back u s n m b found old total e h is same =
    let more : oldest_holding_event u s n ≡ earlier_place (oldest_holding_event u s m) (cond b (Some m) None) =
    ap (oldest_holding_event u s) (sym e ∙ add-one m) ∙ ap (λ (z : Bool). earlier_place (oldest_holding_event u s m) (cond z (Some m) None)) h in
    ap (λ (z : Option ℕ). earlier_place (oldest_holding_event u s m) (earlier_place z old)) is
    ∙ sym (earlier_assoc (oldest_holding_event u s m) (cond b (Some m) None) old)
    ∙ sym (ap (λ (z : Option ℕ). earlier_place z old) more)
    ∙ same

-- no event is left
pub none_left_back : (u : Condition) (s : MachineState) (n : ℕ) (old total : Option ℕ) → n ≤ 0 → earlier_place (oldest_holding_event u s n) old ≡ total → old ≡ total
none_left_back u s n old total l same = sym (ap (λ (k : ℕ). earlier_place (oldest_holding_event u s k) old) (let e : n ≡ 0 = omega (arith, l) in e)) ∙ same

-- one condition more
pub one_condition_more : (us : List Condition) (s : MachineState) (count i : ℕ) (old next total : Option ℕ) (d : Condition) → i < length us
    → next ≡ earlier_place old (oldest_holding_event (get_or us i d) s count) → earlier_place old (oldest_event_of_conditions (drop i us) s count) ≡ total
    → earlier_place next (oldest_event_of_conditions (drop (i + 1) us) s count) ≡ total
one_condition_more us s count i old next total d l e same =
    let parts : oldest_event_of_conditions (drop i us) s count ≡ earlier_place (oldest_holding_event (get_or us i d) s count) (oldest_event_of_conditions (drop (i + 1) us) s count) =
    ap (λ z. oldest_event_of_conditions z s count) (drop_more us i d l) in
    ap (λ (z : Option ℕ). earlier_place z (oldest_event_of_conditions (drop (i + 1) us) s count)) e
    ∙ earlier_assoc old (oldest_holding_event (get_or us i d) s count) (oldest_event_of_conditions (drop (i + 1) us) s count)
    ∙ sym (ap (λ (z : Option ℕ). earlier_place old z) parts)
    ∙ same

pub no_condition_more : (us : List Condition) (s : MachineState) (count i : ℕ) (old total : Option ℕ) → length us ≤ i → earlier_place old (oldest_event_of_conditions (drop i us) s count) ≡ total → old ≡ total
no_condition_more us s count i old total l same =
    sym (earlier_none old) ∙ sym (ap (λ z. earlier_place old (oldest_event_of_conditions z s count)) (drop_all i us l)) ∙ same
