-- A step leaves what held after the events before it.
use Rattle.std.proofs.Common.{◌≡◌, ◌∙◌, ℕ, zero, suc, ◌+◌, ◌<◌, ◌≤◌, min, ◌||◌, Bool, true, false, cond, List, [], ◌∷◌, ◌++◌, length, take, Option, Some, None, refl, sym, ap, arith, length-append}
use Rattle.std.specs.Prelude.{option_and_then}
use Rattle.std.specs.List.{slice_get}
use Rattle.std.proofs.lemmas.List.{take-append-le}
use Rattle.ga_node.specs.Record.{NodeRecord}
use Rattle.ga_event.specs.declared.event.Event.{Event}
use Rattle.ga_event.specs.declared.event.EventWithLook.{EventWithLook}
use Rattle.ga_event.specs.declared.made.MadeEvent.{MadeEvent}
use Rattle.ga_event.specs.Apply.{MadeEventOutcome, event_refusal, event_result, event_with_look_on_chip}
use Rattle.ga_event.specs.Told.{made_event_at_place, made_event_after, events_without_outcomes}
use Rattle.ga_event.proofs.Nexts.{next_can}
use Rattle.ga_lab.specs.Machine.{MachineState, chip_of_machine, machine_events_with_outcomes, earlier_state}
use Rattle.ga_scheduler.specs.declared.condition.Condition.{Condition}
use Rattle.ga_scheduler.specs.declared.condition.Condition.TheVariants.{Never, PassesWord, PassesNthWord, MakesNumberedStep, AnyNodeStops, GivenNodeStops, GivenNodeWaits, HoldsPlaceValue, ReachesAddress, WritesRamCell, Broken}
use Rattle.ga_scheduler.specs.Conditions.{holds_after_made_event}
use Rattle.ga_scheduler.specs.Watched.{IsRunStep}
use Rattle.ga_scheduler.specs.Oldest.{earlier_place, holds_after_optional_event, has_held_at, oldest_holding_event, oldest_event_of_conditions}
use Rattle.ga_scheduler.proofs.Stepping.{StepIs, step_is, stepped_is}
use Rattle.ga_scheduler.proofs.WordCounts.{told_behind, kept_told}
use Rattle.ga_scheduler.proofs.OldestEvents.{earlier_assoc}

-- ---- what a step adds

-- a machine with one event more
pub record HasOneMore (old new : MachineState) : Type 0 where
  pub what : Event
  pub kept : new.kept ≡ old.kept ++ what ∷ []
  pub load : new.load ≡ old.load
  pub outcome : EventWithLook × MadeEventOutcome
  pub outcomes : machine_events_with_outcomes new ≡ machine_events_with_outcomes old ++ outcome ∷ []
  pub size : length (machine_events_with_outcomes old) ≡ length old.kept

events_many : (xs : List (EventWithLook × MadeEventOutcome)) → length (events_without_outcomes xs) ≡ length xs
events_many [] = refl
events_many (x ∷ xs) = ap suc (events_many xs)

pub one_more_event : (old new : MachineState) (made : MadeEvent) → IsRunStep old new made → HasOneMore old new
one_more_event old new made h =
    let i : StepIs old h.node made = step_is old h.node made h.told in
    let can : event_refusal (chip_of_machine old) i.what ≡ None = next_can (chip_of_machine old) h.node i.what i.is in
    let is = h.moved ∙ stepped_is old h.node made i.what h.told i.is in
    record {
      what = i.what;
      kept = ap (λ (z : MachineState). z.kept) is;
      load = ap (λ (z : MachineState). z.load) is;
      outcome = (event_with_look_on_chip (chip_of_machine old) i.what, (event_result (chip_of_machine old) i.what).1);
      outcomes = ap machine_events_with_outcomes is ∙ told_behind old i.what h.replays can;
      size = sym (events_many (machine_events_with_outcomes old)) ∙ ap (λ (z : List Event). length z) (kept_told old h.replays);
    }

-- ---- the events before it

get_before : {A : Type 0} (xs ys : List A) (q : ℕ) → q < length xs → slice_get (xs ++ ys) q ≡ slice_get xs q
get_before [] ys q l = absurd (omega (arith, l))
get_before (x ∷ xs) ys zero l = refl
get_before (x ∷ xs) ys (suc q) l = get_before xs ys q (omega (arith, l))

pub told_before_step : (old new : MachineState) → HasOneMore old new → (q : ℕ) → q < length old.kept → made_event_at_place (machine_events_with_outcomes new) q ≡ made_event_at_place (machine_events_with_outcomes old) q
told_before_step old new h q l =
    let xs : List (EventWithLook × MadeEventOutcome) = machine_events_with_outcomes old in
    let within : q < length xs = omega (arith, l, h.size) in
    let at = λ (zs : List (EventWithLook × MadeEventOutcome)) (o : Option (EventWithLook × MadeEventOutcome)). option_and_then (λ (x : EventWithLook × MadeEventOutcome). made_event_after (events_without_outcomes zs) x.0.event x.1) o in
    ap (λ (zs : List (EventWithLook × MadeEventOutcome)). made_event_at_place zs q) h.outcomes
    ∙ ap (λ (zs : List (EventWithLook × MadeEventOutcome)). at zs (slice_get (xs ++ h.outcome ∷ []) q)) (take-append-le q xs (h.outcome ∷ []) (omega (arith, within)))
    ∙ ap (λ (o : Option (EventWithLook × MadeEventOutcome)). at (take q xs) o) (get_before xs (h.outcome ∷ []) q within)

pub kept_before : (old new : MachineState) → HasOneMore old new → (n : ℕ) → n ≤ length old.kept → take n new.kept ≡ take n old.kept
kept_before old new h n l = ap (λ (z : List Event). take n z) h.kept ∙ take-append-le n old.kept (h.what ∷ []) l

-- ---- a condition looks at the load and at the history alone

bare_state : List NodeRecord → List Event → MachineState
bare_state load kept = record { load = load; limit = 0; kept = kept; made = 0 }

held_bare : (u : Condition) (m : MadeEvent) (s : MachineState) → holds_after_made_event u m s ≡ holds_after_made_event u m (bare_state s.load s.kept)
unfolding bare_state
held_bare Never m s = refl
held_bare (PassesWord writer reader comparison word) m s = refl
held_bare (PassesNthWord writer reader number) m s = refl
held_bare (MakesNumberedStep node step) m s = refl
held_bare AnyNodeStops m s = refl
held_bare (GivenNodeStops node) m s = refl
held_bare (GivenNodeWaits node) m s = refl
held_bare (HoldsPlaceValue node test) m s = refl
held_bare (ReachesAddress node address) m s = refl
held_bare (WritesRamCell node address word) m s = refl
held_bare Broken m s = refl

pub held_same : (u : Condition) (m : MadeEvent) (s t : MachineState) → s.load ≡ t.load → s.kept ≡ t.kept → holds_after_made_event u m s ≡ holds_after_made_event u m t
held_same u m s t load kept =
    held_bare u m s
    ∙ ap (λ (z : List NodeRecord). holds_after_made_event u m (bare_state z s.kept)) load
    ∙ ap (λ (z : List Event). holds_after_made_event u m (bare_state t.load z)) kept
    ∙ sym (held_bare u m t)

optional_same : (u : Condition) (o : Option MadeEvent) (s t : MachineState) → s.load ≡ t.load → s.kept ≡ t.kept → holds_after_optional_event u o s ≡ holds_after_optional_event u o t
optional_same u None s t load kept = refl
optional_same u (Some m) s t load kept = held_same u m s t load kept

pub held_before_step : (u : Condition) (old new : MachineState) → HasOneMore old new → (q : ℕ) → q < length old.kept → has_held_at u new q ≡ has_held_at u old q
held_before_step u old new h q l =
    ap (λ (o : Option MadeEvent). holds_after_optional_event u o (earlier_state new (q + 1))) (told_before_step old new h q l)
    ∙ optional_same u (made_event_at_place (machine_events_with_outcomes old) q) (earlier_state new (q + 1)) (earlier_state old (q + 1)) h.load (kept_before old new h (q + 1) (omega (arith, l)))

-- ---- the oldest event after which a condition held

oldest_before_step : (u : Condition) (old new : MachineState) → HasOneMore old new → (n : ℕ) → n ≤ length old.kept → oldest_holding_event u new n ≡ oldest_holding_event u old n
oldest_before_step u old new h zero l = refl
oldest_before_step u old new h (suc n) l =
    ap (λ (z : Option ℕ). earlier_place z (cond (has_held_at u new n) (Some n) None)) (oldest_before_step u old new h n (omega (arith, l)))
    ∙ ap (λ (b : Bool). earlier_place (oldest_holding_event u old n) (cond b (Some n) None)) (held_before_step u old new h n (omega (arith, l)))

-- The oldest is what it was, or the newest event if there was none.
pub record IsOldestWith (count : ℕ) (before now : Option ℕ) : Type 0 where
  pub here : Bool
  pub is : now ≡ earlier_place before (cond here (Some count) None)

pub length_more : (old new : MachineState) → HasOneMore old new → length new.kept ≡ suc (length old.kept)
length_more old new h = ap (λ (z : List Event). length z) h.kept ∙ (let e : length (old.kept ++ h.what ∷ []) ≡ suc (length old.kept) = omega (arith, length-append old.kept (h.what ∷ [])) in e)

pub oldest_with : (u : Condition) (old new : MachineState) → HasOneMore old new → IsOldestWith (length old.kept) (oldest_holding_event u old (length old.kept)) (oldest_holding_event u new (length new.kept))
oldest_with u old new h = record {
  here = has_held_at u new (length old.kept);
  is = ap (oldest_holding_event u new) (length_more old new h)
      ∙ ap (λ (z : Option ℕ). earlier_place z (cond (has_held_at u new (length old.kept)) (Some (length old.kept)) None)) (oldest_before_step u old new h (length old.kept) (omega arith));
}

-- of two
earlier_comm : (a b : Option ℕ) → earlier_place a b ≡ earlier_place b a
earlier_comm None None = refl
earlier_comm None (Some y) = refl
earlier_comm (Some x) None = refl
earlier_comm (Some x) (Some y) = ap (λ (n : ℕ). Some n) (let e : min x y ≡ min y x = omega arith in e)

exchanged : (a b c d : Option ℕ) → earlier_place (earlier_place a b) (earlier_place c d) ≡ earlier_place (earlier_place a c) (earlier_place b d)
exchanged a b c d =
    earlier_assoc a b (earlier_place c d)
    ∙ ap (earlier_place a) (sym (earlier_assoc b c d) ∙ ap (λ (z : Option ℕ). earlier_place z d) (earlier_comm b c) ∙ earlier_assoc c b d)
    ∙ sym (earlier_assoc a c (earlier_place b d))

either_here : (n : ℕ) (a b : Bool) → earlier_place (cond a (Some n) None) (cond b (Some n) None) ≡ cond (a || b) (Some n) None
either_here n true true = ap (λ (k : ℕ). Some k) (let e : min n n ≡ n = omega arith in e)
either_here n true false = refl
either_here n false b = refl

pub both_with : (n : ℕ) (a b c d : Option ℕ) → IsOldestWith n a b → IsOldestWith n c d → IsOldestWith n (earlier_place a c) (earlier_place b d)
both_with n a b c d h k = record {
  here = h.here || k.here;
  is = ap (λ (z : Option ℕ). earlier_place z d) h.is
      ∙ ap (earlier_place (earlier_place a (cond h.here (Some n) None))) k.is
      ∙ exchanged a (cond h.here (Some n) None) c (cond k.here (Some n) None)
      ∙ ap (earlier_place (earlier_place a c)) (either_here n h.here k.here);
}

pub none_with : (n : ℕ) → IsOldestWith n None None
none_with n = record { here = false; is = refl }

pub all_with : (us : List Condition) (old new : MachineState) → HasOneMore old new
    → IsOldestWith (length old.kept) (oldest_event_of_conditions us old (length old.kept)) (oldest_event_of_conditions us new (length new.kept))
all_with [] old new h = none_with (length old.kept)
all_with (u ∷ us) old new h =
    both_with (length old.kept) (oldest_holding_event u old (length old.kept)) (oldest_holding_event u new (length new.kept))
    (oldest_event_of_conditions us old (length old.kept)) (oldest_event_of_conditions us new (length new.kept)) (oldest_with u old new h) (all_with us old new h)
