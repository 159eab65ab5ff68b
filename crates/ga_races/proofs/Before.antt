-- What happens before an event comes before it in each order of the list, and what doesn't comes after it in some order.
use Rattle.std.proofs.Common.{◌≡◌, ℕ, zero, suc, ◌+◌, ◌<◌, ◌⊎◌, Bool, true, false, cond, inl, inr, List, [], ◌∷◌, ◌++◌, length, Some, IsSome, ◌↔◌, refl, sym, ◌∙◌, ap, ap₂, subst, subst₂, arith, append_assoc, length-append}
use Rattle.std.specs.List.{list_any}
use Rattle.std.proofs.lemmas.Bool.{cases_Bool, both_ways, or_cases, or_parts, false_from_ne_true}
use Rattle.std.proofs.lemmas.Option.{same_Some}
use Rattle.ga_node.specs.Record.{NodeRecord}
use Rattle.ga_event.specs.declared.event.Event.{Event}
use Rattle.ga_event.specs.declared.event.EventWithLook.{EventWithLook}
use Rattle.ga_event.specs.Apply.{MadeEventOutcome, event_result, event_with_look_on_chip, run_events, replay}
use Rattle.ga_causal.proofs.Equivalences.{touched_of}
use Rattle.ga_causal.proofs.Runs.{causes, first_of_run}
use Rattle.ga_causal.proofs.Words.{after_is}
use Rattle.ga_races.specs.Orders.{IsEnabled, AreIndependentOnChip, AreReorderings, same, swapped, later, joined}
use Rattle.ga_races.specs.HappensBefore.{TraceAction, trace_action_of_event, trace_actions_of_events, events_with_looks_of_trace_actions, trace_action_at, are_dependent_actions, HappensDirectlyBefore, HappensBefore, directly, through, IsStepOfNode, IsEarlierInReordering}
use Rattle.ga_races.proofs.Independence.{replay_more, first_of, still_enabled, independent_on_chip, apart-sym}
use Rattle.ga_races.proofs.Orders.{some_of}
use Rattle.ga_races.proofs.Exact.{replay_into}
use Rattle.ga_races.proofs.Bound.{Apart, action_still, free_of}
use Rattle.ga_races.proofs.Moves.{Moves, flip, lifted, moves_same, moves_behind, moves_chained, moves_swapped, moves_of, before_moved, tally, IsTallied, tallied_of, step_of, tallied_moved, tallied_one}

-- ---- one pass over the list: whether an action depends directly on one of those that are reached

abbrev pub meets_some : List TraceAction → TraceAction → Bool
meets_some held a = list_any (λ b. are_dependent_actions b a) held

abbrev pub reached : List TraceAction → List TraceAction → ℕ → Bool
reached held [] j = false
reached held (a ∷ xs) zero = meets_some held a
reached held (a ∷ xs) (suc j) = cond (meets_some held a) (reached (held ++ a ∷ []) xs j) (reached held xs j)

-- whether the one at the second place is reached from the one at the first
abbrev pub reached_from : List TraceAction → ℕ → ℕ → Bool
reached_from [] i j = false
reached_from (a ∷ xs) i zero = false
reached_from (a ∷ xs) zero (suc j) = reached (a ∷ []) xs j
reached_from (a ∷ xs) (suc i) (suc j) = reached_from xs i j

-- ---- what is reached happens later

-- an action before a place, which is the one at the first place or happens after it
record IsHeld (all : List TraceAction) (first place : ℕ) (a : TraceAction) : Type 0 where
  at : ℕ
  before : at < place
  is : trace_action_at all at ≡ a
  from : (first ≡ at) ⊎ HappensBefore all first at

abbrev AreHeld : List TraceAction → ℕ → ℕ → List TraceAction → Type 0
AreHeld all first place [] = Unit {0}
AreHeld all first place (a ∷ held) = IsHeld all first place a × AreHeld all first place held

held_on : (all : List TraceAction) (first place : ℕ) (held : List TraceAction) → AreHeld all first place held → AreHeld all first (suc place) held
held_on all first place [] h = tt
held_on all first place (a ∷ held) h =
    let l : h.0.at < place = h.0.before in
    (record { at = h.0.at; before = omega (arith, l); is = h.0.is; from = h.0.from }, held_on all first place held h.1)

held_more : (all : List TraceAction) (first place : ℕ) (held : List TraceAction) (a : TraceAction) → AreHeld all first place held → IsHeld all first place a → AreHeld all first place (held ++ a ∷ [])
held_more all first place [] a h k = (k, tt)
held_more all first place (b ∷ held) a h k = (h.0, held_more all first place held a h.1 k)

bound_held : (all : List TraceAction) (first place : ℕ) (held : List TraceAction) (a : TraceAction) → AreHeld all first place held → trace_action_at all place ≡ a → place < length all → meets_some held a ≡ true → HappensBefore all first place
bound_held all first place [] a h is l t = absurd (both_ways false refl t)
bound_held all first place (b ∷ held) a h is l t = elim (or_cases (are_dependent_actions b a) (meets_some held a) t) [
  | inl q ↦ go h.0.from (record { before = h.0.before; within = l; bound = ap₂ are_dependent_actions h.0.is is ∙ q })
  | inr q ↦ bound_held all first place held a h.1 is l q
]
  where
    go : (first ≡ h.0.at) ⊎ HappensBefore all first h.0.at → HappensDirectlyBefore all h.0.at place → HappensBefore all first place
    go (inl q) d = directly (subst (λ (z : ℕ). HappensDirectlyBefore all z place) (sym q) d)
    go (inr k) d = through k d

-- the list from a place on
record IsFrom (all : List TraceAction) (place : ℕ) (xs : List TraceAction) : Type 0 where
  at : (q : ℕ) → trace_action_at all (place + q) ≡ trace_action_at xs q
  size : place + length xs ≡ length all

from_next : (all : List TraceAction) (place : ℕ) (a : TraceAction) (xs : List TraceAction) → IsFrom all place (a ∷ xs) → IsFrom all (suc place) xs
from_next all place a xs f = record {
  at = λ q. ap (trace_action_at all) (let e : suc place + q ≡ place + suc q = omega arith in e) ∙ f.at (suc q);
  size = let s : place + suc (length xs) ≡ length all = f.size in omega (arith, s);
}

from_within : (all : List TraceAction) (place : ℕ) (a : TraceAction) (xs : List TraceAction) → IsFrom all place (a ∷ xs) → place < length all
from_within all place a xs f = let s : place + suc (length xs) ≡ length all = f.size in omega (arith, s)

from_first : (all : List TraceAction) (place : ℕ) (a : TraceAction) (xs : List TraceAction) → IsFrom all place (a ∷ xs) → trace_action_at all place ≡ a
from_first all place a xs f = ap (trace_action_at all) (let e : place ≡ place + 0 = omega arith in e) ∙ f.at 0

reached_later : (xs : List TraceAction) (all : List TraceAction) (first place : ℕ) (held : List TraceAction) (j : ℕ) → IsFrom all place xs → AreHeld all first place held → reached held xs j ≡ true → HappensBefore all first (place + j)
reached_later [] all first place held j f h t = absurd (both_ways false refl t)
reached_later (a ∷ xs) all first place held zero f h t =
    subst (HappensBefore all first) (let e : place ≡ place + 0 = omega arith in e)
    (bound_held all first place held a h (from_first all place a xs f) (from_within all place a xs f) t)
reached_later (a ∷ xs) all first place held (suc j) f h t =
    subst (HappensBefore all first) (let e : suc place + j ≡ place + suc j = omega arith in e)
    (reached_next (meets_some held a) (reached (held ++ a ∷ []) xs j) (reached held xs j) refl t
    (λ m. reached_later xs all first (suc place) (held ++ a ∷ []) j (from_next all place a xs f)
    (held_more all first (suc place) held a (held_on all first place held h)
    (record { at = place; before = omega arith; is = from_first all place a xs f; from = inr (bound_held all first place held a h (from_first all place a xs f) (from_within all place a xs f) m) })))
    (reached_later xs all first (suc place) held j (from_next all place a xs f) (held_on all first place held h)))
  where
    reached_next : (b x y : Bool) → meets_some held a ≡ b → cond b x y ≡ true → (meets_some held a ≡ true → x ≡ true → HappensBefore all first (suc place + j)) → (y ≡ true → HappensBefore all first (suc place + j)) → HappensBefore all first (suc place + j)
    reached_next true x y m k found otherwise = found m k
    reached_next false x y m k found otherwise = otherwise k

reached_before : (xs : List TraceAction) (all : List TraceAction) (place i j : ℕ) → IsFrom all place xs → reached_from xs i j ≡ true → HappensBefore all (place + i) (place + j)
reached_before [] all place i j f t = absurd (both_ways false refl t)
reached_before (a ∷ xs) all place zero zero f t = absurd (both_ways false refl t)
reached_before (a ∷ xs) all place (suc i) zero f t = absurd (both_ways false refl t)
reached_before (a ∷ xs) all place zero (suc j) f t =
    let l : place + 0 < suc place = omega arith in
    subst (HappensBefore all (place + 0)) (let e : suc place + j ≡ place + suc j = omega arith in e)
    (reached_later xs all (place + 0) (suc place) (a ∷ []) j (from_next all place a xs f)
    (record { at = place + 0; before = l; is = f.at 0; from = inl refl }, tt) t)
reached_before (a ∷ xs) all place (suc i) (suc j) f t =
    subst₂ (HappensBefore all) (let e : suc place + i ≡ place + suc i = omega arith in e) (let e : suc place + j ≡ place + suc j = omega arith in e)
    (reached_before xs all (suc place) i j (from_next all place a xs f) t)

-- ---- an event that depends directly on none of the first ones comes first

pub actions_into : (fs ys : List Event) (c d : List NodeRecord) → replay c fs ≡ Some d → trace_actions_of_events c (fs ++ ys) ≡ trace_actions_of_events c fs ++ trace_actions_of_events d ys
actions_into [] ys c d h = ap (λ z. trace_actions_of_events z ys) (same_Some c d h)
actions_into (f ∷ fs) ys c d h = let p = first_of c f fs d h in ap (λ (z : List TraceAction). trace_action_of_event c f ∷ z) (actions_into fs ys (event_result c f).0 d p.then)

pub record IsOver (c d : List NodeRecord) (fs : List Event) (y : Event) (zs : List Event) : Type 0 where
  pub can : IsEnabled c y
  pub still : trace_action_of_event c y ≡ trace_action_of_event d y
  pub kept : trace_actions_of_events (event_result c y).0 fs ≡ trace_actions_of_events c fs
  pub led : replay (event_result c y).0 fs ≡ Some (event_result d y).0
  pub order : AreReorderings c (fs ++ y ∷ zs) (y ∷ fs ++ zs)
  pub to : ℕ → ℕ
  pub moves : Moves to (trace_actions_of_events c (fs ++ y ∷ zs)) (trace_actions_of_events c (y ∷ fs ++ zs))
  pub first : to (length fs) ≡ 0
  pub behind : (p : ℕ) → p < length fs → to p ≡ suc p
  pub beyond : (p : ℕ) → length fs < p → to p ≡ p

over_none : (c d : List NodeRecord) (y : Event) (zs : List Event) → c ≡ d → IsEnabled d y → IsOver c d [] y zs
over_none c d y zs q can = subst (λ z. IsOver z d [] y zs) (sym q) (record {
  can = can;
  still = refl;
  kept = refl;
  led = refl;
  order = same;
  to = λ i. i;
  moves = moves_same (trace_actions_of_events d (y ∷ zs));
  first = refl;
  behind = λ p l. absurd (omega (arith, l));
  beyond = λ p l. refl;
})

over_more : (c d : List NodeRecord) (f : Event) (fs : List Event) (y : Event) (zs : List Event) → IsEnabled c f → IsOver (event_result c f).0 d fs y zs → are_dependent_actions (trace_action_of_event c f) (trace_action_of_event d y) ≡ false → IsOver c d (f ∷ fs) y zs
over_more c d f fs y zs canf o none = record {
  can = cany;
  still = sym (action_still c f y canf cany free.apart free.second) ∙ o.still;
  kept = ap₂ (λ (a : TraceAction) (z : List NodeRecord). a ∷ trace_actions_of_events z fs) (action_still c y f cany canf back free.first) (sym (independent_on_chip c f y canf cany free)) ∙ ap (λ (z : List TraceAction). trace_action_of_event c f ∷ z) o.kept;
  led = replay_more (event_result c y).0 f fs (still_enabled c f y free.apart cany canf) ∙ ap (λ z. replay z fs) (sym (independent_on_chip c f y canf cany free)) ∙ o.led;
  order = joined (later canf o.order) (swapped canf cany free);
  to = λ i. flip (lifted o.to i);
  moves = moves_chained (trace_actions_of_events c (f ∷ fs ++ y ∷ zs)) (trace_actions_of_events c (f ∷ y ∷ fs ++ zs)) (trace_actions_of_events c (y ∷ f ∷ fs ++ zs)) (lifted o.to) flip
      (moves_behind (trace_action_of_event c f) (trace_actions_of_events (event_result c f).0 (fs ++ y ∷ zs)) (trace_actions_of_events (event_result c f).0 (y ∷ fs ++ zs)) o.to o.moves) (moves_swapped c f y (fs ++ zs) canf cany free);
  first = ap (λ (i : ℕ). flip (suc i)) o.first;
  behind = behind;
  beyond = beyond;
}
  where
    both : IsEnabled c y × AreIndependentOnChip c f y
    both = free_of c f y canf o.can (ap (are_dependent_actions (trace_action_of_event c f)) o.still ∙ none)

    cany : IsEnabled c y
    cany = both.0

    free : AreIndependentOnChip c f y
    free = both.1

    back : Apart y f
    back = apart-sym f y free.apart

    behind : (p : ℕ) → p < length (f ∷ fs) → flip (lifted o.to p) ≡ suc p
    behind zero l = refl
    behind (suc p) l = ap (λ (i : ℕ). flip (suc i)) (o.behind p (omega (arith, l)))

    beyond : (p : ℕ) → length (f ∷ fs) < p → flip (lifted o.to p) ≡ p
    beyond zero l = absurd (omega (arith, l))
    beyond (suc zero) l = absurd (omega (arith, l))
    beyond (suc (suc p)) l = ap (λ (i : ℕ). flip (suc i)) (o.beyond (suc p) (omega (arith, l)))

pub over : (fs : List Event) (c d : List NodeRecord) (y : Event) (zs : List Event) → replay c fs ≡ Some d → IsEnabled d y → meets_some (trace_actions_of_events c fs) (trace_action_of_event d y) ≡ false → IsOver c d fs y zs
over [] c d y zs h can none = over_none c d y zs (same_Some c d h) can
over (f ∷ fs) c d y zs h can none =
    let p = first_of c f fs d h in
    let q = or_parts (are_dependent_actions (trace_action_of_event c f) (trace_action_of_event d y)) (meets_some (trace_actions_of_events (event_result c f).0 fs) (trace_action_of_event d y)) none in
    over_more c d f fs y zs p.can (over fs (event_result c f).0 d y zs p.then can q.1) q.0

-- ---- an event that isn't reached comes before

pub record IsTurned (c : List NodeRecord) (xs : List Event) (i j : ℕ) : Type 0 where
  pub others : List Event
  pub order : AreReorderings c xs others
  pub to : ℕ → ℕ
  pub moves : Moves to (trace_actions_of_events c xs) (trace_actions_of_events c others)
  pub turned : to j < to i

turned_first : (c d : List NodeRecord) (fs : List Event) (y : Event) (zs : List Event) (p : ℕ) → IsOver c d fs y zs → p < length fs → IsTurned c (fs ++ y ∷ zs) p (length fs)
turned_first c d fs y zs p o l = record {
  others = y ∷ fs ++ zs;
  order = o.order;
  to = o.to;
  moves = o.moves;
  turned = subst₂ (λ (a b : ℕ). a < b) (sym o.first) (sym (o.behind p l)) (omega arith);
}

turned_over : (c d : List NodeRecord) (fs : List Event) (y : Event) (zs : List Event) (p j : ℕ) → IsOver c d fs y zs → p < length fs → IsTurned (event_result c y).0 (fs ++ zs) p (length fs + j) → IsTurned c (fs ++ y ∷ zs) p (length fs + suc j)
turned_over c d fs y zs p j o l t = record {
  others = y ∷ t.others;
  order = joined o.order (later o.can t.order);
  to = λ i. lifted t.to (o.to i);
  moves = moves_chained (trace_actions_of_events c (fs ++ y ∷ zs)) (trace_actions_of_events c (y ∷ fs ++ zs)) (trace_actions_of_events c (y ∷ t.others)) o.to (lifted t.to) o.moves
      (moves_behind (trace_action_of_event c y) (trace_actions_of_events (event_result c y).0 (fs ++ zs)) (trace_actions_of_events (event_result c y).0 t.others) t.to t.moves);
  turned = subst₂ (λ (a b : ℕ). lifted t.to a < lifted t.to b) (sym there) (sym (o.behind p l)) (let w : t.to (length fs + j) < t.to p = t.turned in let g : suc (t.to (length fs + j)) < suc (t.to p) = omega (arith, w) in g);
}
  where
    there : o.to (length fs + suc j) ≡ suc (length fs + j)
    there = o.beyond (length fs + suc j) (let g : length fs < length fs + suc j = omega arith in g) ∙ (let e : length fs + suc j ≡ suc (length fs + j) = omega arith in e)

pub longer_by : (fs : List Event) (y : Event) → length (fs ++ y ∷ []) ≡ suc (length fs)
longer_by fs y = length-append fs (y ∷ []) ∙ (let e : length fs + 1 ≡ suc (length fs) = omega arith in e)

pulled_next : (c d : List NodeRecord) (fs : List Event) (y : Event) (es : List Event) (p j : ℕ) → replay c fs ≡ Some d → IsEnabled d y → p < length fs
    → (b : Bool) → meets_some (trace_actions_of_events c fs) (trace_action_of_event d y) ≡ b → cond b (reached (trace_actions_of_events c fs ++ trace_action_of_event d y ∷ []) (trace_actions_of_events (event_result d y).0 es) j) (reached (trace_actions_of_events c fs) (trace_actions_of_events (event_result d y).0 es) j) ≡ false
    → (replay c (fs ++ y ∷ []) ≡ Some (event_result d y).0 → length (fs ++ y ∷ []) ≡ suc (length fs) → reached (trace_actions_of_events c (fs ++ y ∷ [])) (trace_actions_of_events (event_result d y).0 es) j ≡ false → IsTurned c ((fs ++ y ∷ []) ++ es) p (length (fs ++ y ∷ []) + j))
    → ((now : List NodeRecord) → replay now fs ≡ Some (event_result d y).0 → reached (trace_actions_of_events now fs) (trace_actions_of_events (event_result d y).0 es) j ≡ false → IsTurned now (fs ++ es) p (length fs + j))
    → IsTurned c (fs ++ y ∷ es) p (length fs + suc j)
pulled_next c d fs y es p j h can l true is none held spared =
    subst₂ (λ (z : List Event) (q : ℕ). IsTurned c z p q) (append_assoc fs (y ∷ []) es)
    (ap (λ (z : ℕ). z + j) (longer_by fs y) ∙ (let e : suc (length fs) + j ≡ length fs + suc j = omega arith in e))
    (held (replay_into fs (y ∷ []) c d h ∙ replay_more d y [] can) (longer_by fs y)
    (ap (λ (z : List TraceAction). reached z (trace_actions_of_events (event_result d y).0 es) j) (actions_into fs (y ∷ []) c d h) ∙ none))
pulled_next c d fs y es p j h can l false is none held spared =
    let o : IsOver c d fs y es = over fs c d y es h can is in
    turned_over c d fs y es p j o l (spared (event_result c y).0 o.led (ap (λ (z : List TraceAction). reached z (trace_actions_of_events (event_result d y).0 es) j) o.kept ∙ none))

pulled : (es : List Event) (c d last : List NodeRecord) (fs : List Event) (p j : ℕ) → replay c fs ≡ Some d → replay d es ≡ Some last → p < length fs → j < length es → reached (trace_actions_of_events c fs) (trace_actions_of_events d es) j ≡ false → IsTurned c (fs ++ es) p (length fs + j)
pulled [] c d last fs p j h k l m none = absurd (omega (arith, m))
pulled (y ∷ es) c d last fs p zero h k l m none =
    subst (IsTurned c (fs ++ y ∷ es) p) (let e : length fs ≡ length fs + 0 = omega arith in e)
    (turned_first c d fs y es p (over fs c d y es h (first_of d y es last k).can none) l)
pulled (y ∷ es) c d last fs p (suc j) h k l m none =
    let q = first_of d y es last k in
    pulled_next c d fs y es p j h q.can l (meets_some (trace_actions_of_events c fs) (trace_action_of_event d y)) refl none
    (λ more longer. pulled es c (event_result d y).0 last (fs ++ y ∷ []) p j more q.then (omega (arith, l, longer)) (omega (arith, m)))
    (λ now led. pulled es now (event_result d y).0 last fs p j led q.then l (omega (arith, m)))

turned_at : (es : List Event) (c last : List NodeRecord) (i j : ℕ) → replay c es ≡ Some last → i < j → j < length es → reached_from (trace_actions_of_events c es) i j ≡ false → IsTurned c es i j
turned_at [] c last i j h l m none = absurd (omega (arith, m))
turned_at (e ∷ es) c last i zero h l m none = absurd (omega (arith, l))
turned_at (e ∷ es) c last zero (suc j) h l m none =
    let p = first_of c e es last h in
    subst (IsTurned c (e ∷ es) 0) (let q : 1 + j ≡ suc j = omega arith in q)
    (pulled es c (event_result c e).0 last (e ∷ []) 0 j (replay_more c e [] p.can) p.then (let g : 0 < 1 = omega arith in g) (omega (arith, m)) none)
turned_at (e ∷ es) c last (suc i) (suc j) h l m none =
    let p = first_of c e es last h in
    let t = turned_at es (event_result c e).0 last i j p.then (omega (arith, l)) (omega (arith, m)) none in
    record {
      others = e ∷ t.others;
      order = later p.can t.order;
      to = lifted t.to;
      moves = moves_behind (trace_action_of_event c e) (trace_actions_of_events (event_result c e).0 es) (trace_actions_of_events (event_result c e).0 t.others) t.to t.moves;
      turned = let w : t.to j < t.to i = t.turned in let g : suc (t.to j) < suc (t.to i) = omega (arith, w) in g;
    }

-- ---- as the law states it

pub every_order : (c : List NodeRecord) (es fs : List Event) (i j : ℕ) → HappensBefore (trace_actions_of_events c es) i j → AreReorderings c es fs → IsEarlierInReordering c es fs i j
every_order c es fs i j h order n k m l p q a b x y =
    let t = moves_of c es fs order in
    let r : t.0 i ≡ p = tallied_one (trace_actions_of_events c fs) n k (t.0 i) p (tallied_moved (trace_actions_of_events c es) (trace_actions_of_events c fs) t.0 n k i t.1 (tallied_of (trace_actions_of_events c es) n k i a)) (tallied_of (trace_actions_of_events c fs) n k p x) in
    let s : t.0 j ≡ q = tallied_one (trace_actions_of_events c fs) m l (t.0 j) q (tallied_moved (trace_actions_of_events c es) (trace_actions_of_events c fs) t.0 m l j t.1 (tallied_of (trace_actions_of_events c es) m l j b)) (tallied_of (trace_actions_of_events c fs) m l q y) in
    subst₂ (λ (u v : ℕ). u < v) r s (before_moved (trace_actions_of_events c es) (trace_actions_of_events c fs) t.0 i j t.1 h)

some_order : (c : List NodeRecord) (es : List Event) (i j : ℕ) → IsTurned c es i j → (others : List Event) × AreReorderings c es others × IsEarlierInReordering c es others j i
some_order c es i j t = (
  t.others,
  t.order,
  λ n k m l p q a b x y.
      let r : t.to j ≡ p = tallied_one (trace_actions_of_events c t.others) n k (t.to j) p (tallied_moved (trace_actions_of_events c es) (trace_actions_of_events c t.others) t.to n k j t.moves (tallied_of (trace_actions_of_events c es) n k j a)) (tallied_of (trace_actions_of_events c t.others) n k p x) in
      let s : t.to i ≡ q = tallied_one (trace_actions_of_events c t.others) m l (t.to i) q (tallied_moved (trace_actions_of_events c es) (trace_actions_of_events c t.others) t.to m l i t.moves (tallied_of (trace_actions_of_events c es) m l i b)) (tallied_of (trace_actions_of_events c t.others) m l q y) in
      subst₂ (λ (u v : ℕ). u < v) r s t.turned,
)

from_all : (xs : List TraceAction) → IsFrom xs 0 xs
from_all xs = record { at = λ q. ap (trace_action_at xs) (let e : 0 + q ≡ q = omega arith in e); size = omega arith }

pub before_of : (xs : List TraceAction) (i j : ℕ) → reached_from xs i j ≡ true → HappensBefore xs i j
before_of xs i j t = subst₂ (HappensBefore xs) (let e : 0 + i ≡ i = omega arith in e) (let e : 0 + j ≡ j = omega arith in e) (reached_before xs xs 0 i j (from_all xs) t)

-- an event that doesn't happen before a later one comes after it in some order
pub other_order : (c : List NodeRecord) (es : List Event) (i j : ℕ) → IsSome (replay c es) → i < j → j < length es → (HappensBefore (trace_actions_of_events c es) i j → ⊥)
    → (others : List Event) × AreReorderings c es others × IsEarlierInReordering c es others j i
other_order c es i j h l m never =
    let a = some_of (replay c es) h in
    some_order c es i j (turned_at es c a.0 i j a.1 l m (false_from_ne_true (reached_from (trace_actions_of_events c es) i j) (λ t. never (before_of (trace_actions_of_events c es) i j t))))

-- ---- and so it is exact

-- a node and the number of its step that is at the place
pub record IsNamed (c : List NodeRecord) (es : List Event) (i : ℕ) : Type 0 where
  pub node : ℕ
  pub number : ℕ
  pub tallied : IsTallied (trace_actions_of_events c es) node number i

pub actions_length : (c : List NodeRecord) (es : List Event) → length (trace_actions_of_events c es) ≡ length es
actions_length c [] = refl
actions_length c (e ∷ es) = ap suc (actions_length (event_result c e).0 es)

pub named_of : (c : List NodeRecord) (es : List Event) (i : ℕ) → i < length es → IsNamed c es i
named_of c es i l =
    let t = touched_of (trace_action_at (trace_actions_of_events c es) i).cause.event in
    let size : length (trace_actions_of_events c es) ≡ length es = actions_length c es in
    record { node = t.node; number = suc (tally t.node (trace_actions_of_events c es) i); tallied = record { within = omega (arith, l, size); touched = t.is; before = refl } }

not_both : (c : List NodeRecord) (es : List Event) (i j : ℕ) → i < length es → j < length es → IsTurned c es i j → ((others : List Event) → AreReorderings c es others → IsEarlierInReordering c es others i j) → ⊥
not_both c es i j l m t every =
    let a = named_of c es i l in
    let b = named_of c es j m in
    let p : t.to i < t.to j = every t.others t.order a.node a.number b.node b.number (t.to i) (t.to j)
    (step_of (trace_actions_of_events c es) a.node a.number i a.tallied) (step_of (trace_actions_of_events c es) b.node b.number j b.tallied)
    (step_of (trace_actions_of_events c t.others) a.node a.number (t.to i) (tallied_moved (trace_actions_of_events c es) (trace_actions_of_events c t.others) t.to a.node a.number i t.moves a.tallied))
    (step_of (trace_actions_of_events c t.others) b.node b.number (t.to j) (tallied_moved (trace_actions_of_events c es) (trace_actions_of_events c t.others) t.to b.node b.number j t.moves b.tallied)) in
    let q : t.to j < t.to i = t.turned in
    omega (arith, p, q)

pub no_race_if_confluent : (c : List NodeRecord) (es : List Event) (i j : ℕ) → IsSome (replay c es) → i < j → j < length es
    → HappensBefore (trace_actions_of_events c es) i j ↔ ((others : List Event) → AreReorderings c es others → IsEarlierInReordering c es others i j)
no_race_if_confluent c es i j h l m = (
  λ b others order. every_order c es others i j b order,
  λ every. elim (cases_Bool (reached_from (trace_actions_of_events c es) i j)) [
    | inl t ↦ before_of (trace_actions_of_events c es) i j t
    | inr none ↦ (let a = some_of (replay c es) h in absurd (not_both c es i j (omega (arith, l, m)) m (turned_at es c a.0 i j a.1 l m none) every))
  ],
)

-- each step exists in each order
pub stands : (c : List NodeRecord) (es fs : List Event) (n k i : ℕ) → AreReorderings c es fs → IsStepOfNode c es n k i → (p : ℕ) × IsStepOfNode c fs n k p
stands c es fs n k i h s =
    let t = moves_of c es fs h in
    (t.0 i, step_of (trace_actions_of_events c fs) n k (t.0 i) (tallied_moved (trace_actions_of_events c es) (trace_actions_of_events c fs) t.0 n k i t.1 (tallied_of (trace_actions_of_events c es) n k i s)))

-- the actions are the causes of the run
pub causes_of_run : (es : List Event) (c last : List NodeRecord) (ts : List (EventWithLook × MadeEventOutcome)) → run_events c es ≡ Some (last, ts) → events_with_looks_of_trace_actions (trace_actions_of_events c es) ≡ causes ts
causes_of_run [] c last ts h = ap (λ (z : List NodeRecord × List (EventWithLook × MadeEventOutcome)). causes z.1) (same_Some (c, []) (last, ts) h)
causes_of_run (e ∷ es) c last ts h =
    let m = first_of_run c e es last ts h in
    ap (λ (z : List EventWithLook). event_with_look_on_chip c e ∷ z)
    (ap (λ (d : List NodeRecord). events_with_looks_of_trace_actions (trace_actions_of_events d es)) (ap (λ (z : List NodeRecord × MadeEventOutcome). z.0) (after_is c m.mid e m.told m.first)) ∙ causes_of_run es m.mid last m.others m.then)
    ∙ ap (λ (z : List (EventWithLook × MadeEventOutcome)). causes z) (sym m.all)

-- each event is a step
pub step_named : (c : List NodeRecord) (es : List Event) (i : ℕ) → i < length es → (n : ℕ) × (k : ℕ) × IsStepOfNode c es n k i
step_named c es i l = let a = named_of c es i l in (a.node, a.number, step_of (trace_actions_of_events c es) a.node a.number i a.tallied)
