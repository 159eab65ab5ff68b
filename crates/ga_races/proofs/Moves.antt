-- Where the actions of a list are in another order of it: dependent actions keep their order, and each is the step of the same
-- number of each of its nodes.
use Rattle.std.proofs.Common.{◌≡◌, ℕ, zero, suc, ◌+◌, ◌<◌, Bool, true, false, cond, inl, inr, List, [], ◌∷◌, length, take, refl, sym, ◌∙◌, ap, ap₂, subst, subst₂, arith}
use Rattle.std.proofs.lemmas.Bool.{both_ways, cases_order}
use Rattle.ga_node.specs.Record.{NodeRecord}
use Rattle.ga_event.specs.declared.event.Event.{Event}
use Rattle.ga_event.specs.declared.event.EventWithLook.{EventWithLook}
use Rattle.ga_event.specs.Touches.{touches}
use Rattle.ga_event.specs.Apply.{event_result}
use Rattle.ga_causal.specs.Dependence.{event_at}
use Rattle.ga_causal.specs.Steps.{count_touching_events, IsKthStep}
use Rattle.ga_causal.proofs.Places.{count_touching_events-cons}
use Rattle.ga_races.specs.Orders.{IsEnabled, AreIndependentOnChip, AreReorderings, same, swapped, later, joined}
use Rattle.ga_races.specs.HappensBefore.{TraceAction, trace_action_of_event, trace_actions_of_events, events_with_looks_of_trace_actions, trace_action_at, are_dependent_actions, HappensBefore, directly, through}
use Rattle.ga_races.proofs.Independence.{independent_on_chip, free-sym, apart-sym}
use Rattle.ga_races.proofs.Bound.{action_still, unbound_of, unbound_apart}

-- how many of the first actions touch the node
abbrev pub tally : ℕ → List TraceAction → ℕ → ℕ
tally n [] i = 0
tally n (a ∷ xs) zero = 0
tally n (a ∷ xs) (suc i) = cond (touches a.cause.event n) 1 0 + tally n xs i

pub record Moves (to : ℕ → ℕ) (xs ys : List TraceAction) : Type 0 where
  pub within : (i : ℕ) → i < length xs → to i < length ys
  pub alike : (i : ℕ) → i < length xs → trace_action_at xs i ≡ trace_action_at ys (to i)
  pub order : (i j : ℕ) → i < j → j < length xs → are_dependent_actions (trace_action_at xs i) (trace_action_at xs j) ≡ true → to i < to j
  pub steps : (n i : ℕ) → i < length xs → touches (trace_action_at xs i).cause.event n ≡ true → tally n xs i ≡ tally n ys (to i)

abbrev pub flip : ℕ → ℕ
flip zero = suc zero
flip (suc zero) = zero
flip (suc (suc i)) = suc (suc i)

abbrev pub lifted : (ℕ → ℕ) → ℕ → ℕ
lifted f zero = zero
lifted f (suc i) = suc (f i)

pub moves_same : (xs : List TraceAction) → Moves (λ i. i) xs xs
moves_same xs = record { within = λ i l. l; alike = λ i l. refl; order = λ i j l k r. l; steps = λ n i l t. refl }

pub moves_flipped : (a b : TraceAction) (zs : List TraceAction) → are_dependent_actions a b ≡ false → Moves flip (a ∷ b ∷ zs) (b ∷ a ∷ zs)
moves_flipped a b zs none = record { within = within; alike = alike; order = order; steps = steps }
  where
    within : (i : ℕ) → i < length (a ∷ b ∷ zs) → flip i < length (b ∷ a ∷ zs)
    within zero l = let g : 1 < suc (suc (length zs)) = omega arith in g
    within (suc zero) l = let g : 0 < suc (suc (length zs)) = omega arith in g
    within (suc (suc i)) l = l

    alike : (i : ℕ) → i < length (a ∷ b ∷ zs) → trace_action_at (a ∷ b ∷ zs) i ≡ trace_action_at (b ∷ a ∷ zs) (flip i)
    alike zero l = refl
    alike (suc zero) l = refl
    alike (suc (suc i)) l = refl

    order : (i j : ℕ) → i < j → j < length (a ∷ b ∷ zs) → are_dependent_actions (trace_action_at (a ∷ b ∷ zs) i) (trace_action_at (a ∷ b ∷ zs) j) ≡ true → flip i < flip j
    order zero zero l k r = absurd (omega (arith, l))
    order zero (suc zero) l k r = absurd (both_ways (are_dependent_actions a b) none r)
    order zero (suc (suc j)) l k r = let g : 1 < suc (suc j) = omega arith in g
    order (suc zero) zero l k r = absurd (omega (arith, l))
    order (suc zero) (suc zero) l k r = absurd (omega (arith, l))
    order (suc zero) (suc (suc j)) l k r = let g : 0 < suc (suc j) = omega arith in g
    order (suc (suc i)) zero l k r = absurd (omega (arith, l))
    order (suc (suc i)) (suc zero) l k r = absurd (omega (arith, l))
    order (suc (suc i)) (suc (suc j)) l k r = l

    no_step : (x : Bool) → x ≡ false → 0 ≡ cond x 1 0 + 0
    no_step x q = ap (λ (z : Bool). cond z 1 0 + 0) (sym q)

    added : (x y z : ℕ) → x + (y + z) ≡ y + (x + z)
    added x y z = omega arith

    steps : (n i : ℕ) → i < length (a ∷ b ∷ zs) → touches (trace_action_at (a ∷ b ∷ zs) i).cause.event n ≡ true → tally n (a ∷ b ∷ zs) i ≡ tally n (b ∷ a ∷ zs) (flip i)
    steps n zero l t = no_step (touches b.cause.event n) (unbound_apart a b none n t)
    steps n (suc zero) l t = sym (no_step (touches a.cause.event n) (apart-sym a.cause.event b.cause.event (unbound_apart a b none) n t))
    steps n (suc (suc i)) l t = added (cond (touches a.cause.event n) 1 0) (cond (touches b.cause.event n) 1 0) (tally n zs i)

pub moves_behind : (a : TraceAction) (us vs : List TraceAction) (to : ℕ → ℕ) → Moves to us vs → Moves (lifted to) (a ∷ us) (a ∷ vs)
moves_behind a us vs to m = record { within = within; alike = alike; order = order; steps = steps }
  where
    within : (i : ℕ) → i < length (a ∷ us) → lifted to i < length (a ∷ vs)
    within zero l = let g : 0 < suc (length vs) = omega arith in g
    within (suc i) l = let w : to i < length vs = m.within i (omega (arith, l)) in let g : suc (to i) < suc (length vs) = omega (arith, w) in g

    alike : (i : ℕ) → i < length (a ∷ us) → trace_action_at (a ∷ us) i ≡ trace_action_at (a ∷ vs) (lifted to i)
    alike zero l = refl
    alike (suc i) l = m.alike i (omega (arith, l))

    order : (i j : ℕ) → i < j → j < length (a ∷ us) → are_dependent_actions (trace_action_at (a ∷ us) i) (trace_action_at (a ∷ us) j) ≡ true → lifted to i < lifted to j
    order zero zero l k r = absurd (omega (arith, l))
    order zero (suc j) l k r = let g : 0 < suc (to j) = omega arith in g
    order (suc i) zero l k r = absurd (omega (arith, l))
    order (suc i) (suc j) l k r = let w : to i < to j = m.order i j (omega (arith, l)) (omega (arith, k)) r in let g : suc (to i) < suc (to j) = omega (arith, w) in g

    steps : (n i : ℕ) → i < length (a ∷ us) → touches (trace_action_at (a ∷ us) i).cause.event n ≡ true → tally n (a ∷ us) i ≡ tally n (a ∷ vs) (lifted to i)
    steps n zero l t = refl
    steps n (suc i) l t = ap (λ (z : ℕ). cond (touches a.cause.event n) 1 0 + z) (m.steps n i (omega (arith, l)) t)

pub moves_chained : (xs ys zs : List TraceAction) (f g : ℕ → ℕ) → Moves f xs ys → Moves g ys zs → Moves (λ i. g (f i)) xs zs
moves_chained xs ys zs f g p q = record {
  within = λ i l. q.within (f i) (p.within i l);
  alike = λ i l. p.alike i l ∙ q.alike (f i) (p.within i l);
  order = λ i j l k r. q.order (f i) (f j) (p.order i j l k r) (p.within j k)
      (ap₂ are_dependent_actions (sym (p.alike i (let w : i < length xs = omega (arith, l, k) in w))) (sym (p.alike j k)) ∙ r);
  steps = λ n i l t. p.steps n i l t ∙ q.steps n (f i) (p.within i l) (ap (λ (a : TraceAction). touches a.cause.event n) (sym (p.alike i l)) ∙ t);
}

-- the actions of two independent neighbours, in either order
pub actions_first : (c : List NodeRecord) (e f : Event) (zs : List Event) → IsEnabled c e → IsEnabled c f → AreIndependentOnChip c e f
    → trace_actions_of_events c (e ∷ f ∷ zs) ≡ trace_action_of_event c e ∷ trace_action_of_event c f ∷ trace_actions_of_events (event_result (event_result c e).0 f).0 zs
actions_first c e f zs cane canf free =
    ap (λ (a : TraceAction). trace_action_of_event c e ∷ a ∷ trace_actions_of_events (event_result (event_result c e).0 f).0 zs) (action_still c e f cane canf free.apart free.second)

pub actions_second : (c : List NodeRecord) (e f : Event) (zs : List Event) → IsEnabled c e → IsEnabled c f → AreIndependentOnChip c e f
    → trace_actions_of_events c (f ∷ e ∷ zs) ≡ trace_action_of_event c f ∷ trace_action_of_event c e ∷ trace_actions_of_events (event_result (event_result c e).0 f).0 zs
actions_second c e f zs cane canf free =
    actions_first c f e zs canf cane (free-sym c e f free)
    ∙ ap (λ (d : List NodeRecord). trace_action_of_event c f ∷ trace_action_of_event c e ∷ trace_actions_of_events d zs) (sym (independent_on_chip c e f cane canf free))

pub moves_swapped : (c : List NodeRecord) (e f : Event) (zs : List Event) → IsEnabled c e → IsEnabled c f → AreIndependentOnChip c e f → Moves flip (trace_actions_of_events c (e ∷ f ∷ zs)) (trace_actions_of_events c (f ∷ e ∷ zs))
moves_swapped c e f zs cane canf free =
    subst₂ (Moves flip) (sym (actions_first c e f zs cane canf free)) (sym (actions_second c e f zs cane canf free))
    (moves_flipped (trace_action_of_event c e) (trace_action_of_event c f) (trace_actions_of_events (event_result (event_result c e).0 f).0 zs) (unbound_of c e f cane canf free))

abbrev pub Moved : List NodeRecord → List Event → List Event → Type 0
Moved c xs ys = (to : ℕ → ℕ) × Moves to (trace_actions_of_events c xs) (trace_actions_of_events c ys)

pub moves_of : (c : List NodeRecord) (xs ys : List Event) → AreReorderings c xs ys → Moved c xs ys
moves_of c xs ys same = (λ i. i, moves_same (trace_actions_of_events c xs))
moves_of c xs ys (swapped {e} {f} {xs = zs} cane canf free) = (flip, moves_swapped c e f zs cane canf free)
moves_of c xs ys (later {e} {xs = us} {ys = vs} can h) =
    let m = moves_of (event_result c e).0 us vs h in
    (lifted m.0, moves_behind (trace_action_of_event c e) (trace_actions_of_events (event_result c e).0 us) (trace_actions_of_events (event_result c e).0 vs) m.0 m.1)
moves_of c xs ys (joined {ys = zs} h k) =
    let m = moves_of c xs zs h in
    let n = moves_of c zs ys k in
    (λ i. n.0 (m.0 i), moves_chained (trace_actions_of_events c xs) (trace_actions_of_events c zs) (trace_actions_of_events c ys) m.0 n.0 m.1 n.1)

-- what happens before another keeps its place before it
pub before_within : (xs : List TraceAction) (i j : ℕ) → HappensBefore xs i j → (i < j) × (j < length xs)
before_within xs i j (directly d) = (d.before, d.within)
before_within xs i j (through {middle} h d) =
    let p = before_within xs i middle h in
    let k : i < middle = p.0 in
    let l : middle < j = d.before in
    (omega (arith, k, l), d.within)

pub before_moved : (xs ys : List TraceAction) (to : ℕ → ℕ) (i j : ℕ) → Moves to xs ys → HappensBefore xs i j → to i < to j
before_moved xs ys to i j m (directly d) = m.order i j d.before d.within d.bound
before_moved xs ys to i j m (through {middle} h d) =
    let k : to i < to middle = before_moved xs ys to i middle m h in
    let l : to middle < to j = m.order middle j d.before d.within d.bound in
    omega (arith, k, l)

-- ---- steps

causes_length : (xs : List TraceAction) → length (events_with_looks_of_trace_actions xs) ≡ length xs
causes_length [] = refl
causes_length (a ∷ xs) = ap suc (causes_length xs)

cause_at : (xs : List TraceAction) (i : ℕ) → event_at (events_with_looks_of_trace_actions xs) i ≡ (trace_action_at xs i).cause
cause_at [] i = refl
cause_at (a ∷ xs) zero = refl
cause_at (a ∷ xs) (suc i) = cause_at xs i

pub tally_is : (n : ℕ) (xs : List TraceAction) (i : ℕ) → count_touching_events n (take i (events_with_looks_of_trace_actions xs)) ≡ tally n xs i
tally_is n [] zero = refl
tally_is n [] (suc i) = refl
tally_is n (a ∷ xs) zero = refl
tally_is n (a ∷ xs) (suc i) = count_touching_events-cons n a.cause (take i (events_with_looks_of_trace_actions xs)) ∙ ap (λ (z : ℕ). cond (touches a.cause.event n) 1 0 + z) (tally_is n xs i)

-- the action at the place is the k-th that touches the node
pub record IsTallied (xs : List TraceAction) (n k i : ℕ) : Type 0 where
  pub within : i < length xs
  pub touched : touches (trace_action_at xs i).cause.event n ≡ true
  pub before : suc (tally n xs i) ≡ k

pub tallied_of : (xs : List TraceAction) (n k i : ℕ) → IsKthStep (events_with_looks_of_trace_actions xs) n k i → IsTallied xs n k i
tallied_of xs n k i s =
    let size : length (events_with_looks_of_trace_actions xs) ≡ length xs = causes_length xs in
    let l : i < length (events_with_looks_of_trace_actions xs) = s.within in
    let t : count_touching_events n (take i (events_with_looks_of_trace_actions xs)) ≡ tally n xs i = tally_is n xs i in
    let b : count_touching_events n (take i (events_with_looks_of_trace_actions xs)) + 1 ≡ k = s.before in
    record { within = omega (arith, l, size); touched = ap (λ (z : EventWithLook). touches z.event n) (sym (cause_at xs i)) ∙ s.touched; before = omega (arith, t, b) }

pub step_of : (xs : List TraceAction) (n k i : ℕ) → IsTallied xs n k i → IsKthStep (events_with_looks_of_trace_actions xs) n k i
step_of xs n k i s =
    let size : length (events_with_looks_of_trace_actions xs) ≡ length xs = causes_length xs in
    let l : i < length xs = s.within in
    let t : count_touching_events n (take i (events_with_looks_of_trace_actions xs)) ≡ tally n xs i = tally_is n xs i in
    let b : suc (tally n xs i) ≡ k = s.before in
    record { within = omega (arith, l, size); touched = ap (λ (z : EventWithLook). touches z.event n) (cause_at xs i) ∙ s.touched; before = omega (arith, t, b) }

pub tallied_moved : (xs ys : List TraceAction) (to : ℕ → ℕ) (n k i : ℕ) → Moves to xs ys → IsTallied xs n k i → IsTallied ys n k (to i)
tallied_moved xs ys to n k i m s = record {
  within = m.within i s.within;
  touched = ap (λ (a : TraceAction). touches a.cause.event n) (sym (m.alike i s.within)) ∙ s.touched;
  before = ap suc (sym (m.steps n i s.within s.touched)) ∙ s.before;
}

-- a later place has more
pub tally_grows : (n : ℕ) (xs : List TraceAction) (i j : ℕ) → i < j → i < length xs → touches (trace_action_at xs i).cause.event n ≡ true → tally n xs i < tally n xs j
tally_grows n [] i j l k t = absurd (omega (arith, k))
tally_grows n (a ∷ xs) i zero l k t = absurd (omega (arith, l))
tally_grows n (a ∷ xs) zero (suc j) l k t = subst (λ (b : Bool). 0 < cond b 1 0 + tally n xs j) (sym t) (omega arith)
tally_grows n (a ∷ xs) (suc i) (suc j) l k t =
    let w : tally n xs i < tally n xs j = tally_grows n xs i j (omega (arith, l)) (omega (arith, k)) t in
    more (cond (touches a.cause.event n) 1 0) (tally n xs i) (tally n xs j) w
  where
    more : (x y z : ℕ) → y < z → x + y < x + z
    more x y z h = omega (arith, h)

-- each step is at one place
pub tallied_one : (xs : List TraceAction) (n k i j : ℕ) → IsTallied xs n k i → IsTallied xs n k j → i ≡ j
tallied_one xs n k i j s u = elim (cases_order i j) [
  | inl q ↦ q
  | inr (inl l) ↦ absurd (no_more (tally n xs i) (tally n xs j) s.before u.before (tally_grows n xs i j l s.within s.touched))
  | inr (inr l) ↦ absurd (no_more (tally n xs j) (tally n xs i) u.before s.before (tally_grows n xs j i l u.within u.touched))
]
  where
    no_more : (x y : ℕ) → suc x ≡ k → suc y ≡ k → x < y → ⊥
    no_more x y p q h = omega (arith, p, q, h)
