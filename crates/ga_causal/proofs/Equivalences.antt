-- Lists of causes that differ by swaps of adjacent independent ones, and the numbers of their steps.
use Rattle.std.proofs.Common.{◌≡◌, ℕ, zero, suc, ◌+◌, Bool, false, ◌||◌, cond, List, [], ◌∷◌, map, refl, sym, ◌∙◌, ap, ap₂, ⊎_elim, ◌<◌, ◌≤◌, ◌⊎◌, true, ◌==◌, subst, inl, inr, arith, eqb-true, eq-eqb}
use Rattle.std.proofs.lemmas.Bool.{or_parts, cases_Bool, cond-false, both_ways, cond-true, or_cases, or_left, false_from_ne_true}
use Rattle.ga_event.specs.declared.event.EventWithLook.{EventWithLook}
use Rattle.std.specs.List.{list_any}
use Rattle.ga_event.proofs.Locality.{touched_free, observes_marked_node-touched}
use Rattle.ga_causal.specs.Dependence.{touched_nodes, event_with_look_touches_node, dependent_flags_from_marks, dependent_flags, unflagged_elements, rest}
use Rattle.ga_event.specs.Touches.{nodes_observed_by_event, observes_marked_node, touches as event_touches}
use Rattle.ga_causal.specs.Steps.{step_counts_after_event, events_numbered_by_nodes, numbered_events, numbered_events_with_seen_steps}
use Rattle.ga_causal.proofs.Runs.{kept, apart_meets}
use mathlib.Core.Path.{fun_ext}
use Rattle.ga_event.specs.declared.event.Event.{Event}
use Rattle.ga_event.specs.declared.event.Event.TheVariants.{Own, Pass}
use Rattle.ga_causal.specs.Equivalence.{event_observes_node, AreIndependentEvents}
use Rattle.ga_causal.proofs.Largest.{step_counts_after_event-least}
use Rattle.ga_causal.proofs.Rollbacks.{step_counts_after_event-other}

-- ---- the numbers of the steps

-- the steps are counted alike outside the marks
abbrev pub AgreeOn : (ℕ → Bool) → (ℕ → ℕ) → (ℕ → ℕ) → Type 0
AgreeOn marks s z = (n : ℕ) → marks n ≡ false → s n ≡ z n

AgreeOn-dropped : (marks : ℕ → Bool) (s z : ℕ → ℕ) (e : EventWithLook) → AgreeOn marks s z → AgreeOn (λ n. marks n || event_with_look_touches_node e n) s (step_counts_after_event z e)
AgreeOn-dropped marks s z e a n free =
    let p : (marks n ≡ false) × (event_with_look_touches_node e n ≡ false) = or_parts (marks n) (event_with_look_touches_node e n) free in
    a n p.0 ∙ sym (cond-false (event_with_look_touches_node e n) (z n + 1) (z n) p.1)

AgreeOn-kept : (marks : ℕ → Bool) (s z : ℕ → ℕ) (e : EventWithLook) → AgreeOn marks s z → AgreeOn marks (step_counts_after_event s e) (step_counts_after_event z e)
AgreeOn-kept marks s z e a n free = ap (λ (k : ℕ). cond (event_with_look_touches_node e n) (k + 1) k) (a n free)

-- an event sees these nodes
abbrev AreSeen : (EventWithLook → List ℕ) → Type 0
AreSeen nodes = (marks : ℕ → Bool) (e : EventWithLook) → observes_marked_node marks e ≡ false → list_any marks (nodes e) ≡ false

pub numbers_alike : (marks : ℕ → Bool) (s z : ℕ → ℕ) → AgreeOn marks s z → (ns : List ℕ) → list_any marks ns ≡ false → map (λ n. s n + 1) ns ≡ map (λ n. z n + 1) ns
numbers_alike marks s z a [] free = refl
numbers_alike marks s z a (n ∷ ns) free =
    let p : (marks n ≡ false) × (list_any marks ns ≡ false) = or_parts (marks n) (list_any marks ns) free in
    ap₂ (λ (x : ℕ) (y : List ℕ). (x + 1) ∷ y) (a n p.0) (numbers_alike marks s z a ns p.1)

numbered_kept : (nodes : EventWithLook → List ℕ) → AreSeen nodes → (marks : ℕ → Bool) (es : List EventWithLook) (s z : ℕ → ℕ) → AgreeOn marks s z → events_numbered_by_nodes nodes s (kept marks es) ≡ unflagged_elements (dependent_flags_from_marks marks es) (events_numbered_by_nodes nodes z es)
numbered_kept nodes seen marks [] s z a = refl
numbered_kept nodes seen marks (e ∷ es) s z a = ⊎_elim
    (λ m. rw m (numbered_kept nodes seen (λ n. marks n || event_with_look_touches_node e n) es s (step_counts_after_event z e) (AgreeOn-dropped marks s z e a)))
    (λ m. rw m (ap₂ (λ (x : List ℕ) (y : List (EventWithLook × List ℕ)). (e, x) ∷ y) (numbers_alike marks s z a (nodes e) (seen marks e m)) (numbered_kept nodes seen marks es (step_counts_after_event s e) (step_counts_after_event z e) (AgreeOn-kept marks s z e a))))
    (cases_Bool (observes_marked_node marks e))

pub AgreeOn-first : (s : ℕ → ℕ) (e : EventWithLook) → AgreeOn (event_with_look_touches_node e) s (step_counts_after_event s e)
AgreeOn-first s e n free = sym (cond-false (event_with_look_touches_node e n) (s n + 1) (s n) free)

numbered_rest : (nodes : EventWithLook → List ℕ) → AreSeen nodes → (es : List EventWithLook) (i : ℕ) (s : ℕ → ℕ) → events_numbered_by_nodes nodes s (rest es i) ≡ unflagged_elements (dependent_flags es i) (events_numbered_by_nodes nodes s es)
numbered_rest nodes seen [] i s = refl
numbered_rest nodes seen (e ∷ es) zero s = numbered_kept nodes seen (event_with_look_touches_node e) es s (step_counts_after_event s e) (AgreeOn-first s e)
numbered_rest nodes seen (e ∷ es) (suc i) s = ap (λ z. (e, map (λ n. s n + 1) (nodes e)) ∷ z) (numbered_rest nodes seen es i (step_counts_after_event s e))

pub steps_rest : (events : List EventWithLook) (i : ℕ) → numbered_events (rest events i) ≡ unflagged_elements (dependent_flags events i) (numbered_events events)
steps_rest events i = numbered_rest touched_nodes touched_free events i (λ n. 0)

pub seen_rest : (events : List EventWithLook) (i : ℕ) → numbered_events_with_seen_steps (rest events i) ≡ unflagged_elements (dependent_flags events i) (numbered_events_with_seen_steps events)
seen_rest events i = numbered_rest nodes_observed_by_event (λ marks e free. free) events i (λ n. 0)

-- one list is made from the other by swaps of adjacent independent causes
pub data IsSwapOf : List EventWithLook → List EventWithLook → Type 0 where
  stays : {xs : List EventWithLook} → IsSwapOf xs xs
  flipped : {e f : EventWithLook} {xs : List EventWithLook} → AreIndependentEvents e f → IsSwapOf (e ∷ f ∷ xs) (f ∷ e ∷ xs)
  after : {e : EventWithLook} {xs ys : List EventWithLook} → IsSwapOf xs ys → IsSwapOf (e ∷ xs) (e ∷ ys)
  chained : {xs ys zs : List EventWithLook} → IsSwapOf xs ys → IsSwapOf ys zs → IsSwapOf xs zs

pub AreApart-sym : (e f : EventWithLook) → AreIndependentEvents e f → AreIndependentEvents f e
AreApart-sym e f h = record { first = h.second; second = h.first }

pub Shuffled-sym : (xs ys : List EventWithLook) → IsSwapOf xs ys → IsSwapOf ys xs
Shuffled-sym xs ys stays = stays
Shuffled-sym xs ys (flipped {e} {f} {xs = zs} h) = flipped (AreApart-sym e f h)
Shuffled-sym xs ys (after {xs = us} {ys = vs} h) = after (Shuffled-sym us vs h)
Shuffled-sym xs ys (chained {ys = zs} h k) = chained (Shuffled-sym zs ys k) (Shuffled-sym xs zs h)

-- the numbers of an event's next steps, after s n steps of each node n
abbrev pub numbers : (ℕ → ℕ) → EventWithLook → List ℕ
numbers s e = map (λ n. s n + 1) (nodes_observed_by_event e)

abbrev pub entries : (ℕ → ℕ) → List EventWithLook → List (EventWithLook × List ℕ)
entries s es = events_numbered_by_nodes nodes_observed_by_event s es

pub counted_both : (s : ℕ → ℕ) (e f : EventWithLook) → step_counts_after_event (step_counts_after_event s e) f ≡ step_counts_after_event (step_counts_after_event s f) e
counted_both s e f = fun_ext (λ n. two (event_with_look_touches_node e n) (event_with_look_touches_node f n) (s n))
  where
    two : (a b : Bool) (x : ℕ) → cond b (cond a (x + 1) x + 1) (cond a (x + 1) x) ≡ cond a (cond b (x + 1) x + 1) (cond b (x + 1) x)
    two true true x = refl
    two true false x = refl
    two false true x = refl
    two false false x = refl

pub independent_on_all : (e f : EventWithLook) → AreIndependentEvents e f → observes_marked_node (event_with_look_touches_node e) f ≡ false
independent_on_all e f h = apart_meets e f h.first

-- an event has the same numbers after one that touches nothing that it sees
pub numbers_after : (s : ℕ → ℕ) (e f : EventWithLook) → observes_marked_node (event_with_look_touches_node e) f ≡ false → numbers s f ≡ numbers (step_counts_after_event s e) f
numbers_after s e f free = numbers_alike (event_with_look_touches_node e) s (step_counts_after_event s e) (AgreeOn-first s e) (nodes_observed_by_event f) free

pub entries_flipped : (s : ℕ → ℕ) (e f : EventWithLook) (xs : List EventWithLook) → AreIndependentEvents e f → entries s (f ∷ e ∷ xs) ≡ (f, numbers (step_counts_after_event s e) f) ∷ (e, numbers s e) ∷ entries (step_counts_after_event (step_counts_after_event s e) f) xs
entries_flipped s e f xs h =
    ap (λ (z : List ℕ). (f, z) ∷ (e, numbers (step_counts_after_event s f) e) ∷ entries (step_counts_after_event (step_counts_after_event s f) e) xs) (numbers_after s e f (independent_on_all e f h))
    ∙ ap (λ (z : List ℕ). (f, numbers (step_counts_after_event s e) f) ∷ (e, z) ∷ entries (step_counts_after_event (step_counts_after_event s f) e) xs) (sym (numbers_after s f e (independent_on_all f e (AreApart-sym e f h))))
    ∙ ap (λ z. (f, numbers (step_counts_after_event s e) f) ∷ (e, numbers s e) ∷ entries z xs) (sym (counted_both s e f))

-- one of the elements
abbrev pub In : {A : Type 0} → A → List A → Type 0
In x [] = ⊥
In x (y ∷ ys) = (y ≡ x) ⊎ In x ys

pub In_shuffled : (s : ℕ → ℕ) (xs ys : List EventWithLook) (x : EventWithLook × List ℕ) → IsSwapOf xs ys → In x (entries s xs) → In x (entries s ys)
In_shuffled s xs ys x stays i = i
In_shuffled s xs ys x (flipped {e} {f} {xs = zs} h) i = subst (In x) (sym (entries_flipped s e f zs h)) (turn i)
  where
    turn : In x (entries s (e ∷ f ∷ zs)) → In x ((f, numbers (step_counts_after_event s e) f) ∷ (e, numbers s e) ∷ entries (step_counts_after_event (step_counts_after_event s e) f) zs)
    turn (inl q) = inr (inl q)
    turn (inr (inl q)) = inl q
    turn (inr (inr q)) = inr (inr q)
In_shuffled s xs ys x (after {e} {xs = us} {ys = vs} h) (inl q) = inl q
In_shuffled s xs ys x (after {e} {xs = us} {ys = vs} h) (inr q) = inr (In_shuffled (step_counts_after_event s e) us vs x h q)
In_shuffled s xs ys x (chained {ys = zs} h k) i = In_shuffled s zs ys x k (In_shuffled s xs zs x h i)

-- an entry of a list that begins after s n steps of each node n
pub record IsLate (s : ℕ → ℕ) (x : EventWithLook × List ℕ) : Type 0 where
  pub when : ℕ → ℕ
  pub most : (n : ℕ) → s n ≤ when n
  pub is : numbers when x.0 ≡ x.1

late_of : (s : ℕ → ℕ) (x : EventWithLook × List ℕ) (es : List EventWithLook) → In x (entries s es) → IsLate s x
late_of s x [] i = absurd i
late_of s x (e ∷ es) (inl q) = subst (IsLate s) q (record { when = s; most = λ n. omega arith; is = refl })
late_of s x (e ∷ es) (inr i) =
    let l : IsLate (step_counts_after_event s e) x = late_of (step_counts_after_event s e) x es i in
    record { when = l.when; most = λ n. (let a : s n ≤ step_counts_after_event s e n = step_counts_after_event-least s e n in let b : step_counts_after_event s e n ≤ l.when n = l.most n in omega arith); is = l.is }

same_at : (a b : ℕ → ℕ) (n : ℕ) (ns : List ℕ) → map (λ m. a m + 1) ns ≡ map (λ m. b m + 1) ns → list_any (λ m. m == n) ns ≡ true → a n ≡ b n
same_at a b n [] h t = absurd (both_ways false refl t)
same_at a b n (m ∷ ns) h t =
    let head : a m + 1 ≡ b m + 1 = cc in
    let tail : map (λ k. a k + 1) ns ≡ map (λ k. b k + 1) ns = cc in
    ⊎_elim
    (λ q. subst (λ z. a z ≡ b z) (eqb-true m n q) (let w : a m ≡ b m = omega arith in w))
    (λ q. same_at a b n ns tail q)
    (or_cases (m == n) (list_any (λ k. k == n) ns) t)

-- the numbers at a node that an event sees
pub same_number : (a b : ℕ → ℕ) (e : EventWithLook) (n : ℕ) → numbers a e ≡ numbers b e → event_observes_node e n ≡ true → a n ≡ b n
same_number a b e n h t = same_at a b n (nodes_observed_by_event e) h t

pub sees_touched : (e : EventWithLook) (n : ℕ) → event_with_look_touches_node e n ≡ true → event_observes_node e n ≡ true
sees_touched e n t = observes_marked_node-touched (λ m. m == n) e t

-- each event touches a node
pub record Touched (e : Event) : Type 0 where
  pub node : ℕ
  pub is : event_touches e node ≡ true

pub touched_of : (e : Event) → Touched e
touched_of (Own n) = record { node = n.number; is = or_left (n.number == n.number) false (eq-eqb n.number n.number refl) }
touched_of (Pass w r side) = record { node = w.number; is = or_left (w.number == w.number) ((r.number == w.number) || false) (eq-eqb w.number w.number refl) }

-- At each node that k touches and that this event sees, it comes after k, which is made after s n steps of each node n.
IsBeyond : EventWithLook → (ℕ → ℕ) → EventWithLook × List ℕ → Type 0
IsBeyond k s x = (n : ℕ) → event_with_look_touches_node k n ≡ true → event_observes_node x.0 n ≡ true → (w : ℕ → ℕ) → numbers w x.0 ≡ x.1 → s n < w n

beyond_of : (k : EventWithLook) (s : ℕ → ℕ) (x : EventWithLook × List ℕ) → IsLate (step_counts_after_event s k) x → IsBeyond k s x
unfolding IsBeyond
beyond_of k s x l n t seen w h =
    let a : w n ≡ l.when n = same_number w l.when x.0 n (h ∙ sym l.is) seen in
    let b : step_counts_after_event s k n ≤ l.when n = l.most n in
    let c : step_counts_after_event s k n ≡ s n + 1 = cond-true (event_with_look_touches_node k n) (s n + 1) (s n) t in
    omega arith

-- it is not k itself
not_beyond : (k : EventWithLook) (s : ℕ → ℕ) → IsBeyond k s (k, numbers s k) → ⊥
unfolding IsBeyond
not_beyond k s b =
    let t : Touched k.event = touched_of k.event in
    let l : s t.node < s t.node = b t.node t.is (sees_touched k t.node t.is) s refl in
    omega arith

-- an event that comes later touches nothing that k sees, where k has its numbers already now
first_apart : (k f : EventWithLook) (s : ℕ → ℕ) → IsLate (step_counts_after_event s f) (k, numbers s k) → (n : ℕ) → event_with_look_touches_node f n ≡ true → event_observes_node k n ≡ true → ⊥
first_apart k f s l n t seen =
    let a : s n ≡ l.when n = same_number s l.when k n (sym l.is) seen in
    let b : step_counts_after_event s f n ≤ l.when n = l.most n in
    let c : step_counts_after_event s f n ≡ s n + 1 = cond-true (event_with_look_touches_node f n) (s n + 1) (s n) t in
    omega arith

record Fronted (k : EventWithLook) (ys : List EventWithLook) : Type 0 where
  others : List EventWithLook
  front : IsSwapOf ys (k ∷ others)

-- what else there is comes after k
abbrev Others : EventWithLook → (ℕ → ℕ) → List EventWithLook → Type 0
Others k s ys = (x : EventWithLook × List ℕ) → In x (entries s ys) → ((k, numbers s k) ≡ x) ⊎ IsBeyond k s x

second_apart : (k f : EventWithLook) (s : ℕ → ℕ) (ys : List EventWithLook) → Others k s (f ∷ ys) → ((n : ℕ) → event_with_look_touches_node f n ≡ true → event_observes_node k n ≡ true → ⊥) → (n : ℕ) → event_with_look_touches_node k n ≡ true → event_observes_node f n ≡ true → ⊥
unfolding IsBeyond
second_apart k f s ys h first n t seen = elim (h (f, numbers s f) (inl refl)) [
  | inl q ↦ first n (subst (λ (z : EventWithLook × List ℕ). event_with_look_touches_node z.0 n ≡ true) q t) (sees_touched k n t)
  | inr b ↦ (let l : s n < s n = b n t seen s refl in omega arith)
]

others_later : (k f : EventWithLook) (s : ℕ → ℕ) (ys : List EventWithLook) → Others k s (f ∷ ys) → ((n : ℕ) → event_with_look_touches_node f n ≡ true → event_observes_node k n ≡ true → ⊥) → numbers s k ≡ numbers (step_counts_after_event s f) k → Others k (step_counts_after_event s f) ys
unfolding IsBeyond
others_later k f s ys h first same x i = elim (h x (inr i)) [
  | inl q ↦ inl (ap (λ (z : List ℕ). (k, z)) (sym same) ∙ q)
  | inr b ↦ inr (λ n t seen w g.
      let l : s n < w n = b n t seen w g in
      let c : step_counts_after_event s f n ≡ s n = step_counts_after_event-other s f n (false_from_ne_true (event_with_look_touches_node f n) (λ u. first n u (sees_touched k n t))) in
      omega arith)
]

-- an event is moved to the front, past events that are independent of it
fronted : (k : EventWithLook) (s : ℕ → ℕ) (ys : List EventWithLook) → In (k, numbers s k) (entries s ys) → Others k s ys → Fronted k ys
fronted k s [] i h = absurd i
fronted k s (f ∷ ys) (inl q) h =
    record { others = ys; front = subst (λ (z : EventWithLook × List ℕ). IsSwapOf (f ∷ ys) (z.0 ∷ ys)) q stays }
fronted k s (f ∷ ys) (inr i) h =
    let first = first_apart k f s (late_of (step_counts_after_event s f) (k, numbers s k) ys i) in
    let second = second_apart k f s ys h first in
    let apart : AreIndependentEvents f k = record { first = first; second = second } in
    let same : numbers s k ≡ numbers (step_counts_after_event s f) k = numbers_after s f k (independent_on_all f k apart) in
    let r : Fronted k ys = fronted k (step_counts_after_event s f) ys (subst (λ (z : List ℕ). In (k, z) (entries (step_counts_after_event s f) ys)) same i) (others_later k f s ys h first same) in
    record { others = f ∷ r.others; front = chained (after r.front) (flipped apart) }

not_self : (k : EventWithLook) (s : ℕ → ℕ) (es : List EventWithLook) (x : EventWithLook × List ℕ) → In x (entries (step_counts_after_event s k) es) → (k, numbers s k) ≡ x → ⊥
not_self k s es x i q =
    not_beyond k s (subst (IsBeyond k s) (sym q) (beyond_of k s x (late_of (step_counts_after_event s k) x es i)))

-- lists with the same entries differ by swaps of adjacent independent causes
pub shuffled_of : (s : ℕ → ℕ) (xs ys : List EventWithLook) → ((x : EventWithLook × List ℕ) → In x (entries s xs) → In x (entries s ys)) → ((x : EventWithLook × List ℕ) → In x (entries s ys) → In x (entries s xs)) → IsSwapOf xs ys
shuffled_of s [] [] to from = stays
shuffled_of s [] (f ∷ ys) to from = absurd (from (f, numbers s f) (inl refl))
shuffled_of s (k ∷ xs) ys to from = chained (after (shuffled_of (step_counts_after_event s k) xs r.others onward back)) (Shuffled-sym ys (k ∷ r.others) r.front)
  where
    beyond : Others k s ys
    beyond x i = ⊎_elim (λ q. inl q) (λ m. inr (beyond_of k s x (late_of (step_counts_after_event s k) x xs m))) (from x i)

    r : Fronted k ys
    r = fronted k s ys (to (k, numbers s k) (inl refl)) beyond

    onward : (x : EventWithLook × List ℕ) → In x (entries (step_counts_after_event s k) xs) → In x (entries (step_counts_after_event s k) r.others)
    onward x m = ⊎_elim (λ q. absurd (not_self k s xs x m q)) (λ i. i) (In_shuffled s ys (k ∷ r.others) x r.front (to x (inr m)))

    back : (x : EventWithLook × List ℕ) → In x (entries (step_counts_after_event s k) r.others) → In x (entries (step_counts_after_event s k) xs)
    back x m = ⊎_elim (λ q. absurd (not_self k s r.others x m q)) (λ i. i) (from x (In_shuffled s (k ∷ r.others) ys x (Shuffled-sym ys (k ∷ r.others) r.front) (inr m)))
