-- A list without a race: each other list that can be made is a prefix of it, in another order.
use Rattle.std.proofs.Common.{◌≡◌, ℕ, ◌≤◌, ◌+◌, Bool, true, false, cond, ◌⊎◌, inl, inr, List, [], ◌∷◌, ◌++◌, length, Option, Some, None, IsSome, true≢false, refl, sym, ◌∙◌, ap, subst, arith, append-nil, length-append}
use Rattle.std.proofs.lemmas.Bool.{cases_eq, both_ways, false_from_ne_true}
use Rattle.std.proofs.lemmas.List.Sums.{sum_by-cons}
use Rattle.std.proofs.lemmas.Option.{same_Some}
use Rattle.ga_node.specs.Record.{NodeRecord}
use Rattle.ga_event.specs.declared.event.Event.{Event}
use Rattle.ga_event.specs.Touches.{touches}
use Rattle.ga_event.specs.Apply.{event_result, replay}
use Rattle.ga_event.specs.Told.{count_steps}
use Rattle.ga_causal.specs.Words.{outside_word_of_event, local_history_with_outside_words}
use Rattle.ga_causal.proofs.Equivalences.{touched_of}
use Rattle.ga_races.specs.Orders.{IsEnabled, IsTerminalChip, AreIndependentOnChip, AreReorderings, same, swapped, later, joined, HasNoRace}
use Rattle.ga_races.proofs.Independence.{replay_more, first_of, still_enabled, free_or_bound, independent_on_chip, free_replay, read_swapped, replay_two}
use Rattle.ga_races.proofs.Conflicts.{actor, one_event}

-- ---- orders

pub some_of : (o : Option (List NodeRecord)) → IsSome o → (d : List NodeRecord) × (o ≡ Some d)
some_of None h = absurd (true≢false (sym h))
some_of (Some d) h = (d, refl)

pub is_some_of : (o : Option (List NodeRecord)) (d : List NodeRecord) → o ≡ Some d → IsSome o
is_some_of o d h = subst (λ (z : Option (List NodeRecord)). IsSome z) (sym h) refl

-- orders lead to one chip
pub order_replay : (c : List NodeRecord) (xs ys : List Event) → AreReorderings c xs ys → replay c xs ≡ replay c ys
order_replay c xs ys same = refl
order_replay c xs ys (swapped {e} {f} {xs = zs} cane canf free) = free_replay c e f zs cane canf free
order_replay c xs ys (later {e} {xs = us} {ys = vs} can h) = replay_more c e us can ∙ order_replay (event_result c e).0 us vs h ∙ sym (replay_more c e vs can)
order_replay c xs ys (joined {ys = zs} h k) = order_replay c xs zs h ∙ order_replay c zs ys k

-- in which each node has the same local history with the same words
pub order_read : (n : ℕ) (c : List NodeRecord) (xs ys : List Event) → AreReorderings c xs ys → local_history_with_outside_words n c xs ≡ local_history_with_outside_words n c ys
order_read n c xs ys same = refl
order_read n c xs ys (swapped {e} {f} {xs = zs} cane canf free) = read_swapped c e f zs n free (independent_on_chip c e f cane canf free)
order_read n c xs ys (later {e} {xs = us} {ys = vs} can h) = ap (λ (z : List (Event × Option ℕ)). cond (touches e n) ((e, outside_word_of_event c e) ∷ z) z) (order_read n (event_result c e).0 us vs h)
order_read n c xs ys (joined {ys = zs} h k) = order_read n c xs zs h ∙ order_read n c zs ys k

-- ---- races

pub no_race-order : (c : List NodeRecord) (xs ys : List Event) → AreReorderings c xs ys → HasNoRace c xs → HasNoRace c ys
no_race-order c xs ys a calm step other r = calm step other (record {
  before = r.before;
  later = r.later;
  now = r.now;
  order = joined a r.order;
  led = r.led;
  can = r.can;
  differ = r.differ;
  bound = r.bound;
})

pub no_race-tail : (c : List NodeRecord) (e : Event) (es : List Event) → IsEnabled c e → HasNoRace c (e ∷ es) → HasNoRace (event_result c e).0 es
no_race-tail c e es can calm step other r = calm step other (record {
  before = e ∷ r.before;
  later = r.later;
  now = r.now;
  order = later can r.order;
  led = replay_more c e r.before can ∙ r.led;
  can = r.can;
  differ = r.differ;
  bound = r.bound;
})

-- ---- an enabled event comes first in another order, or none of the list touches its nodes and it is enabled at the end

pub record IsFirst (c : List NodeRecord) (es : List Event) (e : Event) : Type 0 where
  pub others : List Event
  pub order : AreReorderings c es (e ∷ others)

pub record IsSpared (c : List NodeRecord) (es : List Event) (e : Event) (last : List NodeRecord) : Type 0 where
  pub can : IsEnabled last e
  pub none : (n : ℕ) → touches e n ≡ true → local_history_with_outside_words n c es ≡ []

untouched : (c : List NodeRecord) (f : Event) (es : List Event) (n : ℕ) → touches f n ≡ false → local_history_with_outside_words n (event_result c f).0 es ≡ [] → local_history_with_outside_words n c (f ∷ es) ≡ []
untouched c f es n t h = ap (λ (b : Bool). cond b ((f, outside_word_of_event c f) ∷ local_history_with_outside_words n (event_result c f).0 es) (local_history_with_outside_words n (event_result c f).0 es)) t ∙ h

pub brought : (es : List Event) (c last : List NodeRecord) (e : Event) → replay c es ≡ Some last → HasNoRace c es → IsEnabled c e → IsFirst c es e ⊎ IsSpared c es e last
brought [] c last e is calm can = inr (record { can = subst (λ z. IsEnabled z e) (same_Some c last is) can; none = λ n t. refl })
brought (f ∷ es) c last e is calm can =
    let p = first_of c f es last is in
    elim (cases_eq (actor f) (actor e)) [
      | inl q ↦ inl (record { others = es; order = subst (λ (z : Event). AreReorderings c (f ∷ es) (z ∷ es)) (one_event c f e p.can can q) same })
      | inr ne ↦ elim (free_or_bound c f e) [
        | inr bound ↦ absurd (calm f e (record {
          before = [];
          later = es;
          now = c;
          order = same;
          led = refl;
          can = can;
          differ = λ q. ne (ap actor q);
          bound = bound;
        }))
        | inl free ↦ apart free p.can (brought es (event_result c f).0 last e p.then (no_race-tail c f es p.can calm) (still_enabled c e f (backwards free) p.can can))
      ]
    ]
  where
    backwards : AreIndependentOnChip c f e → (n : ℕ) → touches e n ≡ true → touches f n ≡ false
    backwards free n t = false_from_ne_true (touches f n) (λ u. both_ways (touches e n) (free.apart n u) t)

    apart : AreIndependentOnChip c f e → IsEnabled c f → IsFirst (event_result c f).0 es e ⊎ IsSpared (event_result c f).0 es e last → IsFirst c (f ∷ es) e ⊎ IsSpared c (f ∷ es) e last
    apart free canf (inl b) = inl (record { others = f ∷ b.others; order = joined (later canf b.order) (swapped canf can free) })
    apart free canf (inr s) = inr (record { can = s.can; none = λ n t. untouched c f es n (backwards free n t) (s.none n t) })

-- ---- the other lists that can be made

abbrev pub Completed : List NodeRecord → List Event → List Event → Type 0
Completed c es fs = (others : List Event) × AreReorderings c es (fs ++ others)

completed-cons : (c : List NodeRecord) (es : List Event) (e : Event) (rest fs : List Event) → IsEnabled c e → AreReorderings c es (e ∷ rest) → Completed (event_result c e).0 rest fs → Completed c es (e ∷ fs)
completed-cons c es e rest fs can a b = (b.0, joined a (later can b.1))

-- that calm node makes more steps than in the list
abbrev pub Within : List NodeRecord → List Event → List Event → Type 0
Within c es fs = (n : ℕ) → length (local_history_with_outside_words n c fs) ≤ length (local_history_with_outside_words n c es)

within-tail : (c : List NodeRecord) (es : List Event) (e : Event) (rest fs : List Event) → AreReorderings c es (e ∷ rest) → Within c es (e ∷ fs) → Within (event_result c e).0 rest fs
within-tail c es e rest fs a w n =
    go (touches e n) (subst (λ (z : List (Event × Option ℕ)). length (local_history_with_outside_words n c (e ∷ fs)) ≤ length z) (order_read n c es (e ∷ rest) a) (w n))
  where
    d : List NodeRecord
    d = (event_result c e).0

    go : (b : Bool) → length (cond b ((e, outside_word_of_event c e) ∷ local_history_with_outside_words n (event_result c e).0 fs) (local_history_with_outside_words n (event_result c e).0 fs)) ≤ length (cond b ((e, outside_word_of_event c e) ∷ local_history_with_outside_words n (event_result c e).0 rest) (local_history_with_outside_words n (event_result c e).0 rest)) → length (local_history_with_outside_words n (event_result c e).0 fs) ≤ length (local_history_with_outside_words n (event_result c e).0 rest)
    go true h = omega (arith, h)
    go false h = h

not_within : (c : List NodeRecord) (es : List Event) (e : Event) (fs : List Event) (n : ℕ) → touches e n ≡ true → local_history_with_outside_words n c es ≡ [] → Within c es (e ∷ fs) → ⊥
not_within c es e fs n t none w = go (touches e n) t (subst (λ (z : List (Event × Option ℕ)). length (local_history_with_outside_words n c (e ∷ fs)) ≤ length z) none (w n))
  where
    go : (b : Bool) → b ≡ true → length (cond b ((e, outside_word_of_event c e) ∷ local_history_with_outside_words n (event_result c e).0 fs) (local_history_with_outside_words n (event_result c e).0 fs)) ≤ 0 → ⊥
    go true k h = omega (arith, h)
    go false k h = both_ways false refl k

pub completed_within : (fs es : List Event) (c last now : List NodeRecord) → replay c fs ≡ Some now → replay c es ≡ Some last → HasNoRace c es → Within c es fs → Completed c es fs
completed_within [] es c last now k h calm w = (es, same)
completed_within (e ∷ fs) es c last now k h calm w =
    let p = first_of c e fs now k in
    elim (brought es c last e h calm p.can) [
      | inr s ↦ (let t = touched_of e in absurd (not_within c es e fs t.node t.is (s.none t.node t.is) w))
      | inl b ↦ (let there = some_of (replay c (e ∷ b.others)) (is_some_of (replay c (e ∷ b.others)) last (sym (order_replay c es (e ∷ b.others) b.order) ∙ h)) in
          let q = first_of c e b.others there.0 there.1 in
          completed-cons c es e b.others fs p.can b.order
          (completed_within fs b.others (event_result c e).0 there.0 now p.then q.then (no_race-tail c e b.others p.can (no_race-order c es (e ∷ b.others) b.order calm)) (within-tail c es e b.others fs b.order w)))
    ]

pub completed_quiet : (fs es : List Event) (c last now : List NodeRecord) → replay c fs ≡ Some now → replay c es ≡ Some last → HasNoRace c es → IsTerminalChip last → Completed c es fs
completed_quiet [] es c last now k h calm end = (es, same)
completed_quiet (e ∷ fs) es c last now k h calm end =
    let p = first_of c e fs now k in
    elim (brought es c last e h calm p.can) [
      | inr s ↦ absurd (end e s.can)
      | inl b ↦ (let there = some_of (replay c (e ∷ b.others)) (is_some_of (replay c (e ∷ b.others)) last (sym (order_replay c es (e ∷ b.others) b.order) ∙ h)) in
          let q = first_of c e b.others there.0 there.1 in
          let at : there.0 ≡ last = same_Some there.0 last (sym there.1 ∙ sym (order_replay c es (e ∷ b.others) b.order) ∙ h) in
          completed-cons c es e b.others fs p.can b.order
          (completed_quiet fs b.others (event_result c e).0 last now p.then (q.then ∙ ap (λ (z : List NodeRecord). Some z) at) (no_race-tail c e b.others p.can (no_race-order c es (e ∷ b.others) b.order calm)) end))
    ]

-- ---- ends

-- an event that can be made after a list is enabled on its chip
pub enabled_after : (fs : List Event) (c now : List NodeRecord) (e : Event) (others : List Event) → replay c fs ≡ Some now → IsSome (replay c (fs ++ e ∷ others)) → IsEnabled now e
enabled_after [] c now e others k some =
    let there = some_of (replay c (e ∷ others)) some in
    subst (λ z. IsEnabled z e) (same_Some c now k) (first_of c e others there.0 there.1).can
enabled_after (f ∷ fs) c now e others k some =
    let p = first_of c f fs now k in
    enabled_after fs (event_result c f).0 now e others p.then (subst (λ (o : Option (List NodeRecord)). IsSome o) (replay_more c f (fs ++ e ∷ others) p.can) some)

pub race_free_end_is_unique : (c last now : List NodeRecord) (es fs : List Event) → replay c es ≡ Some last → HasNoRace c es → IsTerminalChip last → replay c fs ≡ Some now → IsTerminalChip now → AreReorderings c es fs
race_free_end_is_unique c last now es fs h calm end k stop = go (completed_quiet fs es c last now k h calm end)
  where
    go : Completed c es fs → AreReorderings c es fs
    go ([], a) = subst (λ (z : List Event). AreReorderings c es z) (append-nil fs) a
    go (e ∷ others, a) = absurd (stop e (enabled_after fs c now e others k (is_some_of (replay c (fs ++ e ∷ others)) last (sym (order_replay c es (fs ++ e ∷ others) a) ∙ h))))

-- ---- steps

-- a local history has the steps of its node
pub steps_read : (n : ℕ) (c : List NodeRecord) (es : List Event) → length (local_history_with_outside_words n c es) ≡ count_steps n es
steps_read n c [] = refl
steps_read n c (e ∷ es) = go (touches e n) (steps_read n (event_result c e).0 es) ∙ sym (sum_by-cons (λ (x : Event). cond (touches x n) 1 0) e es)
  where
    go : (b : Bool) → length (local_history_with_outside_words n (event_result c e).0 es) ≡ count_steps n es → length (cond b ((e, outside_word_of_event c e) ∷ local_history_with_outside_words n (event_result c e).0 es) (local_history_with_outside_words n (event_result c e).0 es)) ≡ cond b 1 0 + count_steps n es
    go true h = omega (arith, h)
    go false h = omega (arith, h)

-- the local history of a prefix is a prefix of the local history
pub read_first : (n : ℕ) (c : List NodeRecord) (fs others : List Event) → (d : List NodeRecord) × (local_history_with_outside_words n c (fs ++ others) ≡ local_history_with_outside_words n c fs ++ local_history_with_outside_words n d others)
read_first n c [] others = (c, refl)
read_first n c (e ∷ fs) others =
    let k = read_first n (event_result c e).0 fs others in
    (k.0, go (touches e n) k.0 k.1)
  where
    go : (b : Bool) (d : List NodeRecord) → local_history_with_outside_words n (event_result c e).0 (fs ++ others) ≡ local_history_with_outside_words n (event_result c e).0 fs ++ local_history_with_outside_words n d others
        → cond b ((e, outside_word_of_event c e) ∷ local_history_with_outside_words n (event_result c e).0 (fs ++ others)) (local_history_with_outside_words n (event_result c e).0 (fs ++ others)) ≡ cond b ((e, outside_word_of_event c e) ∷ local_history_with_outside_words n (event_result c e).0 fs) (local_history_with_outside_words n (event_result c e).0 fs) ++ local_history_with_outside_words n d others
    go true d h = ap (λ (z : List (Event × Option ℕ)). (e, outside_word_of_event c e) ∷ z) h
    go false d h = h

pub no_more : (c : List NodeRecord) (es fs : List Event) (n : ℕ) → Completed c es fs → count_steps n fs ≤ count_steps n es
no_more c es fs n (others, a) =
    let k = read_first n c fs others in
    let p : length (local_history_with_outside_words n c es) ≡ length (local_history_with_outside_words n c fs ++ local_history_with_outside_words n k.0 others) = ap (λ z. length z) (order_read n c es (fs ++ others) a ∙ k.1) in
    let q : length (local_history_with_outside_words n c fs ++ local_history_with_outside_words n k.0 others) ≡ length (local_history_with_outside_words n c fs) + length (local_history_with_outside_words n k.0 others) = length-append (local_history_with_outside_words n c fs) (local_history_with_outside_words n k.0 others) in
    omega (arith, p, q, steps_read n c es, steps_read n c fs)

pub within_steps : (c : List NodeRecord) (es fs : List Event) → ((n : ℕ) → count_steps n fs ≤ count_steps n es) → Within c es fs
within_steps c es fs w n = omega (arith, w n, steps_read n c es, steps_read n c fs)

-- ---- as the laws state it

pub beginning_within : (c : List NodeRecord) (es fs : List Event) → IsSome (replay c es) → HasNoRace c es → IsSome (replay c fs) → ((n : ℕ) → count_steps n fs ≤ count_steps n es) → Completed c es fs
beginning_within c es fs h calm k w =
    let a = some_of (replay c es) h in
    let b = some_of (replay c fs) k in
    completed_within fs es c a.0 b.0 b.1 a.1 calm (within_steps c es fs w)

pub beginning_quiet : (c last : List NodeRecord) (es fs : List Event) → replay c es ≡ Some last → HasNoRace c es → IsTerminalChip last → IsSome (replay c fs) → Completed c es fs
beginning_quiet c last es fs h calm end k = let b = some_of (replay c fs) k in completed_quiet fs es c last b.0 b.1 h calm end

pub steps_quiet : (c last : List NodeRecord) (es fs : List Event) (n : ℕ) → replay c es ≡ Some last → HasNoRace c es → IsTerminalChip last → IsSome (replay c fs) → count_steps n fs ≤ count_steps n es
steps_quiet c last es fs n h calm end k = no_more c es fs n (beginning_quiet c last es fs h calm end k)

pub end_quiet : (c last now : List NodeRecord) (es fs : List Event) → replay c es ≡ Some last → HasNoRace c es → IsTerminalChip last → replay c fs ≡ Some now → IsTerminalChip now → AreReorderings c es fs × (now ≡ last)
end_quiet c last now es fs h calm end k stop =
    let a = race_free_end_is_unique c last now es fs h calm end k stop in
    (a, same_Some now last (sym k ∙ sym (order_replay c es fs a) ∙ h))

pub diamond_order : (c : List NodeRecord) (e f : Event) → IsEnabled c e → IsEnabled c f → AreIndependentOnChip c e f → IsSome (replay c (e ∷ f ∷ [])) × (replay c (e ∷ f ∷ []) ≡ replay c (f ∷ e ∷ []))
diamond_order c e f cane canf free = (is_some_of (replay c (e ∷ f ∷ [])) (event_result (event_result c e).0 f).0 (replay_two c e f cane canf free), free_replay c e f [] cane canf free)
