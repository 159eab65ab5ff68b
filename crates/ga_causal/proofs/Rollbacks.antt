-- Rollbacks in any order.
use Rattle.std.proofs.Common.{◌≡◌, ℕ, zero, suc, ◌+◌, ◌≤◌, ◌⊎◌, Bool, true, false, ◌||◌, ◌&&◌, ◌==◌, cond, List, [], ◌∷◌, Option, Some, None, refl, sym, ◌∙◌, ap, subst, inl, inr, ⊎_elim, arith, eqb-true}
use Rattle.std.specs.Prelude.{option_map}
use Rattle.std.specs.List.{list_any}
use mathlib.Core.Path.{fun_ext}
use Rattle.std.specs.List.Sorted.{IsPermutation}
use Rattle.std.proofs.lemmas.List.Sorted.{list_any-IsPermutation}
use Rattle.std.proofs.lemmas.Bool.{or_cases, or_parts, or_left, or_right, or_from, and_from, cases_Bool, both_ways, cond-true, cond-false, false_from_ne_true, eq-eqb, ne_eqb}
use Rattle.ga_event.specs.declared.event.EventWithLook.{EventWithLook}
use Rattle.ga_causal.specs.Dependence.{touched_nodes, event_with_look_touches_node, position_of_step, remaining_events_or_all, events_after_rewind, events_after_rewinds}
use Rattle.ga_event.specs.Touches.{nodes_observed_by_event, observes_marked_node}
use Rattle.ga_causal.specs.Steps.{step_counts_after_event}
use Rattle.ga_event.proofs.Locality.{observes_marked_node-touched}
use Rattle.ga_causal.proofs.Exact.{any-mono, any-or, observes_marked_node-mono, observes_marked_node-or}
use Rattle.ga_causal.proofs.Runs.{kept}

-- one of the event's steps is among those to be removed, after c n steps of each node n
abbrev pub is_cut : (ℕ → ℕ) → (ℕ → ℕ → Bool) → EventWithLook → Bool
is_cut c cut e = list_any (λ n. cut n (c n + 1)) (touched_nodes e)

-- the events that remain when all these steps are removed at once, with what depends on them
abbrev pub walk : (ℕ → Bool) → (ℕ → ℕ) → (ℕ → ℕ → Bool) → List EventWithLook → List EventWithLook
walk marks c cut [] = []
walk marks c cut (e ∷ es) = cond (observes_marked_node marks e || is_cut c cut e) (walk (λ n. marks n || event_with_look_touches_node e n) c cut es) (e ∷ walk marks (step_counts_after_event c e) cut es)

pub walk-dropped : (marks : ℕ → Bool) (c : ℕ → ℕ) (cut : ℕ → ℕ → Bool) (e : EventWithLook) (es : List EventWithLook) → (observes_marked_node marks e || is_cut c cut e) ≡ true → walk marks c cut (e ∷ es) ≡ walk (λ n. marks n || event_with_look_touches_node e n) c cut es
walk-dropped marks c cut e es t = cond-true (observes_marked_node marks e || is_cut c cut e) _ _ t

pub walk-kept : (marks : ℕ → Bool) (c : ℕ → ℕ) (cut : ℕ → ℕ → Bool) (e : EventWithLook) (es : List EventWithLook) → (observes_marked_node marks e || is_cut c cut e) ≡ false → walk marks c cut (e ∷ es) ≡ e ∷ walk marks (step_counts_after_event c e) cut es
walk-kept marks c cut e es f = cond-false (observes_marked_node marks e || is_cut c cut e) _ _ f

-- marks and counts of two walks, one over what the other leaves, and those of the one walk that does both
record Joins (m k j : ℕ → Bool) (c d b : ℕ → ℕ) : Type 0 where
  both : (n : ℕ) → j n ≡ (m n || k n)
  first : (n : ℕ) → j n ≡ false → c n ≡ b n
  second : (n : ℕ) → j n ≡ false → d n ≡ b n

pub or-independent_events_swap : (x y z : Bool) → ((x || y) || z) ≡ ((x || z) || y)
or-independent_events_swap true y z = refl
or-independent_events_swap false true true = refl
or-independent_events_swap false true false = refl
or-independent_events_swap false false z = grind arith

or-join : (x y z : Bool) → ((x || y) || z) ≡ (x || (y || z))
or-join true y z = refl
or-join false y z = refl

pub step_counts_after_event-other : (c : ℕ → ℕ) (e : EventWithLook) (n : ℕ) → event_with_look_touches_node e n ≡ false → step_counts_after_event c e n ≡ c n
step_counts_after_event-other c e n f = cond-false (event_with_look_touches_node e n) (c n + 1) (c n) f

-- a drop is a drop of the one walk too
drop_one : (m j : ℕ → Bool) (c b : ℕ → ℕ) (x y : ℕ → ℕ → Bool) (e : EventWithLook) → ((n : ℕ) → m n ≡ true → j n ≡ true) → ((n : ℕ) → j n ≡ false → c n ≡ b n) → ((n i : ℕ) → x n i ≡ true → y n i ≡ true) → (observes_marked_node m e || is_cut c x e) ≡ true → (observes_marked_node j e || is_cut b y e) ≡ true
drop_one m j c b x y e h g k t = ⊎_elim
    (λ u. or_left (observes_marked_node j e) (is_cut b y e) (observes_marked_node-mono m j e h u))
    (λ u. ⊎_elim (λ v. or_left (observes_marked_node j e) (is_cut b y e) (observes_marked_node-touched j e v)) (λ v. or_right (observes_marked_node j e) (is_cut b y e) v)
    (any-or j (λ n. y n (b n + 1)) (touched_nodes e)
    (any-mono (λ n. x n (c n + 1)) (λ n. j n || y n (b n + 1))
    (λ n q. ⊎_elim (λ v. or_left (j n) (y n (b n + 1)) v)
    (λ v. or_right (j n) (y n (b n + 1)) (k n (b n + 1) (subst (λ z. x n (z + 1) ≡ true) (g n v) q)))
    (cases_Bool (j n)))
    (touched_nodes e) u)))
    (or_cases (observes_marked_node m e) (is_cut c x e) t)

-- a drop of the one walk is a drop of one of the two
drop_two : (m k j : ℕ → Bool) (c d b : ℕ → ℕ) (x y : ℕ → ℕ → Bool) (e : EventWithLook) → Joins m k j c d b → (observes_marked_node j e || is_cut b (λ n i. x n i || y n i) e) ≡ true → ((observes_marked_node m e || is_cut c x e) ≡ true) ⊎ ((observes_marked_node k e || is_cut d y e) ≡ true)
drop_two m k j c d b x y e w t = ⊎_elim by_mark by_cut (or_cases (observes_marked_node j e) (is_cut b (λ n i. x n i || y n i) e) t)
  where
    marks : (observes_marked_node m e ≡ true) ⊎ (observes_marked_node k e ≡ true) → ((observes_marked_node m e || is_cut c x e) ≡ true) ⊎ ((observes_marked_node k e || is_cut d y e) ≡ true)
    marks = ⊎_elim (λ u. inl (or_left (observes_marked_node m e) (is_cut c x e) u)) (λ u. inr (or_left (observes_marked_node k e) (is_cut d y e) u))

    by_mark : observes_marked_node j e ≡ true → ((observes_marked_node m e || is_cut c x e) ≡ true) ⊎ ((observes_marked_node k e || is_cut d y e) ≡ true)
    by_mark u = marks (observes_marked_node-or m k e (observes_marked_node-mono j (λ n. m n || k n) e (λ n v. sym (w.both n) ∙ v) u))

    cuts : (is_cut c x e ≡ true) ⊎ (is_cut d y e ≡ true) → ((observes_marked_node m e || is_cut c x e) ≡ true) ⊎ ((observes_marked_node k e || is_cut d y e) ≡ true)
    cuts = ⊎_elim (λ u. inl (or_right (observes_marked_node m e) (is_cut c x e) u)) (λ u. inr (or_right (observes_marked_node k e) (is_cut d y e) u))

    one : (n : ℕ) → (x n (b n + 1) || y n (b n + 1)) ≡ true → (j n || (x n (c n + 1) || y n (d n + 1))) ≡ true
    one n q = ⊎_elim (λ v. or_left (j n) _ v)
        (λ v. or_right (j n) (x n (c n + 1) || y n (d n + 1)) (subst (λ z. (x n (z + 1) || y n (d n + 1)) ≡ true) (sym (w.first n v)) (subst (λ z. (x n (b n + 1) || y n (z + 1)) ≡ true) (sym (w.second n v)) q)))
        (cases_Bool (j n))

    by_cut : is_cut b (λ n i. x n i || y n i) e ≡ true → ((observes_marked_node m e || is_cut c x e) ≡ true) ⊎ ((observes_marked_node k e || is_cut d y e) ≡ true)
    by_cut u = ⊎_elim (λ v. by_mark (observes_marked_node-touched j e v))
        (λ v. cuts (any-or (λ n. x n (c n + 1)) (λ n. y n (d n + 1)) (touched_nodes e) v))
        (any-or j (λ n. x n (c n + 1) || y n (d n + 1)) (touched_nodes e) (any-mono (λ n. x n (b n + 1) || y n (b n + 1)) (λ n. j n || (x n (c n + 1) || y n (d n + 1))) one (touched_nodes e) u))

Joins-second : (m k j : ℕ → Bool) (c d b : ℕ → ℕ) (e : EventWithLook) → Joins m k j c d b → Joins m (λ n. k n || event_with_look_touches_node e n) (λ n. j n || event_with_look_touches_node e n) c d b
Joins-second m k j c d b e w = record {
  both = λ n. ap (λ z. z || event_with_look_touches_node e n) (w.both n) ∙ or-join (m n) (k n) (event_with_look_touches_node e n);
  first = λ n f. w.first n ((or_parts (j n) (event_with_look_touches_node e n) f).0);
  second = λ n f. w.second n ((or_parts (j n) (event_with_look_touches_node e n) f).0);
}

Joins-first : (m k j : ℕ → Bool) (c d b : ℕ → ℕ) (e : EventWithLook) → Joins m k j c d b → Joins (λ n. m n || event_with_look_touches_node e n) k (λ n. j n || event_with_look_touches_node e n) c (step_counts_after_event d e) b
Joins-first m k j c d b e w = record {
  both = λ n. ap (λ z. z || event_with_look_touches_node e n) (w.both n) ∙ or-independent_events_swap (m n) (k n) (event_with_look_touches_node e n);
  first = λ n f. w.first n ((or_parts (j n) (event_with_look_touches_node e n) f).0);
  second = λ n f. step_counts_after_event-other d e n ((or_parts (j n) (event_with_look_touches_node e n) f).1) ∙ w.second n ((or_parts (j n) (event_with_look_touches_node e n) f).0);
}

Joins-kept : (m k j : ℕ → Bool) (c d b : ℕ → ℕ) (e : EventWithLook) → Joins m k j c d b → Joins m k j (step_counts_after_event c e) (step_counts_after_event d e) (step_counts_after_event b e)
Joins-kept m k j c d b e w = record {
  both = w.both;
  first = λ n f. ap (λ (z : ℕ). cond (event_with_look_touches_node e n) (z + 1) z) (w.first n f);
  second = λ n f. ap (λ (z : ℕ). cond (event_with_look_touches_node e n) (z + 1) z) (w.second n f);
}

-- a walk over what another leaves is one walk
walk_twice : (m k j : ℕ → Bool) (c d b : ℕ → ℕ) (x y : ℕ → ℕ → Bool) (es : List EventWithLook) → Joins m k j c d b → walk m c x (walk k d y es) ≡ walk j b (λ n i. x n i || y n i) es
walk_twice m k j c d b x y [] w = refl
walk_twice m k j c d b x y (e ∷ es) w = ⊎_elim
    (λ t. ap (λ (z : List EventWithLook). walk m c x z) (walk-dropped k d y e es t)
    ∙ walk_twice m (λ n. k n || event_with_look_touches_node e n) (λ n. j n || event_with_look_touches_node e n) c d b x y es (Joins-second m k j c d b e w)
    ∙ sym (walk-dropped j b (λ n i. x n i || y n i) e es (drop_one k j d b y (λ n i. x n i || y n i) e (λ n v. w.both n ∙ or_right (m n) (k n) v) w.second (λ n i v. or_right (x n i) (y n i) v) t)))
    (λ f. ⊎_elim
    (λ t. ap (λ (z : List EventWithLook). walk m c x z) (walk-kept k d y e es f)
    ∙ walk-dropped m c x e (walk k (step_counts_after_event d e) y es) t
    ∙ walk_twice (λ n. m n || event_with_look_touches_node e n) k (λ n. j n || event_with_look_touches_node e n) c (step_counts_after_event d e) b x y es (Joins-first m k j c d b e w)
    ∙ sym (walk-dropped j b (λ n i. x n i || y n i) e es (drop_one m j c b x (λ n i. x n i || y n i) e (λ n v. w.both n ∙ or_left (m n) (k n) v) w.first (λ n i v. or_left (x n i) (y n i) v) t)))
    (λ g. ap (λ (z : List EventWithLook). walk m c x z) (walk-kept k d y e es f)
    ∙ walk-kept m c x e (walk k (step_counts_after_event d e) y es) g
    ∙ ap (λ z. e ∷ z) (walk_twice m k j (step_counts_after_event c e) (step_counts_after_event d e) (step_counts_after_event b e) x y es (Joins-kept m k j c d b e w))
    ∙ sym (walk-kept j b (λ n i. x n i || y n i) e es (false_from_ne_true (observes_marked_node j e || is_cut b (λ n i. x n i || y n i) e) (λ t. ⊎_elim (λ v. both_ways _ g v) (λ v. both_ways _ f v) (drop_two m k j c d b x y e w t)))))
    (cases_Bool (observes_marked_node m e || is_cut c x e)))
    (cases_Bool (observes_marked_node k e || is_cut d y e))

-- a step of one node
abbrev pub single : ℕ → ℕ → ℕ → ℕ → Bool
single n k m i = (m == n) && (i == k)

abbrev pub nowhere : ℕ → Bool
nowhere n = false

nowhere-has_common_node : (ns : List ℕ) → list_any nowhere ns ≡ false
nowhere-has_common_node [] = refl
nowhere-has_common_node (n ∷ ns) = nowhere-has_common_node ns

absorbs : (x y : Bool) → (x || (y && x)) ≡ x
absorbs true y = refl
absorbs false true = refl
absorbs false false = refl

one_more : (b y x a l : Bool) → (b ≡ true → y ≡ x) → l ≡ (a && x) → ((b && y) || l) ≡ ((b || a) && x)
one_more true y x a l h q = ap (λ z. z || l) (h refl) ∙ ap (λ z. x || z) q ∙ absorbs x a
one_more false y x a l h q = q

-- the step is one of these nodes' only where it is the next of its node
single_cut : (c : ℕ → ℕ) (n k : ℕ) (ns : List ℕ) → list_any (λ m. single n k m (c m + 1)) ns ≡ (list_any (λ m. m == n) ns && ((c n + 1) == k))
single_cut c n k [] = refl
single_cut c n k (m ∷ ns) =
    one_more (m == n) ((c m + 1) == k) ((c n + 1) == k) (list_any (λ m. m == n) ns) (list_any (λ m. single n k m (c m + 1)) ns)
    (λ t. ap (λ (z : ℕ). (c z + 1) == k) (eqb-true m n t)) (single_cut c n k ns)

-- the event is dropped only by that step
single_drop : (c : ℕ → ℕ) (n k : ℕ) (e : EventWithLook) → (observes_marked_node nowhere e || is_cut c (single n k) e) ≡ (event_with_look_touches_node e n && ((c n + 1) == k))
single_drop c n k e = ap (λ z. z || is_cut c (single n k) e) (nowhere-has_common_node (nodes_observed_by_event e)) ∙ single_cut c n k (touched_nodes e)

pub kept-dropped : (marks : ℕ → Bool) (e : EventWithLook) (es : List EventWithLook) → observes_marked_node marks e ≡ true → kept marks (e ∷ es) ≡ kept (λ n. marks n || event_with_look_touches_node e n) es
kept-dropped marks e es t = rw t refl

pub kept-kept : (marks : ℕ → Bool) (e : EventWithLook) (es : List EventWithLook) → observes_marked_node marks e ≡ false → kept marks (e ∷ es) ≡ e ∷ kept marks es
kept-kept marks e es f = rw f refl

-- once its node is marked, the step cuts no more
walk_marked : (marks : ℕ → Bool) (c : ℕ → ℕ) (n k : ℕ) (es : List EventWithLook) → marks n ≡ true → walk marks c (single n k) es ≡ kept marks es
walk_marked marks c n k [] h = refl
walk_marked marks c n k (e ∷ es) h = ⊎_elim
    (λ t. walk-dropped marks c (single n k) e es (or_left (observes_marked_node marks e) (is_cut c (single n k) e) t)
    ∙ walk_marked (λ m. marks m || event_with_look_touches_node e m) c n k es (or_left (marks n) (event_with_look_touches_node e n) h)
    ∙ sym (kept-dropped marks e es t))
    (λ f. walk-kept marks c (single n k) e es (or_from (observes_marked_node marks e) (is_cut c (single n k) e) f (not_cut f))
    ∙ ap (λ z. e ∷ z) (walk_marked marks (step_counts_after_event c e) n k es h)
    ∙ sym (kept-kept marks e es f))
    (cases_Bool (observes_marked_node marks e))
  where
    touch_meets : event_with_look_touches_node e n ≡ true → observes_marked_node marks e ≡ true
    touch_meets t = observes_marked_node-touched marks e (any-mono (λ m. m == n) marks (λ m q. subst (λ z. marks z ≡ true) (sym (eqb-true m n q)) h) (touched_nodes e) t)

    not_cut : observes_marked_node marks e ≡ false → is_cut c (single n k) e ≡ false
    not_cut f = single_cut c n k (touched_nodes e) ∙ ap (λ z. z && ((c n + 1) == k)) (false_from_ne_true (event_with_look_touches_node e n) (λ t. both_ways (observes_marked_node marks e) f (touch_meets t)))

never : (x y : Bool) → y ≡ false → (x && y) ≡ false
never true y h = h
never false y h = refl

-- an event that is not that step stays
walk-other : (c : ℕ → ℕ) (n k : ℕ) (e : EventWithLook) (es : List EventWithLook) → (event_with_look_touches_node e n && ((c n + 1) == k)) ≡ false → walk nowhere c (single n k) (e ∷ es) ≡ e ∷ walk nowhere (step_counts_after_event c e) (single n k) es
walk-other c n k e es h = walk-kept nowhere c (single n k) e es (single_drop c n k e ∙ h)

-- a step that was made before the list begins cuts nothing
walk_past : (c : ℕ → ℕ) (n k : ℕ) (es : List EventWithLook) → k ≤ c n → walk nowhere c (single n k) es ≡ es
walk_past c n k [] h = refl
walk_past c n k (e ∷ es) h =
    walk-other c n k e es (never (event_with_look_touches_node e n) ((c n + 1) == k) (ne_eqb (c n + 1) k (λ q. omega arith)))
    ∙ ap (λ z. e ∷ z) (walk_past (step_counts_after_event c e) n k es (⊎_elim (λ t. rw t (omega arith)) (λ f. rw f h) (cases_Bool (event_with_look_touches_node e n))))

rest_later : (e : EventWithLook) (es : List EventWithLook) (o : Option ℕ) → remaining_events_or_all (e ∷ es) (option_map suc o) ≡ e ∷ remaining_events_or_all es o
rest_later e es None = refl
rest_later e es (Some i) = refl

pub rewound-first : (e : EventWithLook) (es : List EventWithLook) (n : ℕ) → event_with_look_touches_node e n ≡ true → events_after_rewind (e ∷ es) n 1 ≡ kept (event_with_look_touches_node e) es
rewound-first e es n t = ap (λ (o : Option ℕ). remaining_events_or_all (e ∷ es) o) (cond-true (event_with_look_touches_node e n) (Some 0) (option_map suc (position_of_step es n 1)) t)

pub rewound-touched : (e : EventWithLook) (es : List EventWithLook) (n i : ℕ) → event_with_look_touches_node e n ≡ true → events_after_rewind (e ∷ es) n (suc (suc i)) ≡ e ∷ events_after_rewind es n (suc i)
rewound-touched e es n i t =
    ap (λ (o : Option ℕ). remaining_events_or_all (e ∷ es) o)
    (cond-true (event_with_look_touches_node e n) (cond (suc i == 0) (Some 0) (option_map suc (position_of_step es n (suc i)))) (option_map suc (position_of_step es n (suc (suc i)))) t
    ∙ cond-false (suc i == 0) (Some 0) (option_map suc (position_of_step es n (suc i))) (ne_eqb (suc i) 0 (λ q. omega arith)))
    ∙ rest_later e es (position_of_step es n (suc i))

pub rewound-other : (e : EventWithLook) (es : List EventWithLook) (n j : ℕ) → event_with_look_touches_node e n ≡ false → events_after_rewind (e ∷ es) n (suc j) ≡ e ∷ events_after_rewind es n (suc j)
rewound-other e es n j f = ap (λ (o : Option ℕ). remaining_events_or_all (e ∷ es) o) (cond-false (event_with_look_touches_node e n) _ (option_map suc (position_of_step es n (suc j))) f) ∙ rest_later e es (position_of_step es n (suc j))

step_counts_after_event-touched : (c : ℕ → ℕ) (e : EventWithLook) (n : ℕ) → event_with_look_touches_node e n ≡ true → step_counts_after_event c e n ≡ c n + 1
step_counts_after_event-touched c e n t = cond-true (event_with_look_touches_node e n) (c n + 1) (c n) t

-- a rollback is a walk that cuts one step
pub rewound_walk : (c : ℕ → ℕ) (n k : ℕ) (es : List EventWithLook) (j : ℕ) → k ≡ c n + j → walk nowhere c (single n k) es ≡ events_after_rewind es n j
rewound_walk c n k [] j q = refl
rewound_walk c n k (e ∷ es) zero q = walk_past c n k (e ∷ es) (omega arith)
rewound_walk c n k (e ∷ es) (suc zero) q = ⊎_elim
    (λ t. walk-dropped nowhere c (single n k) e es (single_drop c n k e ∙ and_from (event_with_look_touches_node e n) ((c n + 1) == k) t (eq-eqb (c n + 1) k (omega arith)))
    ∙ walk_marked (event_with_look_touches_node e) c n k es t
    ∙ sym (rewound-first e es n t))
    (λ f. walk-other c n k e es (ap (λ z. z && ((c n + 1) == k)) f)
    ∙ ap (λ z. e ∷ z) (rewound_walk (step_counts_after_event c e) n k es (suc zero) (q ∙ ap (λ (z : ℕ). z + 1) (sym (step_counts_after_event-other c e n f))))
    ∙ sym (rewound-other e es n zero f))
    (cases_Bool (event_with_look_touches_node e n))
rewound_walk c n k (e ∷ es) (suc (suc i)) q = ⊎_elim
    (λ t. let h : step_counts_after_event c e n ≡ c n + 1 = step_counts_after_event-touched c e n t in
    walk-other c n k e es (never (event_with_look_touches_node e n) ((c n + 1) == k) (ne_eqb (c n + 1) k (λ w. omega arith)))
    ∙ ap (λ z. e ∷ z) (rewound_walk (step_counts_after_event c e) n k es (suc i) (omega arith))
    ∙ sym (rewound-touched e es n i t))
    (λ f. let h : step_counts_after_event c e n ≡ c n = step_counts_after_event-other c e n f in
    walk-other c n k e es (ap (λ z. z && ((c n + 1) == k)) f)
    ∙ ap (λ z. e ∷ z) (rewound_walk (step_counts_after_event c e) n k es (suc (suc i)) (omega arith))
    ∙ sym (rewound-other e es n (suc i) f))
    (cases_Bool (event_with_look_touches_node e n))

walk_none : (c : ℕ → ℕ) (es : List EventWithLook) → walk nowhere c (λ n k. false) es ≡ es
walk_none c [] = refl
walk_none c (e ∷ es) =
    walk-kept nowhere c (λ n k. false) e es (or_from (observes_marked_node nowhere e) _ (nowhere-has_common_node (nodes_observed_by_event e)) (nowhere-has_common_node (touched_nodes e)))
    ∙ ap (λ z. e ∷ z) (walk_none (step_counts_after_event c e) es)

Joins-none : Joins nowhere nowhere nowhere (λ n. 0) (λ n. 0) (λ n. 0)
Joins-none = record { both = λ n. refl; first = λ n f. refl; second = λ n f. refl }

at_once : (x : ℕ → ℕ → Bool) (es : List EventWithLook) (n k : ℕ) → walk nowhere (λ n. 0) x (events_after_rewind es n k) ≡ walk nowhere (λ n. 0) (λ m i. x m i || single n k m i) es
at_once x es n k =
    ap (λ (z : List EventWithLook). walk nowhere (λ n. 0) x z) (sym (rewound_walk (λ n. 0) n k es k (omega arith)))
    ∙ walk_twice nowhere nowhere nowhere (λ n. 0) (λ n. 0) (λ n. 0) x (single n k) es Joins-none

-- one of the steps
among : List (ℕ × ℕ) → ℕ → ℕ → Bool
among steps m i = list_any (λ (step : ℕ × ℕ). single step.0 step.1 m i) steps

or-comm : (x y : Bool) → (x || y) ≡ (y || x)
or-comm true true = refl
or-comm true false = refl
or-comm false true = refl
or-comm false false = refl

same_cuts : (x y : ℕ → ℕ → Bool) (es : List EventWithLook) → ((m i : ℕ) → x m i ≡ y m i) → walk nowhere (λ n. 0) x es ≡ walk nowhere (λ n. 0) y es
same_cuts x y es h = ap (λ z. walk nowhere (λ n. 0) z es) (fun_ext (λ m. fun_ext (λ i. h m i)))

rewound_all_walk : (steps : List (ℕ × ℕ)) (es : List EventWithLook) → events_after_rewinds es steps ≡ walk nowhere (λ n. 0) (among steps) es
unfolding among
rewound_all_walk [] es = sym (walk_none (λ n. 0) es)
rewound_all_walk (step ∷ steps) es =
    rewound_all_walk steps (events_after_rewind es step.0 step.1)
    ∙ at_once (among steps) es step.0 step.1
    ∙ same_cuts (λ m i. among steps m i || single step.0 step.1 m i) (among (step ∷ steps)) es (λ m i. or-comm (among steps m i) (single step.0 step.1 m i))

-- the same steps, in any order
pub rewound_any_order : (events : List EventWithLook) (steps others : List (ℕ × ℕ)) → IsPermutation steps others → events_after_rewinds events steps ≡ events_after_rewinds events others
unfolding among
rewound_any_order es steps others h =
    rewound_all_walk steps es
    ∙ same_cuts (among steps) (among others) es (λ m i. list_any-IsPermutation (λ (step : ℕ × ℕ). single step.0 step.1 m i) steps others h)
    ∙ sym (rewound_all_walk others es)

pub rewound_twice : (events : List EventWithLook) (n k m j : ℕ) → events_after_rewind (events_after_rewind events n k) m j ≡ events_after_rewind (events_after_rewind events m j) n k
unfolding among
rewound_twice es n k m j =
    sym (rewound_walk (λ n. 0) m j (events_after_rewind es n k) j (omega arith))
    ∙ at_once (single m j) es n k
    ∙ same_cuts (λ a b. single m j a b || single n k a b) (λ a b. single n k a b || single m j a b) es (λ a b. or-comm (single m j a b) (single n k a b))
    ∙ sym (at_once (single n k) es m j)
    ∙ rewound_walk (λ n. 0) n k (events_after_rewind es m j) k (omega arith)
