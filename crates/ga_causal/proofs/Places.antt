-- The places of the steps.
use Rattle.std.proofs.Common.{◌≡◌, ℕ, true, false, zero, suc, ◌+◌, ◌<◌, ◌≤◌, List, [], ◌∷◌, ◌++◌, length, take, drop, refl, sym, ◌∙◌, ap, arith, get_or, subst, cond, Bool, ⊎_elim, ◌==◌}
use Rattle.std.proofs.Math.Seq.{drop-cons}
use Rattle.std.specs.Prelude.{nat_lt, count_by, is_some, IsSome, ◌↔◌, Option, Some, None, option_map}
use Rattle.std.proofs.lemmas.Bool.{cases_Bool, lt-ltb, le-ltb, ltb-true, cases_lt, both_ways, cases_order, eqb-true}
use Rattle.std.proofs.lemmas.Option.{same_Some}
use Rattle.std.proofs.lemmas.List.{drop_all}
use Rattle.std.proofs.lemmas.List.Sums.{sum_by-cons}
use Rattle.ga_event.specs.declared.event.Event.{Event}
use Rattle.ga_event.specs.declared.event.EventWithLook.{EventWithLook}
use Rattle.ga_event.specs.Touches.{touches as event_touches, observes_marked_node}
use Rattle.ga_causal.specs.Dependence.{event_with_look_touches_node, event_at, position_of_step, touched_nodes, DependsOn, itself, through}
use Rattle.ga_event.specs.Told.{events_of_causes}
use Rattle.ga_causal.specs.Steps.{count_touching_events, IsKthStep}
use Rattle.ga_causal.proofs.LocalHistories.{place-first, place-touched, place-other, some-shift, shifted_of}
use Rattle.ga_event.proofs.Locality.{observes_marked_node-touched}
use Rattle.ga_causal.proofs.Exact.{meets_rule, any-mono}

-- a place that comes i later
abbrev pub on_by : ℕ → Option ℕ → Option ℕ
on_by i o = option_map (λ q. i + q) o

pub on_by-zero : (o : Option ℕ) → on_by 0 o ≡ o
on_by-zero None = refl
on_by-zero (Some q) = ap Some (omega arith)

on_by-suc : (i : ℕ) (o : Option ℕ) → on_by i (option_map suc o) ≡ on_by (i + 1) o
on_by-suc i None = refl
on_by-suc i (Some q) = ap Some (let h : i + suc q ≡ i + 1 + q = omega arith in h)

-- the list from a place on begins with the event there
drop_at : (es : List EventWithLook) (i : ℕ) (e : EventWithLook) → i < length es → e ≡ get_or es i e → drop i es ≡ e ∷ drop (i + 1) es
drop_at es i e l is =
    drop-cons es i e l ∙ ap (λ z. z ∷ drop (suc i) es) (sym is) ∙ ap (λ (k : ℕ). e ∷ drop k es) (let h : suc i ≡ i + 1 = omega arith in h)

-- the search from a place on, by the event there
pub on_found : (es : List EventWithLook) (n i left : ℕ) (e : EventWithLook) → i < length es → e ≡ get_or es i e → event_with_look_touches_node e n ≡ true → left ≡ 0 → on_by i (position_of_step (drop i es) n (suc left)) ≡ Some i
on_found es n i left e l is t none =
    ap (λ (k : ℕ). on_by i (position_of_step (drop i es) n (suc k))) none
    ∙ ap (λ z. on_by i (position_of_step z n 1)) (drop_at es i e l is) ∙ ap (on_by i) (place-first e (drop (i + 1) es) n t)
    ∙ ap Some (let h : i + 0 ≡ i = omega arith in h)

pub on_touched : (es : List EventWithLook) (n i left : ℕ) (e : EventWithLook) → i < length es → e ≡ get_or es i e → event_with_look_touches_node e n ≡ true → on_by i (position_of_step (drop i es) n (suc (suc left))) ≡ on_by (i + 1) (position_of_step (drop (i + 1) es) n (suc left))
on_touched es n i left e l is t =
    ap (λ z. on_by i (position_of_step z n (suc (suc left)))) (drop_at es i e l is) ∙ ap (on_by i) (place-touched e (drop (i + 1) es) n left t)
    ∙ on_by-suc i (position_of_step (drop (i + 1) es) n (suc left))

pub on_other : (es : List EventWithLook) (n i left : ℕ) (e : EventWithLook) → i < length es → e ≡ get_or es i e → event_with_look_touches_node e n ≡ false → on_by i (position_of_step (drop i es) n (suc left)) ≡ on_by (i + 1) (position_of_step (drop (i + 1) es) n (suc left))
on_other es n i left e l is t =
    ap (λ z. on_by i (position_of_step z n (suc left))) (drop_at es i e l is) ∙ ap (on_by i) (place-other e (drop (i + 1) es) n left t)
    ∙ on_by-suc i (position_of_step (drop (i + 1) es) n (suc left))

-- no step has number 0
pub place-zero : (es : List EventWithLook) (n : ℕ) → position_of_step es n 0 ≡ None
place-zero [] n = refl
place-zero (e ∷ es) n = refl

-- past the list nothing is found
pub on_end : (es : List EventWithLook) (n i k : ℕ) → length es ≤ i → on_by i (position_of_step (drop i es) n k) ≡ None
on_end es n i k l = ap (λ z. on_by i (position_of_step z n k)) (drop_all i es l)

-- one event more
pub count_touching_events-cons : (n : ℕ) (e : EventWithLook) (es : List EventWithLook) → count_touching_events n (e ∷ es) ≡ cond (event_with_look_touches_node e n) 1 0 + count_touching_events n es
count_touching_events-cons n e es = sum_by-cons (λ (x : EventWithLook). cond (event_with_look_touches_node x n) 1 0) e es

-- whether an event looks is no matter
pub touching_in : (n : ℕ) (es : List EventWithLook) → count_touching_events n es ≡ count_by (λ e. event_touches e n) (events_of_causes es)
touching_in n [] = refl
touching_in n (e ∷ es) =
    count_touching_events-cons n e es ∙ ap (λ (z : ℕ). cond (event_with_look_touches_node e n) 1 0 + z) (touching_in n es)
    ∙ sym (sum_by-cons (λ (x : Event). cond (event_touches x n) 1 0) e.event (events_of_causes es))

pub touching_yes : (n : ℕ) (e : EventWithLook) (es : List EventWithLook) → event_with_look_touches_node e n ≡ true → count_touching_events n (e ∷ es) ≡ suc (count_touching_events n es)
touching_yes n e es t = sum _ _ (count_touching_events-cons n e es) (ap (λ (z : Bool). cond {A = ℕ} z 1 0) t)
  where
    sum : (a b : ℕ) → a ≡ b + count_touching_events n es → b ≡ 1 → a ≡ suc (count_touching_events n es)
    sum a b p q = omega arith

pub touching_no : (n : ℕ) (e : EventWithLook) (es : List EventWithLook) → event_with_look_touches_node e n ≡ false → count_touching_events n (e ∷ es) ≡ count_touching_events n es
touching_no n e es t = sum _ _ (count_touching_events-cons n e es) (ap (λ (z : Bool). cond {A = ℕ} z 1 0) t)
  where
    sum : (a b : ℕ) → a ≡ b + count_touching_events n es → b ≡ 0 → a ≡ count_touching_events n es
    sum a b p q = omega arith

-- a step exists up to the number of events that touch the node
pub place_stands : (es : List EventWithLook) (n k : ℕ) → is_some (position_of_step es n (suc k)) ≡ nat_lt k (count_touching_events n es)
place_stands [] n k = sym (le-ltb k 0 (omega arith))
place_stands (e ∷ es) n zero = ⊎_elim
    (λ t. ap is_some (place-first e es n t) ∙ sym (lt-ltb 0 (count_touching_events n (e ∷ es)) (let h = touching_yes n e es t in omega (arith, h))))
    (λ f. ap is_some (place-other e es n 0 f) ∙ some-shift (position_of_step es n 1) ∙ place_stands es n 0 ∙ ap (nat_lt 0) (sym (touching_no n e es f)))
    (cases_Bool (event_with_look_touches_node e n))
place_stands (e ∷ es) n (suc k) = ⊎_elim
    (λ t. ap is_some (place-touched e es n k t) ∙ some-shift (position_of_step es n (suc k)) ∙ place_stands es n k ∙ same_test k (count_touching_events n es) ∙ ap (nat_lt (suc k)) (sym (touching_yes n e es t)))
    (λ f. ap is_some (place-other e es n (suc k) f) ∙ some-shift (position_of_step es n (suc (suc k))) ∙ place_stands es n (suc k) ∙ ap (nat_lt (suc k)) (sym (touching_no n e es f)))
    (cases_Bool (event_with_look_touches_node e n))
  where
    same_test : (a b : ℕ) → nat_lt a b ≡ nat_lt (suc a) (suc b)
    same_test a b = ⊎_elim
        (λ l. lt-ltb a b l ∙ sym (lt-ltb (suc a) (suc b) (omega arith)))
        (λ l. le-ltb a b l ∙ sym (le-ltb (suc a) (suc b) (omega arith)))
        (cases_lt a b)

pub stands_exact : (es : List EventWithLook) (n k : ℕ) → IsSome (position_of_step es n k) ↔ ((0 < k) × (k ≤ count_touching_events n es))
stands_exact es n zero = (λ h. absurd (both_ways false refl (sym (ap is_some (place-zero es n)) ∙ h)), λ p. absurd (omega (arith, p.0)))
stands_exact es n (suc k) = (
  λ h. let l : k < count_touching_events n es = ltb-true k (count_touching_events n es) (sym (place_stands es n k) ∙ h) in (omega arith, omega (arith, l)),
  λ p. place_stands es n k ∙ lt-ltb k (count_touching_events n es) (omega (arith, p.1)),
)

-- and is one
step_later : (e : EventWithLook) (es : List EventWithLook) (n k place : ℕ) → event_with_look_touches_node e n ≡ true → IsKthStep es n k place → IsKthStep (e ∷ es) n (suc k) (suc place)
step_later e es n k place t s =
    let a = touching_yes n e (take place es) t in
    record { within = omega (arith, s.within); touched = s.touched; before = omega (arith, s.before, a) }

step_past : (e : EventWithLook) (es : List EventWithLook) (n k place : ℕ) → event_with_look_touches_node e n ≡ false → IsKthStep es n k place → IsKthStep (e ∷ es) n k (suc place)
step_past e es n k place f s =
    let a = touching_no n e (take place es) f in
    record { within = omega (arith, s.within); touched = s.touched; before = omega (arith, s.before, a) }

pub place_step : (es : List EventWithLook) (n k place : ℕ) → position_of_step es n k ≡ Some place → IsKthStep es n k place
place_step [] n k place h = absurd (cc)
place_step (e ∷ es) n zero place h = absurd (cc)
place_step (e ∷ es) n (suc zero) place h = ⊎_elim
    (λ t. subst (IsKthStep (e ∷ es) n 1) (same_Some 0 place (sym (place-first e es n t) ∙ h)) (record { within = omega arith; touched = t; before = refl }))
    (λ f. let s = shifted_of (position_of_step es n 1) place (sym (place-other e es n 0 f) ∙ h) in
    subst (IsKthStep (e ∷ es) n 1) (sym s.shift) (step_past e es n 1 s.place f (place_step es n 1 s.place s.is)))
    (cases_Bool (event_with_look_touches_node e n))
place_step (e ∷ es) n (suc (suc i)) place h = ⊎_elim
    (λ t. let s = shifted_of (position_of_step es n (suc i)) place (sym (place-touched e es n i t) ∙ h) in
    subst (IsKthStep (e ∷ es) n (suc (suc i))) (sym s.shift) (step_later e es n (suc i) s.place t (place_step es n (suc i) s.place s.is)))
    (λ f. let s = shifted_of (position_of_step es n (suc (suc i))) place (sym (place-other e es n (suc i) f) ∙ h) in
    subst (IsKthStep (e ∷ es) n (suc (suc i))) (sym s.shift) (step_past e es n (suc (suc i)) s.place f (place_step es n (suc (suc i)) s.place s.is)))
    (cases_Bool (event_with_look_touches_node e n))

-- the place of a step in a list of two parts
pub place_split : (n j : ℕ) (xs : List EventWithLook) (x : EventWithLook) (ys : List EventWithLook) → count_touching_events n xs ≡ j → event_with_look_touches_node x n ≡ true → position_of_step (xs ++ x ∷ ys) n (suc j) ≡ Some (length xs)
place_split n zero [] x ys q t = place-first x ys n t
place_split n (suc j) [] x ys q t = absurd (zero_suc j q)
  where
    zero_suc : (i : ℕ) → 0 ≡ suc i → ⊥
    zero_suc i h = omega arith
place_split n zero (e ∷ es) x ys q t = ⊎_elim
    (λ yes. absurd (let a = touching_yes n e es yes in omega arith))
    (λ no. place-other e (es ++ x ∷ ys) n 0 no ∙ ap (option_map suc) (place_split n zero es x ys (sym (touching_no n e es no) ∙ q) t))
    (cases_Bool (event_with_look_touches_node e n))
place_split n (suc j) (e ∷ es) x ys q t = ⊎_elim
    (λ yes. place-touched e (es ++ x ∷ ys) n j yes ∙ ap (option_map suc) (place_split n j es x ys (let a = touching_yes n e es yes in omega arith) t))
    (λ no. place-other e (es ++ x ∷ ys) n (suc j) no ∙ ap (option_map suc) (place_split n (suc j) es x ys (sym (touching_no n e es no) ∙ q) t))
    (cases_Bool (event_with_look_touches_node e n))

pub place_more : (n j : ℕ) (xs ys : List EventWithLook) → j < count_touching_events n xs → position_of_step (xs ++ ys) n (suc j) ≡ position_of_step xs n (suc j)
place_more n j [] ys l = absurd (omega (arith, l))
place_more n zero (e ∷ es) ys l = ⊎_elim
    (λ yes. place-first e (es ++ ys) n yes ∙ sym (place-first e es n yes))
    (λ no. place-other e (es ++ ys) n 0 no ∙ ap (option_map suc) (place_more n zero es ys (let a = touching_no n e es no in omega (arith, a, l))) ∙ sym (place-other e es n 0 no))
    (cases_Bool (event_with_look_touches_node e n))
place_more n (suc j) (e ∷ es) ys l = ⊎_elim
    (λ yes. place-touched e (es ++ ys) n j yes ∙ ap (option_map suc) (place_more n j es ys (let a = touching_yes n e es yes in omega (arith, a, l))) ∙ sym (place-touched e es n j yes))
    (λ no. place-other e (es ++ ys) n (suc j) no ∙ ap (option_map suc) (place_more n (suc j) es ys (let a = touching_no n e es no in omega (arith, a, l))) ∙ sym (place-other e es n (suc j) no))
    (cases_Bool (event_with_look_touches_node e n))

-- a step before a place counts there
pub touching_before : (es : List EventWithLook) (n q i : ℕ) → q < i → q < length es → event_with_look_touches_node (event_at es q) n ≡ true → count_touching_events n (take q es) + 1 ≤ count_touching_events n (take i es)
touching_before [] n q i l inside t = absurd (omega arith)
touching_before (x ∷ xs) n q zero l inside t = absurd (omega arith)
touching_before (x ∷ xs) n zero (suc i) l inside t = let a = touching_yes n x (take i xs) t in omega (arith, a)
touching_before (x ∷ xs) n (suc q) (suc i) l inside t =
    let later = touching_before xs n q i (omega arith) (omega arith) t in
    let a = count_touching_events-cons n x (take q xs) in
    let b = count_touching_events-cons n x (take i xs) in
    omega (arith, later, a, b)

-- ---- each step of a node is a cause of its later ones

-- two events of one node
both_touch : (d e : EventWithLook) (n : ℕ) → event_with_look_touches_node d n ≡ true → event_with_look_touches_node e n ≡ true → observes_marked_node (event_with_look_touches_node d) e ≡ true
both_touch d e n first second =
    observes_marked_node-touched (event_with_look_touches_node d) e (any-mono (λ m. m == n) (event_with_look_touches_node d) (λ m at. subst (λ z. event_with_look_touches_node d z ≡ true) (sym (eqb-true m n at)) first) (touched_nodes e) second)

pub older_step : (events : List EventWithLook) (n k j i q : ℕ) → position_of_step events n k ≡ Some i → position_of_step events n j ≡ Some q → k ≤ j → DependsOn events i q
older_step events n k j i q first second l = ⊎_elim
    (λ e. subst (DependsOn events i) e itself)
    (λ other. ⊎_elim
    (λ before. through itself (record { before = before; within = there.within; by_rule = meets_rule (event_at events i) (event_at events q) (both_touch (event_at events i) (event_at events q) n here.touched there.touched) }))
    (λ after. absurd (let less = touching_before events n q i after there.within there.touched in omega (arith, less, here.before, there.before)))
    other)
    (cases_order i q)
  where
    here : IsKthStep events n k i
    here = place_step events n k i first

    there : IsKthStep events n j q
    there = place_step events n j q second
