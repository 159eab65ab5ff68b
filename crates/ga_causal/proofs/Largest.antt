-- No larger rest keeps the numbers of the steps.
use Rattle.std.proofs.Common.{◌≡◌, ℕ, zero, suc, ◌+◌, ◌<◌, ◌≤◌, Bool, true, false, ◌||◌, cond, List, [], ◌∷◌, length, map, refl, sym, ap, subst, ⊎_elim, arith, IsTrue, inl, inr}
use Rattle.std.specs.Prelude.{slice_index_or}
use Rattle.std.specs.List.{list_any}
use Rattle.std.proofs.lemmas.Bool.{cases_lt, or_cases, cases_Bool, both_ways, false_from_ne_true}
use Rattle.ga_event.specs.declared.event.EventWithLook.{EventWithLook}
use Rattle.ga_causal.specs.Dependence.{touched_nodes, event_with_look_touches_node, marked_nodes_after_event, dependent_flags_from_marks, dependent_flags, unflagged_elements, DependsOn, HasNoLooks}
use Rattle.ga_event.specs.Touches.{nodes_observed_by_event, observes_marked_node}
use Rattle.ga_causal.specs.Steps.{step_counts_after_event, events_numbered_by_nodes, numbered_events, numbered_events_with_seen_steps}
use Rattle.ga_event.proofs.Locality.{touched-has_common_node}
use Rattle.ga_causal.proofs.Exact.{flag_from_DependsOn, past_alone}

-- of each marked node fewer steps were counted than it made, and of no node more
pub record Lacks (marks : ℕ → Bool) (s z : ℕ → ℕ) : Type 0 where
  pub most : (n : ℕ) → s n ≤ z n
  pub less : (n : ℕ) → marks n ≡ true → s n < z n

pub step_counts_after_event-least : (z : ℕ → ℕ) (e : EventWithLook) (n : ℕ) → z n ≤ step_counts_after_event z e n
step_counts_after_event-least z e n = ⊎_elim (λ t. rw t (omega arith)) (λ f. rw f (omega arith)) (cases_Bool (event_with_look_touches_node e n))

step_counts_after_event-more : (z : ℕ → ℕ) (e : EventWithLook) (n : ℕ) → event_with_look_touches_node e n ≡ true → z n < step_counts_after_event z e n
step_counts_after_event-more z e n t = rw t (omega arith)

step_counts_after_event-mono : (s z : ℕ → ℕ) (e : EventWithLook) (n : ℕ) → s n ≤ z n → step_counts_after_event s e n ≤ step_counts_after_event z e n
step_counts_after_event-mono s z e n h = ⊎_elim (λ t. rw t (omega arith)) (λ f. rw f h) (cases_Bool (event_with_look_touches_node e n))

step_counts_after_event-mono_lt : (s z : ℕ → ℕ) (e : EventWithLook) (n : ℕ) → s n < z n → step_counts_after_event s e n < step_counts_after_event z e n
step_counts_after_event-mono_lt s z e n h = ⊎_elim (λ t. rw t (omega arith)) (λ f. rw f h) (cases_Bool (event_with_look_touches_node e n))

Lacks-kept : (marks : ℕ → Bool) (s z : ℕ → ℕ) (e : EventWithLook) → Lacks marks s z → Lacks marks (step_counts_after_event s e) (step_counts_after_event z e)
Lacks-kept marks s z e l = record { most = λ n. step_counts_after_event-mono s z e n (l.most n); less = λ n m. step_counts_after_event-mono_lt s z e n (l.less n m) }

less_dropped : (marks : ℕ → Bool) (s z : ℕ → ℕ) (e : EventWithLook) → Lacks marks s z → (n : ℕ) → (marks n || event_with_look_touches_node e n) ≡ true → s n < step_counts_after_event z e n
less_dropped marks s z e l n m = ⊎_elim
    (λ t. let h : s n < z n = l.less n t in let k : z n ≤ step_counts_after_event z e n = step_counts_after_event-least z e n in omega arith)
    (λ t. let h : s n ≤ z n = l.most n in let k : z n < step_counts_after_event z e n = step_counts_after_event-more z e n t in omega arith)
    (or_cases (marks n) (event_with_look_touches_node e n) m)

Lacks-dropped : (marks : ℕ → Bool) (s z : ℕ → ℕ) (e : EventWithLook) → Lacks marks s z → Lacks (marked_nodes_after_event marks e) s (step_counts_after_event z e)
Lacks-dropped marks s z e l = record {
  most = λ n. (let h : s n ≤ z n = l.most n in let k : z n ≤ step_counts_after_event z e n = step_counts_after_event-least z e n in omega arith);
  less = λ n m. ⊎_elim
      (λ t. less_dropped marks s z e l n (subst (λ b. cond b (λ n. marks n || event_with_look_touches_node e n) marks n ≡ true) t m))
      (λ f. let h : s n < z n = l.less n (subst (λ b. cond b (λ n. marks n || event_with_look_touches_node e n) marks n ≡ true) f m) in let k : z n ≤ step_counts_after_event z e n = step_counts_after_event-least z e n in omega arith)
      (cases_Bool (observes_marked_node marks e));
}

-- a node with the same number in both is not marked
none_marked : (marks : ℕ → Bool) (s z : ℕ → ℕ) → Lacks marks s z → (ns : List ℕ) → map (λ n. s n + 1) ns ≡ map (λ n. z n + 1) ns → list_any marks ns ≡ true → ⊥
none_marked marks s z l [] h t = both_ways false refl t
none_marked marks s z l (n ∷ ns) h t =
    let head : s n + 1 ≡ z n + 1 = cc in
    let tail : map (λ n. s n + 1) ns ≡ map (λ n. z n + 1) ns = cc in
    ⊎_elim (λ m. let k : s n < z n = l.less n m in omega arith) (λ m. none_marked marks s z l ns tail m) (or_cases (marks n) (list_any marks ns) t)

numbers_of : (e : EventWithLook) (a b : List ℕ) (x y : List (EventWithLook × List ℕ)) → ◌≡◌ {A = List (EventWithLook × List ℕ)} ((e, a) ∷ x) ((e, b) ∷ y) → a ≡ b
numbers_of e a b x y h = let p : ◌≡◌ {A = EventWithLook × List ℕ} (e, a) (e, b) = cc in ap (λ (z : EventWithLook × List ℕ). z.1) p

others_of : (e : EventWithLook) (a b : List ℕ) (x y : List (EventWithLook × List ℕ)) → ◌≡◌ {A = List (EventWithLook × List ℕ)} ((e, a) ∷ x) ((e, b) ∷ y) → x ≡ y
others_of e a b x y h = cc

marked_nodes_after_event-free : (marks : ℕ → Bool) (e : EventWithLook) → observes_marked_node marks e ≡ false → marked_nodes_after_event marks e ≡ marks
marked_nodes_after_event-free marks e f = rw f refl

-- an event that sees a marked node has a marked one among these nodes of it
abbrev ShowsAll : (EventWithLook → List ℕ) → List EventWithLook → Type 0
ShowsAll nodes [] = Unit {0}
ShowsAll nodes (e ∷ es) = ((marks : ℕ → Bool) → observes_marked_node marks e ≡ true → list_any marks (nodes e) ≡ true) × ShowsAll nodes es

dropped_after : (nodes : EventWithLook → List ℕ) (marks : ℕ → Bool) (es : List EventWithLook) → ShowsAll nodes es → (fs : List Bool) (s z : ℕ → ℕ) → Lacks marks s z → events_numbered_by_nodes nodes s (unflagged_elements fs es) ≡ unflagged_elements fs (events_numbered_by_nodes nodes z es) → (p : ℕ) → slice_index_or (dependent_flags_from_marks marks es) p false ≡ true → slice_index_or fs p false ≡ true
dropped_after nodes marks [] q fs s z l h p t = absurd (both_ways false refl t)
dropped_after nodes marks (e ∷ es) q [] s z l h zero t = absurd (none_marked marks s z l (nodes e) (numbers_of e _ _ _ _ h) (q.0 marks t))
dropped_after nodes marks (e ∷ es) q [] s z l h (suc p) t =
    let free : observes_marked_node marks e ≡ false = false_from_ne_true (observes_marked_node marks e) (λ t. none_marked marks s z l (nodes e) (numbers_of e _ _ _ _ h) (q.0 marks t)) in
    dropped_after nodes marks es q.1 [] (step_counts_after_event s e) (step_counts_after_event z e) (Lacks-kept marks s z e l) (others_of e _ _ _ _ h) p
    (subst (λ m. slice_index_or (dependent_flags_from_marks m es) p false ≡ true) (marked_nodes_after_event-free marks e free) t)
dropped_after nodes marks (e ∷ es) q (true ∷ fs) s z l h zero t = refl
dropped_after nodes marks (e ∷ es) q (true ∷ fs) s z l h (suc p) t = dropped_after nodes (marked_nodes_after_event marks e) es q.1 fs s (step_counts_after_event z e) (Lacks-dropped marks s z e l) h p t
dropped_after nodes marks (e ∷ es) q (false ∷ fs) s z l h zero t = absurd (none_marked marks s z l (nodes e) (numbers_of e _ _ _ _ h) (q.0 marks t))
dropped_after nodes marks (e ∷ es) q (false ∷ fs) s z l h (suc p) t =
    let free : observes_marked_node marks e ≡ false = false_from_ne_true (observes_marked_node marks e) (λ t. none_marked marks s z l (nodes e) (numbers_of e _ _ _ _ h) (q.0 marks t)) in
    dropped_after nodes marks es q.1 fs (step_counts_after_event s e) (step_counts_after_event z e) (Lacks-kept marks s z e l) (others_of e _ _ _ _ h) p
    (subst (λ m. slice_index_or (dependent_flags_from_marks m es) p false ≡ true) (marked_nodes_after_event-free marks e free) t)

Lacks-first : (s z : ℕ → ℕ) (e : EventWithLook) → ((n : ℕ) → s n ≤ z n) → Lacks (event_with_look_touches_node e) s (step_counts_after_event z e)
Lacks-first s z e l = record {
  most = λ n. (let h : s n ≤ z n = l n in let k : z n ≤ step_counts_after_event z e n = step_counts_after_event-least z e n in omega arith);
  less = λ n t. (let h : s n ≤ z n = l n in let k : z n < step_counts_after_event z e n = step_counts_after_event-more z e n t in omega arith);
}

dropped_rest : (nodes : EventWithLook → List ℕ) (es : List EventWithLook) → ShowsAll nodes es → (i : ℕ) (fs : List Bool) (s z : ℕ → ℕ) → ((n : ℕ) → s n ≤ z n) → slice_index_or fs i false ≡ true → events_numbered_by_nodes nodes s (unflagged_elements fs es) ≡ unflagged_elements fs (events_numbered_by_nodes nodes z es) → (p : ℕ) → slice_index_or (dependent_flags es i) p false ≡ true → slice_index_or fs p false ≡ true
dropped_rest nodes [] q i fs s z l d h p t = absurd (both_ways false refl t)
dropped_rest nodes (e ∷ es) q i [] s z l d h p t = absurd (both_ways false refl d)
dropped_rest nodes (e ∷ es) q zero (false ∷ fs) s z l d h p t = absurd (both_ways false refl d)
dropped_rest nodes (e ∷ es) q zero (true ∷ fs) s z l d h zero t = refl
dropped_rest nodes (e ∷ es) q zero (true ∷ fs) s z l d h (suc p) t = dropped_after nodes (event_with_look_touches_node e) es q.1 fs s (step_counts_after_event z e) (Lacks-first s z e l) h p t
dropped_rest nodes (e ∷ es) q (suc i) (b ∷ fs) s z l d h zero t = absurd (both_ways false refl t)
dropped_rest nodes (e ∷ es) q (suc i) (true ∷ fs) s z l d h (suc p) t =
    dropped_rest nodes es q.1 i fs s (step_counts_after_event z e) (λ n. (let g : s n ≤ z n = l n in let k : z n ≤ step_counts_after_event z e n = step_counts_after_event-least z e n in omega arith)) d h p t
dropped_rest nodes (e ∷ es) q (suc i) (false ∷ fs) s z l d h (suc p) t =
    dropped_rest nodes es q.1 i fs (step_counts_after_event s e) (step_counts_after_event z e) (λ n. step_counts_after_event-mono s z e n (l n)) d (others_of e _ _ _ _ h) p t

dropped_all : (nodes : EventWithLook → List ℕ) (events : List EventWithLook) → ShowsAll nodes events → (i : ℕ) (dropped : List Bool) → IsTrue (slice_index_or dropped i false) → events_numbered_by_nodes nodes (λ n. 0) (unflagged_elements dropped events) ≡ unflagged_elements dropped (events_numbered_by_nodes nodes (λ n. 0) events) → (j : ℕ) → DependsOn events i j → IsTrue (slice_index_or dropped j false)
dropped_all nodes events q i fs d h j x = elim (cases_lt i (length events)) [
  | inl l ↦ dropped_rest nodes events q i fs (λ n. 0) (λ n. 0) (λ n. omega arith) d h j (flag_from_DependsOn events i j l x)
  | inr l ↦ subst (λ (z : ℕ). slice_index_or fs z false ≡ true) (sym (past_alone events i j l x)) d
]

shows_steps : (es : List EventWithLook) → HasNoLooks es → ShowsAll touched_nodes es
shows_steps [] q = tt
shows_steps (e ∷ es) q = (λ marks t. touched-has_common_node marks e q.0 t, shows_steps es q.1)

shows_seen : (es : List EventWithLook) → ShowsAll nodes_observed_by_event es
shows_seen [] = tt
shows_seen (e ∷ es) = (λ marks t. t, shows_seen es)

pub largest : (events : List EventWithLook) → HasNoLooks events → (i : ℕ) (dropped : List Bool) → IsTrue (slice_index_or dropped i false) → numbered_events (unflagged_elements dropped events) ≡ unflagged_elements dropped (numbered_events events) → (j : ℕ) → DependsOn events i j → IsTrue (slice_index_or dropped j false)
largest events q = dropped_all touched_nodes events (shows_steps events q)

pub largest_seen : (events : List EventWithLook) (i : ℕ) (dropped : List Bool) → IsTrue (slice_index_or dropped i false) → numbered_events_with_seen_steps (unflagged_elements dropped events) ≡ unflagged_elements dropped (numbered_events_with_seen_steps events) → (j : ℕ) → DependsOn events i j → IsTrue (slice_index_or dropped j false)
largest_seen events = dropped_all nodes_observed_by_event events (shows_seen events)
