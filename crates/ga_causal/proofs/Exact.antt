-- The flags of the marks are exactly the events that depend on a place.
use Rattle.std.proofs.Common.{◌≡◌, ℕ, zero, suc, ◌<◌, ◌≤◌, ◌≢◌, ◌⊎◌, ◌↔◌, Bool, true, false, ◌||◌, cond, List, [], ◌∷◌, length, refl, sym, ◌∙◌, ap, subst, inl, inr, ⊎_elim, arith, IsTrue, ◌+◌, ◌++◌, replicate, drop, add-one, append_assoc, append-nil, get_or, take, take_all, length-drop, drop_of_length-le, ◌-◌}
use Rattle.std.specs.Prelude.{slice_index_or}
use Rattle.std.specs.List.{list_any}
use Rattle.std.proofs.lemmas.Bool.{or_left, or_right, or_cases, cases_Bool, both_ways, cond-true, cond-false, false_from_ne_true}
use Rattle.ga_event.specs.declared.event.EventWithLook.{EventWithLook}
use Rattle.ga_causal.specs.Dependence.{touched_nodes, event_with_look_touches_node, is_transfer_event, dependence_rule, event_at, DependsOn, itself, through, marked_nodes_after_event, dependent_flags_from_marks, dependent_flags, default_event_with_look}
use Rattle.ga_event.specs.Touches.{nodes_observed_by_event, observes_marked_node}
use Rattle.ga_event.proofs.Locality.{observes_marked_node-touched}
use Rattle.std.proofs.lemmas.List.{get_or_default}

-- direct dependence of two events is one rule or another: the later sees a node that the earlier touches
pub rule_meets : (d e : EventWithLook) → dependence_rule d e ≢ 0 → observes_marked_node (event_with_look_touches_node d) e ≡ true
rule_meets d e h = ⊎_elim (λ t. t)
    (λ f. absurd (h (cond-false (list_any (event_with_look_touches_node d) (touched_nodes e)) _ (cond (observes_marked_node (event_with_look_touches_node d) e) 3 0) (false_from_ne_true _ (λ t. both_ways (observes_marked_node (event_with_look_touches_node d) e) f (observes_marked_node-touched (event_with_look_touches_node d) e t)))
    ∙ cond-false (observes_marked_node (event_with_look_touches_node d) e) 3 0 f)))
    (cases_Bool (observes_marked_node (event_with_look_touches_node d) e))

some_rule : (a b : Bool) → cond {A = ℕ} a (cond b 2 1) 3 ≢ 0
some_rule true true e = omega arith
some_rule true false e = omega arith
some_rule false b e = omega arith

pub meets_rule : (d e : EventWithLook) → observes_marked_node (event_with_look_touches_node d) e ≡ true → dependence_rule d e ≢ 0
meets_rule d e h = λ z. some_rule (list_any (event_with_look_touches_node d) (touched_nodes e)) (is_transfer_event d.event || is_transfer_event e.event)
    (ap (λ (k : ℕ). cond {A = ℕ} (list_any (event_with_look_touches_node d) (touched_nodes e)) (cond (is_transfer_event d.event || is_transfer_event e.event) 2 1) k) (sym (cond-true (observes_marked_node (event_with_look_touches_node d) e) 3 0 h)) ∙ z)

pub any-mono : (m k : ℕ → Bool) → ((n : ℕ) → m n ≡ true → k n ≡ true) → (ns : List ℕ) → list_any m ns ≡ true → list_any k ns ≡ true
any-mono m k h [] t = t
any-mono m k h (n ∷ ns) t =
    ⊎_elim (λ u. or_left (k n) (list_any k ns) (h n u)) (λ u. or_right (k n) (list_any k ns) (any-mono m k h ns u)) (or_cases (m n) (list_any m ns) t)

pub any-or : (m k : ℕ → Bool) (ns : List ℕ) → list_any (λ n. m n || k n) ns ≡ true → (list_any m ns ≡ true) ⊎ (list_any k ns ≡ true)
any-or m k [] t = inl t
any-or m k (n ∷ ns) t =
    ⊎_elim
    (λ u. ⊎_elim (λ v. inl (or_left (m n) (list_any m ns) v)) (λ v. inr (or_left (k n) (list_any k ns) v)) (or_cases (m n) (k n) u))
    (λ u. ⊎_elim (λ v. inl (or_right (m n) (list_any m ns) v)) (λ v. inr (or_right (k n) (list_any k ns) v)) (any-or m k ns u))
    (or_cases (m n || k n) (list_any (λ n. m n || k n) ns) t)

pub observes_marked_node-mono : (m k : ℕ → Bool) (e : EventWithLook) → ((n : ℕ) → m n ≡ true → k n ≡ true) → observes_marked_node m e ≡ true → observes_marked_node k e ≡ true
observes_marked_node-mono m k e h t = any-mono m k h (nodes_observed_by_event e) t

pub observes_marked_node-or : (m k : ℕ → Bool) (e : EventWithLook) → observes_marked_node (λ n. m n || k n) e ≡ true → (observes_marked_node m e ≡ true) ⊎ (observes_marked_node k e ≡ true)
observes_marked_node-or m k e t = any-or m k (nodes_observed_by_event e) t

-- a mark stays
marked_stays : (marks : ℕ → Bool) (e : EventWithLook) (n : ℕ) → marks n ≡ true → marked_nodes_after_event marks e n ≡ true
marked_stays marks e n h = ⊎_elim (λ t. rw t (or_left _ _ h)) (λ f. rw f h) (cases_Bool (observes_marked_node marks e))

pub flag_marked : (marks : ℕ → Bool) (es : List EventWithLook) (q : ℕ) → q < length es → observes_marked_node marks (event_at es q) ≡ true → slice_index_or (dependent_flags_from_marks marks es) q false ≡ true
flag_marked marks [] q l h = absurd (omega arith)
flag_marked marks (e ∷ es) zero l h = h
flag_marked marks (e ∷ es) (suc q) l h =
    flag_marked (marked_nodes_after_event marks e) es q (omega arith) (observes_marked_node-mono marks (marked_nodes_after_event marks e) (event_at es q) (marked_stays marks e) h)

flag_more : (marks : ℕ → Bool) (es : List EventWithLook) (p q : ℕ) → slice_index_or (dependent_flags_from_marks marks es) p false ≡ true → p < q → q < length es → observes_marked_node (event_with_look_touches_node (event_at es p)) (event_at es q) ≡ true → slice_index_or (dependent_flags_from_marks marks es) q false ≡ true
flag_more marks [] p q f k l h = absurd (omega arith)
flag_more marks (e ∷ es) p zero f k l h = absurd (omega arith)
flag_more marks (e ∷ es) zero (suc q) f k l h =
    flag_marked (marked_nodes_after_event marks e) es q (omega arith) (observes_marked_node-mono (event_with_look_touches_node e) (marked_nodes_after_event marks e) (event_at es q) (λ n t. rw f (or_right _ _ t)) h)
flag_more marks (e ∷ es) (suc p) (suc q) f k l h = flag_more (marked_nodes_after_event marks e) es p q f (omega arith) (omega arith) h

-- what depends directly on a flagged event is flagged
pub flag_direct : (es : List EventWithLook) (i p q : ℕ) → slice_index_or (dependent_flags es i) p false ≡ true → p < q → q < length es → observes_marked_node (event_with_look_touches_node (event_at es p)) (event_at es q) ≡ true → slice_index_or (dependent_flags es i) q false ≡ true
flag_direct [] i p q f k l h = absurd (omega arith)
flag_direct (e ∷ es) i p zero f k l h = absurd (omega arith)
flag_direct (e ∷ es) zero zero (suc q) f k l h = flag_marked (event_with_look_touches_node e) es q (omega arith) h
flag_direct (e ∷ es) zero (suc p) (suc q) f k l h = flag_more (event_with_look_touches_node e) es p q f (omega arith) (omega arith) h
flag_direct (e ∷ es) (suc i) zero (suc q) f k l h = absurd (both_ways false refl f)
flag_direct (e ∷ es) (suc i) (suc p) (suc q) f k l h = flag_direct es i p q f (omega arith) (omega arith) h

pub flag_itself : (es : List EventWithLook) (i : ℕ) → i < length es → slice_index_or (dependent_flags es i) i false ≡ true
flag_itself [] i l = absurd (omega arith)
flag_itself (e ∷ es) zero l = refl
flag_itself (e ∷ es) (suc i) l = flag_itself es i (omega arith)

pub flag_from_DependsOn : (es : List EventWithLook) (i j : ℕ) → i < length es → DependsOn es i j → slice_index_or (dependent_flags es i) j false ≡ true
flag_from_DependsOn es i j l itself = flag_itself es i l
flag_from_DependsOn es i j l (through {middle} d s) =
    flag_direct es i middle j (flag_from_DependsOn es i middle l d) s.before s.within (rule_meets (event_at es middle) (event_at es j) s.by_rule)

-- a flagged event before, on which this one depends directly
pub record Earlier (es : List EventWithLook) (flags : List Bool) (q : ℕ) : Type 0 where
  pub place : ℕ
  pub before : place < q
  pub flagged : slice_index_or flags place false ≡ true
  pub direct : observes_marked_node (event_with_look_touches_node (event_at es place)) (event_at es q) ≡ true

Earlier-shift : (e : EventWithLook) (es : List EventWithLook) (b : Bool) (flags : List Bool) (q : ℕ) → Earlier es flags q → Earlier (e ∷ es) (b ∷ flags) (suc q)
Earlier-shift e es b flags q w = record { place = suc w.place; before = omega (arith, w.before); flagged = w.flagged; direct = w.direct }

first_mark : (marks : ℕ → Bool) (e : EventWithLook) (es : List EventWithLook) (q : ℕ) → observes_marked_node (marked_nodes_after_event marks e) (event_at es q) ≡ true → (observes_marked_node marks (event_at es q) ≡ true) ⊎ Earlier (e ∷ es) (dependent_flags_from_marks marks (e ∷ es)) (suc q)
first_mark marks e es q h = ⊎_elim
    (λ t. ⊎_elim inl (λ u. inr (record { place = zero; before = omega arith; flagged = t; direct = u }))
    (observes_marked_node-or marks (event_with_look_touches_node e) (event_at es q) (let g : observes_marked_node (λ n. marks n || event_with_look_touches_node e n) (event_at es q) ≡ true = subst (λ b. observes_marked_node (cond b (λ n. marks n || event_with_look_touches_node e n) marks) (event_at es q) ≡ true) t h in g)))
    (λ f. inl (subst (λ b. observes_marked_node (cond b (λ n. marks n || event_with_look_touches_node e n) marks) (event_at es q) ≡ true) f h))
    (cases_Bool (observes_marked_node marks e))

why_flagged : (marks : ℕ → Bool) (es : List EventWithLook) (q : ℕ) → slice_index_or (dependent_flags_from_marks marks es) q false ≡ true → (observes_marked_node marks (event_at es q) ≡ true) ⊎ Earlier es (dependent_flags_from_marks marks es) q
why_flagged marks [] q f = absurd (both_ways false refl f)
why_flagged marks (e ∷ es) zero f = inl f
why_flagged marks (e ∷ es) (suc q) f = ⊎_elim (first_mark marks e es q) (λ w. inr (Earlier-shift e es (observes_marked_node marks e) (dependent_flags_from_marks (marked_nodes_after_event marks e) es) q w)) (why_flagged (marked_nodes_after_event marks e) es q f)

pub why_dependent : (es : List EventWithLook) (i q : ℕ) → slice_index_or (dependent_flags es i) q false ≡ true → (q ≡ i) ⊎ Earlier es (dependent_flags es i) q
why_dependent [] i q f = absurd (both_ways false refl f)
why_dependent (e ∷ es) zero zero f = inl refl
why_dependent (e ∷ es) zero (suc q) f = ⊎_elim
    (λ m. inr (record { place = zero; before = omega arith; flagged = refl; direct = m }))
    (λ w. inr (Earlier-shift e es true (dependent_flags_from_marks (event_with_look_touches_node e) es) q w))
    (why_flagged (event_with_look_touches_node e) es q f)
why_dependent (e ∷ es) (suc i) zero f = absurd (both_ways false refl f)
why_dependent (e ∷ es) (suc i) (suc q) f = ⊎_elim (λ h. inl (ap suc h)) (λ w. inr (Earlier-shift e es false (dependent_flags es i) q w)) (why_dependent es i q f)

DependsOn_within : (fuel : ℕ) (es : List EventWithLook) (i q : ℕ) → q < fuel → q < length es → slice_index_or (dependent_flags es i) q false ≡ true → DependsOn es i q
DependsOn_within zero es i q u l f = absurd (omega arith)
DependsOn_within (suc fuel) es i q u l f = ⊎_elim
    (λ h. subst (λ z. DependsOn es i z) (sym h) itself)
    (λ w. through {middle = w.place} (DependsOn_within fuel es i w.place (omega (arith, w.before)) (omega (arith, w.before)) w.flagged)
    (record { before = w.before; within = l; by_rule = meets_rule (event_at es w.place) (event_at es q) w.direct }))
    (why_dependent es i q f)

pub DependsOn_from_flag : (es : List EventWithLook) (i q : ℕ) → q < length es → slice_index_or (dependent_flags es i) q false ≡ true → DependsOn es i q
DependsOn_from_flag es i q l f = DependsOn_within (suc q) es i q (omega arith) l f

length-dependent_flags_from_marks : (marks : ℕ → Bool) (es : List EventWithLook) → length (dependent_flags_from_marks marks es) ≡ length es
length-dependent_flags_from_marks marks [] = refl
length-dependent_flags_from_marks marks (e ∷ es) = ap suc (length-dependent_flags_from_marks (marked_nodes_after_event marks e) es)

pub length-dependent_flags : (es : List EventWithLook) (i : ℕ) → length (dependent_flags es i) ≡ length es
length-dependent_flags [] i = refl
length-dependent_flags (e ∷ es) zero = ap suc (length-dependent_flags_from_marks (event_with_look_touches_node e) es)
length-dependent_flags (e ∷ es) (suc i) = ap suc (length-dependent_flags es i)

-- past its end nothing is flagged
pub within_of : (fs : List Bool) (i : ℕ) → slice_index_or fs i false ≡ true → i < length fs
within_of [] i d = absurd (both_ways false refl d)
within_of (b ∷ fs) zero d = omega arith
within_of (b ∷ fs) (suc i) d = let h : i < length fs = within_of fs i d in omega arith

pub flagged_within : (es : List EventWithLook) (i q : ℕ) → slice_index_or (dependent_flags es i) q false ≡ true → q < length es
flagged_within es i q f = let h : q < length (dependent_flags es i) = within_of (dependent_flags es i) q f in let k : length (dependent_flags es i) ≡ length es = length-dependent_flags es i in omega (arith, h, k)

-- the flags are the dependent places
pub dependents_exact : (es : List EventWithLook) (i j : ℕ) → i < length es → IsTrue (slice_index_or (dependent_flags es i) j false) ↔ DependsOn es i j
dependents_exact es i j k = (λ f. DependsOn_from_flag es i j (flagged_within es i j f) f, flag_from_DependsOn es i j k)

-- past the end of the list a place depends on itself alone, by definition
pub past_alone : (es : List EventWithLook) (i j : ℕ) → length es ≤ i → DependsOn es i j → j ≡ i
past_alone es i j l itself = refl
past_alone es i j l (through {middle} d s) =
    let e : middle ≡ i = past_alone es i middle l d in
    let b : middle < j = s.before in
    let w : j < length es = s.within in
    absurd (omega (arith, l, e, b, w))

-- ---- marks, and flags put one after another

pub marked_nodes_after_event-met : (marks : ℕ → Bool) (e : EventWithLook) → observes_marked_node marks e ≡ true → marked_nodes_after_event marks e ≡ (λ n. marks n || event_with_look_touches_node e n)
marked_nodes_after_event-met marks e t = rw t refl

pub dependent_flags-first : (es : List EventWithLook) (i : ℕ) → i < length es → dependent_flags es i ≡ replicate i false ++ true ∷ dependent_flags_from_marks (event_with_look_touches_node (event_at es i)) (drop (suc i) es)
dependent_flags-first [] i l = absurd (omega arith)
dependent_flags-first (e ∷ es) zero l = refl
dependent_flags-first (e ∷ es) (suc i) l = ap (λ z. false ∷ z) (dependent_flags-first es i (omega arith))

-- the flags up to the place, and those that are to come
pub closure_start : (es : List EventWithLook) (i k : ℕ) (e : EventWithLook) (flags : List Bool) (marks : ℕ → Bool) → i < length es → k ≡ i → flags ≡ replicate k false → e ≡ get_or es i e → marks ≡ event_with_look_touches_node e → (flags ++ true ∷ []) ++ dependent_flags_from_marks marks (take (length es - (i + 1)) (drop (i + 1) es)) ≡ dependent_flags es i
closure_start es i k e flags marks l n f g m =
    let whole : take (length es - (i + 1)) (drop (i + 1) es) ≡ drop (suc i) es = rw add-one (take_all (length es - suc i) (drop (suc i) es) (omega (arith, length-drop (suc i) es))) in
    let first : event_at es i ≡ e = get_or_default es i default_event_with_look e l ∙ sym g in
    ap (λ z. (z ++ true ∷ []) ++ dependent_flags_from_marks marks (take (length es - (i + 1)) (drop (i + 1) es))) (f ∙ ap (λ z. replicate z false) n)
    ∙ ap (λ z. (replicate i false ++ true ∷ []) ++ dependent_flags_from_marks z (take (length es - (i + 1)) (drop (i + 1) es))) (m ∙ ap event_with_look_touches_node (sym first))
    ∙ ap (λ z. (replicate i false ++ true ∷ []) ++ dependent_flags_from_marks (event_with_look_touches_node (event_at es i)) z) whole
    ∙ append_assoc (replicate i false) (true ∷ []) _
    ∙ sym (dependent_flags-first es i l)

-- the flags are whole at the end
pub closure_end : (es items : List EventWithLook) (i k : ℕ) (flags : List Bool) (marks : ℕ → Bool) → length items ≤ k → flags ++ dependent_flags_from_marks marks (drop k items) ≡ dependent_flags es i → flags ≡ dependent_flags es i
closure_end es items i k flags marks l h = sym (append-nil flags) ∙ ap (λ z. flags ++ dependent_flags_from_marks marks z) (sym (drop_of_length-le items l)) ∙ h

pub closure_exact : (es : List EventWithLook) (i : ℕ) (flags : List Bool) → i < length es → flags ≡ dependent_flags es i → (j : ℕ) → j < length es → IsTrue (slice_index_or flags j false) ↔ DependsOn es i j
closure_exact es i flags l h j k = subst (λ z. IsTrue (slice_index_or z j false) ↔ DependsOn es i j) (sym h) (dependents_exact es i j l)
