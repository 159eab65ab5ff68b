-- The local history of a node after a rollback.
use Rattle.std.proofs.Common.{◌≡◌, ℕ, zero, suc, ◌+◌, ◌==◌, Bool, true, false, ◌||◌, cond, List, [], ◌∷◌, ◌++◌, map, take, Option, Some, None, refl, sym, ◌∙◌, ap, subst, ⊎_elim, arith, eqb-true, append-nil, ◌<◌, ◌↔◌, not, length, is_some, IsNone, slice_index_or}
use Rattle.std.specs.List.{filter, zip}
use Rattle.std.proofs.lemmas.Bool.{cases_Bool, or_left, or_right, both_ways, cond-true, cond-false, false_from_ne_true, ne_eqb, not-false}
use Rattle.ga_event.specs.declared.event.Event.{Event}
use Rattle.ga_event.specs.declared.event.EventWithLook.{EventWithLook}
use Rattle.ga_event.specs.Touches.{observes_marked_node}
use Rattle.ga_event.specs.Apply.{MadeEventOutcome, run_events}
use Rattle.ga_node.specs.Record.{NodeRecord}
use Rattle.ga_event.proofs.Locality.{observes_marked_node-touched}
use Rattle.ga_causal.specs.Dependence.{touched_nodes, event_with_look_touches_node, marked_nodes_after_event, dependent_flags_from_marks, dependent_flags, unflagged_elements, rest, position_of_step, remaining_events_or_all, events_after_rewind, event_at, DependsOn}
use Rattle.ga_event.specs.Told.{events_of_causes}
use Rattle.ga_causal.specs.Equivalence.{numbered_events_with_outcomes, local_history, local_history_with_outcomes}
use Rattle.ga_causal.specs.Steps.{step_counts_after_event, numbered_events_with_seen_steps}
use Rattle.ga_causal.proofs.Exact.{any-mono, flag_marked, DependsOn_from_flag, flag_from_DependsOn}
use Rattle.ga_causal.proofs.Runs.{causes, kept, run_rest}
use Rattle.ga_causal.proofs.Equivalences.{seen_rest, numbers, entries}
use Rattle.ga_causal.proofs.Rollbacks.{kept-dropped, kept-kept, rewound-first, rewound-touched, rewound-other}
use Rattle.ga_causal.proofs.Consistent.{causes_without, made_of}
use Rattle.std.specs.Prelude.{option_map}
use Rattle.std.proofs.lemmas.Option.{same_Some}

-- what touches a node, of things that are of causes
abbrev at_node : {X : Type 0} → (X → EventWithLook) → ℕ → List X → List X
at_node f m xs = filter (λ x. event_with_look_touches_node (f x) m) xs

pub marked_nodes_after_event-stays : (marks : ℕ → Bool) (e : EventWithLook) (m : ℕ) → marks m ≡ true → marked_nodes_after_event marks e m ≡ true
marked_nodes_after_event-stays marks e m h = go (observes_marked_node marks e)
  where
    go : (b : Bool) → cond b (λ n. marks n || event_with_look_touches_node e n) marks m ≡ true
    go true = or_left (marks m) (event_with_look_touches_node e m) h
    go false = h

pub marked_nodes_after_event-touched : (marks : ℕ → Bool) (e : EventWithLook) (m : ℕ) → observes_marked_node marks e ≡ true → event_with_look_touches_node e m ≡ true → marked_nodes_after_event marks e m ≡ true
marked_nodes_after_event-touched marks e m t h = subst (λ b. cond b (λ n. marks n || event_with_look_touches_node e n) marks m ≡ true) (sym t) (or_right (marks m) (event_with_look_touches_node e m) h)

pub touched-marked_nodes : (marks : ℕ → Bool) (e : EventWithLook) (m : ℕ) → marks m ≡ true → event_with_look_touches_node e m ≡ true → observes_marked_node marks e ≡ true
touched-marked_nodes marks e m h t = observes_marked_node-touched marks e (any-mono (λ k. k == m) marks (λ k q. subst (λ z. marks z ≡ true) (sym (eqb-true k m q)) h) (touched_nodes e) t)

-- the things that are left of one and more, by whether it is dropped
abbrev pick : {X : Type 0} → (X → EventWithLook) → ℕ → X → List X → Bool → List X
pick f m x left b = at_node f m (cond b left (x ∷ left))

none_step : {X : Type 0} (f : X → EventWithLook) (m : ℕ) (marks : ℕ → Bool) (x : X) (left : List X) → marks m ≡ true → at_node f m left ≡ [] → pick f m x left (observes_marked_node marks (f x)) ≡ []
none_step f m marks x left h later = ⊎_elim
    (λ t. ap (pick f m x left) t ∙ later)
    (λ g. ap (pick f m x left) g
    ∙ cond-false (event_with_look_touches_node (f x) m) (x ∷ at_node f m left) (at_node f m left) (false_from_ne_true (event_with_look_touches_node (f x) m) (λ t. both_ways (observes_marked_node marks (f x)) g (touched-marked_nodes marks (f x) m h t))) ∙ later)
    (cases_Bool (observes_marked_node marks (f x)))

-- of a marked node nothing is left
none_left : {X : Type 0} (f : X → EventWithLook) (m : ℕ) (marks : ℕ → Bool) (xs : List X) → marks m ≡ true → at_node f m (unflagged_elements (dependent_flags_from_marks marks (map f xs)) xs) ≡ []
none_left f m marks [] h = refl
none_left f m marks (x ∷ xs) h =
    none_step f m marks x (unflagged_elements (dependent_flags_from_marks (marked_nodes_after_event marks (f x)) (map f xs)) xs) h (none_left f m (marked_nodes_after_event marks (f x)) xs (marked_nodes_after_event-stays marks (f x) m h))

-- a list begins with another
abbrev Begins : {X : Type 0} → List X → List X → Type 0
Begins {X} xs ys = (more : List X) × (xs ≡ ys ++ more)

Begins-both : {X : Type 0} (b : Bool) (x : X) (xs ys : List X) → Begins xs ys → Begins (cond b (x ∷ xs) xs) (cond b (x ∷ ys) ys)
Begins-both true x xs ys (more, q) = (more, ap (λ z. x ∷ z) q)
Begins-both false x xs ys (more, q) = (more, q)

Begins-none : {X : Type 0} (xs ys : List X) → ys ≡ [] → Begins xs ys
Begins-none xs ys q = (xs, ap (λ z. z ++ xs) (sym q))

begins_skip : {X : Type 0} (f : X → EventWithLook) (m : ℕ) (x : X) (xs ys : List X) → event_with_look_touches_node (f x) m ≡ false → Begins (at_node f m xs) ys → Begins (at_node f m (x ∷ xs)) ys
begins_skip f m x xs ys g h = subst (λ z. Begins z ys) (sym (cond-false (event_with_look_touches_node (f x) m) (x ∷ at_node f m xs) (at_node f m xs) g)) h

begins_step : {X : Type 0} (f : X → EventWithLook) (m : ℕ) (marks : ℕ → Bool) (x : X) (xs left : List X) → (event_with_look_touches_node (f x) m ≡ true → observes_marked_node marks (f x) ≡ true → at_node f m left ≡ []) → Begins (at_node f m xs) (at_node f m left)
    → Begins (at_node f m (x ∷ xs)) (pick f m x left (observes_marked_node marks (f x)))
begins_step f m marks x xs left none ih = ⊎_elim
    (λ t. subst (Begins (at_node f m (x ∷ xs))) (sym (ap (pick f m x left) t))
    (⊎_elim
    (λ u. Begins-none (at_node f m (x ∷ xs)) (at_node f m left) (none u t))
    (λ g. begins_skip f m x xs (at_node f m left) g ih)
    (cases_Bool (event_with_look_touches_node (f x) m))))
    (λ t. subst (Begins (at_node f m (x ∷ xs))) (sym (ap (pick f m x left) t)) (Begins-both (event_with_look_touches_node (f x) m) x (at_node f m xs) (at_node f m left) ih))
    (cases_Bool (observes_marked_node marks (f x)))

begins_kept : {X : Type 0} (f : X → EventWithLook) (m : ℕ) (marks : ℕ → Bool) (xs : List X) → Begins (at_node f m xs) (at_node f m (unflagged_elements (dependent_flags_from_marks marks (map f xs)) xs))
begins_kept f m marks [] = ([], refl)
begins_kept f m marks (x ∷ xs) =
    begins_step f m marks x xs (unflagged_elements (dependent_flags_from_marks (marked_nodes_after_event marks (f x)) (map f xs)) xs)
    (λ u t. none_left f m (marked_nodes_after_event marks (f x)) xs (marked_nodes_after_event-touched marks (f x) m t u))
    (begins_kept f m (marked_nodes_after_event marks (f x)) xs)

begins_rest : {X : Type 0} (f : X → EventWithLook) (m i : ℕ) (xs : List X) → Begins (at_node f m xs) (at_node f m (unflagged_elements (dependent_flags (map f xs) i) xs))
begins_rest f m i [] = ([], refl)
begins_rest f m zero (x ∷ xs) = ⊎_elim
    (λ u. Begins-none (at_node f m (x ∷ xs)) _ (none_left f m (event_with_look_touches_node (f x)) xs u))
    (λ g. begins_skip f m x xs _ g (begins_kept f m (event_with_look_touches_node (f x)) xs))
    (cases_Bool (event_with_look_touches_node (f x) m))
begins_rest f m (suc i) (x ∷ xs) = Begins-both (event_with_look_touches_node (f x) m) x (at_node f m xs) _ (begins_rest f m i xs)

causes_entries : (s : ℕ → ℕ) (es : List EventWithLook) → map (λ x. x.0) (entries s es) ≡ es
causes_entries s [] = refl
causes_entries s (e ∷ es) = ap (λ z. e ∷ z) (causes_entries (step_counts_after_event s e) es)

causes_zipped : (s : ℕ → ℕ) (ts : List (EventWithLook × MadeEventOutcome)) → map (λ x. x.0.0) (zip (entries s (causes ts)) (map (λ x. x.1) ts)) ≡ causes ts
causes_zipped s [] = refl
causes_zipped s (t ∷ ts) = ap (λ z. t.0 ∷ z) (causes_zipped (step_counts_after_event s t.0) ts)

account_from : (es : List EventWithLook) (o : Option ℕ) (m : ℕ) → Begins (local_history m es) (local_history m (remaining_events_or_all es o))
account_from es None m = ([], sym (append-nil (local_history m es)))
account_from es (Some i) m =
    subst (λ z. Begins (local_history m es) (at_node (λ (x : EventWithLook × List ℕ). x.0) m z))
    (ap (λ z. unflagged_elements (dependent_flags z i) (numbered_events_with_seen_steps es)) (causes_entries (λ n. 0) es) ∙ sym (seen_rest es i))
    (begins_rest (λ (x : EventWithLook × List ℕ). x.0) m i (numbered_events_with_seen_steps es))

-- the local history of a node after a rollback is a prefix of the one before
pub first_part : (events : List EventWithLook) (n k m : ℕ) → (later : List (EventWithLook × List ℕ)) × (local_history m events ≡ local_history m (events_after_rewind events n k) ++ later)
first_part events n k m = account_from events (position_of_step events n k) m

zip_nil : {X Y : Type 0} (xs : List X) → zip xs (let ys : List Y = [] in ys) ≡ []
zip_nil [] = refl
zip_nil (x ∷ xs) = refl

zip_without : {X Y : Type 0} (flags : List Bool) (xs : List X) (ys : List Y) → zip (unflagged_elements flags xs) (unflagged_elements flags ys) ≡ unflagged_elements flags (zip xs ys)
zip_without [] xs ys = refl
zip_without (b ∷ flags) [] ys = refl
zip_without (b ∷ flags) (x ∷ xs) [] = zip_nil (unflagged_elements (b ∷ flags) (x ∷ xs))
zip_without (true ∷ flags) (x ∷ xs) (y ∷ ys) = zip_without flags xs ys
zip_without (false ∷ flags) (x ∷ xs) (y ∷ ys) = ap (λ z. (x, y) ∷ z) (zip_without flags xs ys)

tolds_without : (flags : List Bool) (ts : List (EventWithLook × MadeEventOutcome)) → map (λ x. x.1) (unflagged_elements flags ts) ≡ unflagged_elements flags (map (λ x. x.1) ts)
tolds_without [] ts = refl
tolds_without (true ∷ flags) [] = refl
tolds_without (false ∷ flags) [] = refl
tolds_without (true ∷ flags) (x ∷ ts) = tolds_without flags ts
tolds_without (false ∷ flags) (x ∷ ts) = ap (λ z. x.1 ∷ z) (tolds_without flags ts)

recorded_rest : (ts : List (EventWithLook × MadeEventOutcome)) (i : ℕ) → numbered_events_with_outcomes (unflagged_elements (dependent_flags (causes ts) i) ts) ≡ unflagged_elements (dependent_flags (causes ts) i) (numbered_events_with_outcomes ts)
recorded_rest ts i =
    ap (λ z. zip (numbered_events_with_seen_steps z) (map (λ x. x.1) (unflagged_elements (dependent_flags (causes ts) i) ts))) (causes_without (dependent_flags (causes ts) i) ts)
    ∙ ap (λ z. zip (numbered_events_with_seen_steps (rest (causes ts) i)) z) (tolds_without (dependent_flags (causes ts) i) ts)
    ∙ ap (λ z. zip z (unflagged_elements (dependent_flags (causes ts) i) (map (λ x. x.1) ts))) (seen_rest (causes ts) i)
    ∙ zip_without (dependent_flags (causes ts) i) (numbered_events_with_seen_steps (causes ts)) (map (λ x. x.1) ts)

told_rest : (ts : List (EventWithLook × MadeEventOutcome)) (i m : ℕ) → Begins (local_history_with_outcomes m ts) (local_history_with_outcomes m (unflagged_elements (dependent_flags (causes ts) i) ts))
told_rest ts i m =
    subst (λ z. Begins (local_history_with_outcomes m ts) (at_node (λ (x : (EventWithLook × List ℕ) × MadeEventOutcome). x.0.0) m z))
    (ap (λ z. unflagged_elements (dependent_flags z i) (numbered_events_with_outcomes ts)) (causes_zipped (λ n. 0) ts) ∙ sym (recorded_rest ts i))
    (begins_rest (λ (x : (EventWithLook × List ℕ) × MadeEventOutcome). x.0.0) m i (numbered_events_with_outcomes ts))

-- the remaining events run, and the local history of each node with its outcomes is a prefix of the one before
abbrev Leaves : List NodeRecord → List (EventWithLook × MadeEventOutcome) → List Event → Type 0
Leaves chip ts es = (now : List NodeRecord) × (left : List (EventWithLook × MadeEventOutcome)) × (run_events chip es ≡ Some (now, left)) × ((m : ℕ) → Begins (local_history_with_outcomes m ts) (local_history_with_outcomes m left))

leaves_from : (chip last : List NodeRecord) (es : List Event) (ts : List (EventWithLook × MadeEventOutcome)) (o : Option ℕ) → run_events chip es ≡ Some (last, ts) → events_of_causes (causes ts) ≡ es → Leaves chip ts (events_of_causes (remaining_events_or_all (causes ts) o))
leaves_from chip last es ts None is same = (last, ts, subst (λ z. run_events chip z ≡ Some (last, ts)) (sym same) is, λ m. ([], sym (append-nil (local_history_with_outcomes m ts))))
leaves_from chip last es ts (Some i) is same =
    let r = run_rest chip es i last ts is in
    (r.0, unflagged_elements (dependent_flags (causes ts) i) ts, r.1, λ m. told_rest ts i m)

pub first_part_told : (chip last : List NodeRecord) (events : List Event) (steps : List (EventWithLook × MadeEventOutcome)) (n k : ℕ) → run_events chip events ≡ Some (last, steps)
    → (now : List NodeRecord) × (left : List (EventWithLook × MadeEventOutcome)) × (run_events chip (events_of_causes (events_after_rewind (causes steps) n k)) ≡ Some (now, left))
    × ((m : ℕ) → (later : List ((EventWithLook × List ℕ) × MadeEventOutcome)) × (local_history_with_outcomes m steps ≡ local_history_with_outcomes m left ++ later))
first_part_told chip last events steps n k is =
    leaves_from chip last events steps (position_of_step (causes steps) n k) is ((made_of chip last events steps is).1)

-- the local history of the node itself ends before the step that is removed
abbrev entries_at : ℕ → (ℕ → ℕ) → List EventWithLook → List (EventWithLook × List ℕ)
entries_at n s es = filter (λ x. event_with_look_touches_node x.0 n) (entries s es)

none_kept : (s : ℕ → ℕ) (marks : ℕ → Bool) (n : ℕ) (es : List EventWithLook) → marks n ≡ true → entries_at n s (kept marks es) ≡ []
none_kept s marks n [] h = refl
none_kept s marks n (e ∷ es) h = ⊎_elim
    (λ t. ap (entries_at n s) (kept-dropped marks e es t) ∙ none_kept s (λ m. marks m || event_with_look_touches_node e m) n es (or_left (marks n) (event_with_look_touches_node e n) h))
    (λ g. ap (entries_at n s) (kept-kept marks e es g)
    ∙ cond-false (event_with_look_touches_node e n) ((e, numbers s e) ∷ entries_at n (step_counts_after_event s e) (kept marks es)) (entries_at n (step_counts_after_event s e) (kept marks es)) (false_from_ne_true (event_with_look_touches_node e n) (λ t. both_ways (observes_marked_node marks e) g (touched-marked_nodes marks e n h t)))
    ∙ none_kept (step_counts_after_event s e) marks n es h)
    (cases_Bool (observes_marked_node marks e))

entries-skipped : (s : ℕ → ℕ) (n : ℕ) (e : EventWithLook) (es : List EventWithLook) → event_with_look_touches_node e n ≡ false → entries_at n s (e ∷ es) ≡ entries_at n (step_counts_after_event s e) es
entries-skipped s n e es f = cond-false (event_with_look_touches_node e n) ((e, numbers s e) ∷ entries_at n (step_counts_after_event s e) es) (entries_at n (step_counts_after_event s e) es) f

entries-more : (s : ℕ → ℕ) (n : ℕ) (e : EventWithLook) (es : List EventWithLook) → event_with_look_touches_node e n ≡ true → entries_at n s (e ∷ es) ≡ (e, numbers s e) ∷ entries_at n (step_counts_after_event s e) es
entries-more s n e es t = cond-true (event_with_look_touches_node e n) ((e, numbers s e) ∷ entries_at n (step_counts_after_event s e) es) (entries_at n (step_counts_after_event s e) es) t

own_part : (s : ℕ → ℕ) (es : List EventWithLook) (n k : ℕ) → entries_at n s (events_after_rewind es n (suc k)) ≡ take k (entries_at n s es)
own_part s [] n zero = refl
own_part s [] n (suc k) = refl
own_part s (e ∷ es) n zero = ⊎_elim
    (λ t. ap (entries_at n s) (rewound-first e es n t) ∙ none_kept s (event_with_look_touches_node e) n es t)
    (λ f. ap (entries_at n s) (rewound-other e es n zero f) ∙ entries-skipped s n e (events_after_rewind es n 1) f
    ∙ own_part (step_counts_after_event s e) es n zero)
    (cases_Bool (event_with_look_touches_node e n))
own_part s (e ∷ es) n (suc k) = ⊎_elim
    (λ t. ap (entries_at n s) (rewound-touched e es n k t) ∙ entries-more s n e (events_after_rewind es n (suc k)) t
    ∙ ap (λ z. (e, numbers s e) ∷ z) (own_part (step_counts_after_event s e) es n k)
    ∙ sym (ap (take (suc k)) (entries-more s n e es t)))
    (λ f. ap (entries_at n s) (rewound-other e es n (suc k) f) ∙ entries-skipped s n e (events_after_rewind es n (suc (suc k))) f
    ∙ own_part (step_counts_after_event s e) es n (suc k)
    ∙ sym (ap (take (suc k)) (entries-skipped s n e es f)))
    (cases_Bool (event_with_look_touches_node e n))

pub own_part_of : (events : List EventWithLook) (n k : ℕ) → local_history n (events_after_rewind events n (k + 1)) ≡ take k (local_history n events)
own_part_of events n k =
    let q : k + 1 ≡ suc k = omega arith in
    ap (λ (z : ℕ). local_history n (events_after_rewind events n z)) q ∙ own_part (λ i. 0) events n k

-- ---- Whether a step still exists after a rollback.

-- the place of a step by cases
pub place-first : (e : EventWithLook) (es : List EventWithLook) (n : ℕ) → event_with_look_touches_node e n ≡ true → position_of_step (e ∷ es) n 1 ≡ Some 0
place-first e es n t = cond-true (event_with_look_touches_node e n) (Some 0) (option_map suc (position_of_step es n 1)) t

pub place-touched : (e : EventWithLook) (es : List EventWithLook) (n i : ℕ) → event_with_look_touches_node e n ≡ true → position_of_step (e ∷ es) n (suc (suc i)) ≡ option_map suc (position_of_step es n (suc i))
place-touched e es n i t =
    cond-true (event_with_look_touches_node e n) (cond (suc i == 0) (Some 0) (option_map suc (position_of_step es n (suc i)))) (option_map suc (position_of_step es n (suc (suc i)))) t
    ∙ cond-false (suc i == 0) (Some 0) (option_map suc (position_of_step es n (suc i))) (ne_eqb (suc i) 0 (λ q. omega arith))

pub place-other : (e : EventWithLook) (es : List EventWithLook) (n i : ℕ) → event_with_look_touches_node e n ≡ false → position_of_step (e ∷ es) n (suc i) ≡ option_map suc (position_of_step es n (suc i))
place-other e es n i f = cond-false (event_with_look_touches_node e n) _ (option_map suc (position_of_step es n (suc i))) f

-- what was found under a shift
pub record Shifted (o : Option ℕ) (q : ℕ) : Type 0 where
  pub place : ℕ
  pub is : o ≡ Some place
  pub shift : q ≡ suc place

pub shifted_of : (o : Option ℕ) (q : ℕ) → option_map suc o ≡ Some q → Shifted o q
shifted_of None q h = absurd (cc)
shifted_of (Some p) q h = record { place = p; is = refl; shift = sym (same_Some (suc p) q h) }

pub some-shift : (o : Option ℕ) → is_some (option_map {U = ℕ} suc o) ≡ is_some o
some-shift None = refl
some-shift (Some p) = refl

-- the event there touches the node
pub count_touching_events : (es : List EventWithLook) (n k q : ℕ) → position_of_step es n k ≡ Some q → (q < length es) × (event_with_look_touches_node (event_at es q) n ≡ true)
count_touching_events [] n k q h = absurd (cc)
count_touching_events (e ∷ es) n zero q h = absurd (cc)
count_touching_events (e ∷ es) n (suc zero) q h = ⊎_elim
    (λ t. let z : 0 ≡ q = same_Some 0 q (sym (place-first e es n t) ∙ h) in
    subst (λ w. (w < suc (length es)) × (event_with_look_touches_node (event_at (e ∷ es) w) n ≡ true)) z (omega arith, t))
    (λ f. let s = shifted_of (position_of_step es n 1) q (sym (place-other e es n 0 f) ∙ h) in
    let r = count_touching_events es n 1 s.place s.is in
    subst (λ w. (w < suc (length es)) × (event_with_look_touches_node (event_at (e ∷ es) w) n ≡ true)) (sym s.shift) (omega (arith, r.0), r.1))
    (cases_Bool (event_with_look_touches_node e n))
count_touching_events (e ∷ es) n (suc (suc i)) q h = ⊎_elim
    (λ t. let s = shifted_of (position_of_step es n (suc i)) q (sym (place-touched e es n i t) ∙ h) in
    let r = count_touching_events es n (suc i) s.place s.is in
    subst (λ w. (w < suc (length es)) × (event_with_look_touches_node (event_at (e ∷ es) w) n ≡ true)) (sym s.shift) (omega (arith, r.0), r.1))
    (λ f. let s = shifted_of (position_of_step es n (suc (suc i))) q (sym (place-other e es n (suc i) f) ∙ h) in
    let r = count_touching_events es n (suc (suc i)) s.place s.is in
    subst (λ w. (w < suc (length es)) × (event_with_look_touches_node (event_at (e ∷ es) w) n ≡ true)) (sym s.shift) (omega (arith, r.0), r.1))
    (cases_Bool (event_with_look_touches_node e n))

-- no step of a marked node stays
no_place_kept : (marks : ℕ → Bool) (es : List EventWithLook) (n k : ℕ) → marks n ≡ true → position_of_step (kept marks es) n k ≡ None
no_place_kept marks [] n k m = refl
no_place_kept marks (e ∷ es) n k m = ⊎_elim
    (λ t. ap (λ z. position_of_step z n k) (kept-dropped marks e es t) ∙ no_place_kept (λ a. marks a || event_with_look_touches_node e a) es n k (or_left (marks n) (event_with_look_touches_node e n) m))
    (λ f. ap (λ z. position_of_step z n k) (kept-kept marks e es f) ∙ later k (false_from_ne_true (event_with_look_touches_node e n) (λ t. both_ways (observes_marked_node marks e) f (touched-marked_nodes marks e n m t))) (λ j. no_place_kept marks es n j m))
    (cases_Bool (observes_marked_node marks e))
  where
    later : (j : ℕ) → event_with_look_touches_node e n ≡ false → ((i : ℕ) → position_of_step (kept marks es) n i ≡ None) → position_of_step (e ∷ kept marks es) n j ≡ None
    later zero f h = refl
    later (suc j) f h = place-other e (kept marks es) n j f ∙ ap (λ (o : Option ℕ). option_map suc o) (h (suc j))

-- the step exists after the drop exactly if its event was not flagged
Stands : List EventWithLook → List Bool → ℕ → ℕ → ℕ → Type 0
Stands now flags n k q = is_some (position_of_step now n k) ≡ not (slice_index_or flags q false)

stands_none : (now : List EventWithLook) (flags : List Bool) (n k q : ℕ) → position_of_step now n k ≡ None → slice_index_or flags q false ≡ true → Stands now flags n k q
unfolding Stands
stands_none now flags n k q h f = ap is_some h ∙ sym (ap not f)

stands_first : (e : EventWithLook) (es : List EventWithLook) (flags : List Bool) (n : ℕ) → event_with_look_touches_node e n ≡ true → slice_index_or flags 0 false ≡ false → Stands (e ∷ es) flags n 1 0
unfolding Stands
stands_first e es flags n t f = ap is_some (place-first e es n t) ∙ sym (ap not f)

stands_touched : (e : EventWithLook) (es : List EventWithLook) (b : Bool) (flags : List Bool) (n i q : ℕ) → event_with_look_touches_node e n ≡ true → Stands es flags n (suc i) q → Stands (e ∷ es) (b ∷ flags) n (suc (suc i)) (suc q)
unfolding Stands
stands_touched e es b flags n i q t h = ap is_some (place-touched e es n i t) ∙ some-shift (position_of_step es n (suc i)) ∙ h

stands_other : (e : EventWithLook) (es : List EventWithLook) (b : Bool) (flags : List Bool) (n i q : ℕ) → event_with_look_touches_node e n ≡ false → Stands es flags n (suc i) q → Stands (e ∷ es) (b ∷ flags) n (suc i) (suc q)
unfolding Stands
stands_other e es b flags n i q f h = ap is_some (place-other e es n i f) ∙ some-shift (position_of_step es n (suc i)) ∙ h

stands_dropped : (now : List EventWithLook) (b : Bool) (flags : List Bool) (n k q : ℕ) → Stands now flags n k q → Stands now (b ∷ flags) n k (suc q)
unfolding Stands
stands_dropped now b flags n k q h = h

-- what a step of the list without its first event is, or the first itself
pub data FoundAt (e : EventWithLook) (es : List EventWithLook) (n : ℕ) : ℕ → ℕ → Type 0 where
  at_first : event_with_look_touches_node e n ≡ true → FoundAt e es n 1 0
  after_touched : {i q : ℕ} → event_with_look_touches_node e n ≡ true → position_of_step es n (suc i) ≡ Some q → FoundAt e es n (suc (suc i)) (suc q)
  after_other : {i q : ℕ} → event_with_look_touches_node e n ≡ false → position_of_step es n (suc i) ≡ Some q → FoundAt e es n (suc i) (suc q)

found_at : (e : EventWithLook) (es : List EventWithLook) (n k q : ℕ) → position_of_step (e ∷ es) n k ≡ Some q → FoundAt e es n k q
found_at e es n zero q h = absurd (cc)
found_at e es n (suc zero) q h = ⊎_elim
    (λ t. subst (λ z. FoundAt e es n 1 z) (same_Some 0 q (sym (place-first e es n t) ∙ h)) (at_first t))
    (λ f. let s = shifted_of (position_of_step es n 1) q (sym (place-other e es n 0 f) ∙ h) in subst (λ z. FoundAt e es n 1 z) (sym s.shift) (after_other f s.is))
    (cases_Bool (event_with_look_touches_node e n))
found_at e es n (suc (suc i)) q h = ⊎_elim
    (λ t. let s = shifted_of (position_of_step es n (suc i)) q (sym (place-touched e es n i t) ∙ h) in subst (λ z. FoundAt e es n (suc (suc i)) z) (sym s.shift) (after_touched t s.is))
    (λ f. let s = shifted_of (position_of_step es n (suc (suc i))) q (sym (place-other e es n (suc i) f) ∙ h) in subst (λ z. FoundAt e es n (suc (suc i)) z) (sym s.shift) (after_other f s.is))
    (cases_Bool (event_with_look_touches_node e n))

joined : (ℕ → Bool) → EventWithLook → ℕ → Bool
joined marks e n = marks n || event_with_look_touches_node e n

flag_of : (marks : ℕ → Bool) (es : List EventWithLook) (n k q : ℕ) → marks n ≡ true → position_of_step es n k ≡ Some q → slice_index_or (dependent_flags_from_marks marks es) q false ≡ true
flag_of marks es n k q m h = let r = count_touching_events es n k q h in flag_marked marks es q r.0 (touched-marked_nodes marks (event_at es q) n m r.1)

after_drop : (marks : ℕ → Bool) (e : EventWithLook) (es : List EventWithLook) → observes_marked_node marks e ≡ true → kept marks (e ∷ es) ≡ kept (marked_nodes_after_event marks e) es
after_drop marks e es m = kept-dropped marks e es m ∙ ap (λ z. kept z es) (sym (cond-true (observes_marked_node marks e) (λ n. marks n || event_with_look_touches_node e n) marks m))

after_keep : (marks : ℕ → Bool) (e : EventWithLook) (es : List EventWithLook) → observes_marked_node marks e ≡ false → kept marks (e ∷ es) ≡ e ∷ kept (marked_nodes_after_event marks e) es
after_keep marks e es f = kept-kept marks e es f ∙ ap (λ z. e ∷ kept z es) (sym (cond-false (observes_marked_node marks e) (λ n. marks n || event_with_look_touches_node e n) marks f))

kept_stands : (marks : ℕ → Bool) (es : List EventWithLook) (n k q : ℕ) → position_of_step es n k ≡ Some q → Stands (kept marks es) (dependent_flags_from_marks marks es) n k q
kept_stands marks [] n k q h = absurd (cc)
kept_stands marks (e ∷ es) n k q h = go k q (found_at e es n k q h) (λ j p. kept_stands (marked_nodes_after_event marks e) es n j p)
  where
    go : (j p : ℕ) → FoundAt e es n j p → ((i r : ℕ) → position_of_step es n i ≡ Some r → Stands (kept (marked_nodes_after_event marks e) es) (dependent_flags_from_marks (marked_nodes_after_event marks e) es) n i r) → Stands (kept marks (e ∷ es)) (dependent_flags_from_marks marks (e ∷ es)) n j p
    go j p (at_first t) ih = ⊎_elim
        (λ m. stands_none (kept marks (e ∷ es)) (dependent_flags_from_marks marks (e ∷ es)) n 1 0 (ap (λ z. position_of_step z n 1) (after_drop marks e es m) ∙ no_place_kept (marked_nodes_after_event marks e) es n 1 (marked_nodes_after_event-touched marks e n m t)) m)
        (λ f. subst (λ z. Stands z (dependent_flags_from_marks marks (e ∷ es)) n 1 0) (sym (after_keep marks e es f)) (stands_first e (kept (marked_nodes_after_event marks e) es) (dependent_flags_from_marks marks (e ∷ es)) n t f))
        (cases_Bool (observes_marked_node marks e))
    go j p (after_touched {i} {q = r} t w) ih = ⊎_elim
        (λ m. stands_none (kept marks (e ∷ es)) (dependent_flags_from_marks marks (e ∷ es)) n (suc (suc i)) (suc r) (ap (λ z. position_of_step z n (suc (suc i))) (after_drop marks e es m) ∙ no_place_kept (marked_nodes_after_event marks e) es n (suc (suc i)) (marked_nodes_after_event-touched marks e n m t)) (flag_of (marked_nodes_after_event marks e) es n (suc i) r (marked_nodes_after_event-touched marks e n m t) w))
        (λ f. subst (λ z. Stands z (dependent_flags_from_marks marks (e ∷ es)) n (suc (suc i)) (suc r)) (sym (after_keep marks e es f)) (stands_touched e (kept (marked_nodes_after_event marks e) es) (observes_marked_node marks e) (dependent_flags_from_marks (marked_nodes_after_event marks e) es) n i r t (ih (suc i) r w)))
        (cases_Bool (observes_marked_node marks e))
    go j p (after_other {i} {q = r} o w) ih = ⊎_elim
        (λ m. subst (λ z. Stands z (dependent_flags_from_marks marks (e ∷ es)) n (suc i) (suc r)) (sym (after_drop marks e es m)) (stands_dropped (kept (marked_nodes_after_event marks e) es) (observes_marked_node marks e) (dependent_flags_from_marks (marked_nodes_after_event marks e) es) n (suc i) r (ih (suc i) r w)))
        (λ f. subst (λ z. Stands z (dependent_flags_from_marks marks (e ∷ es)) n (suc i) (suc r)) (sym (after_keep marks e es f)) (stands_other e (kept (marked_nodes_after_event marks e) es) (observes_marked_node marks e) (dependent_flags_from_marks (marked_nodes_after_event marks e) es) n i r o (ih (suc i) r w)))
        (cases_Bool (observes_marked_node marks e))

rest_stands : (es : List EventWithLook) (i n k q : ℕ) → position_of_step es n k ≡ Some q → Stands (rest es i) (dependent_flags es i) n k q
rest_stands [] i n k q h = absurd (cc)
rest_stands (e ∷ es) zero n k q h = go k q (found_at e es n k q h)
  where
    go : (j p : ℕ) → FoundAt e es n j p → Stands (kept (event_with_look_touches_node e) es) (true ∷ dependent_flags_from_marks (event_with_look_touches_node e) es) n j p
    go j p (at_first t) = stands_none (kept (event_with_look_touches_node e) es) (true ∷ dependent_flags_from_marks (event_with_look_touches_node e) es) n 1 0 (no_place_kept (event_with_look_touches_node e) es n 1 t) refl
    go j p (after_touched {i} {q = r} t w) = stands_none (kept (event_with_look_touches_node e) es) (true ∷ dependent_flags_from_marks (event_with_look_touches_node e) es) n (suc (suc i)) (suc r) (no_place_kept (event_with_look_touches_node e) es n (suc (suc i)) t) (flag_of (event_with_look_touches_node e) es n (suc i) r t w)
    go j p (after_other {i} {q = r} o w) = stands_dropped (kept (event_with_look_touches_node e) es) true (dependent_flags_from_marks (event_with_look_touches_node e) es) n (suc i) r (kept_stands (event_with_look_touches_node e) es n (suc i) r w)
rest_stands (e ∷ es) (suc i) n k q h = go k q (found_at e es n k q h) (λ j p. rest_stands es i n j p)
  where
    go : (j p : ℕ) → FoundAt e es n j p → ((j p : ℕ) → position_of_step es n j ≡ Some p → Stands (rest es i) (dependent_flags es i) n j p) → Stands (e ∷ rest es i) (false ∷ dependent_flags es i) n j p
    go j p (at_first t) ih = stands_first e (rest es i) (false ∷ dependent_flags es i) n t refl
    go j p (after_touched {i = a} {q = r} t w) ih = stands_touched e (rest es i) false (dependent_flags es i) n a r t (ih (suc a) r w)
    go j p (after_other {i = a} {q = r} o w) ih = stands_other e (rest es i) false (dependent_flags es i) n a r o (ih (suc a) r w)

not_of : (b c : Bool) → c ≡ not b → ((c ≡ false) → (b ≡ true)) × ((b ≡ true) → (c ≡ false))
not_of b c e = ((λ h. not-false b (sym e ∙ h)), (λ h. e ∙ ap not h))

-- a step no longer exists after the rollback exactly if its event depends on the removed one
pub refused_exactly : (events : List EventWithLook) (n k m j i q : ℕ) → position_of_step events n k ≡ Some i → position_of_step events m j ≡ Some q → IsNone (position_of_step (rest events i) m j) ↔ DependsOn events i q
unfolding Stands
refused_exactly es n k m j i q h g =
    let u : i < length es = (count_touching_events es n k i h).0 in
    let v : q < length es = (count_touching_events es m j q g).0 in
    let w : is_some (position_of_step (rest es i) m j) ≡ not (slice_index_or (dependent_flags es i) q false) = rest_stands es i m j q g in
    let z = not_of (slice_index_or (dependent_flags es i) q false) (is_some (position_of_step (rest es i) m j)) w in
    ((λ x. DependsOn_from_flag es i q v (z.0 x)), (λ x. z.1 (flag_from_DependsOn es i q u x)))
