-- The events that a rollback removes can be moved to the end, if no look is among them.
use Rattle.std.proofs.Common.{◌≡◌, ℕ, ◌+◌, ◌↔◌, false, List, [], ◌∷◌, ◌++◌, map, Some, refl, sym, ◌∙◌, ap, subst, inl, inr, append-nil, IsPermutation, zero, suc, ◌==◌, Bool, true, not, cond, eqb-true}
use Rattle.std.proofs.lemmas.List.Sorted.{IsPermutation-map, IsPermutation-sym}
use Rattle.ga_event.specs.declared.event.Event.{Event}
use Rattle.ga_event.specs.declared.event.Event.TheVariants.{Own, Pass}
use Rattle.ga_event.specs.declared.event.EventWithLook.{EventWithLook}
use Rattle.ga_event.specs.Touches.{looked_at_nodes, nodes_observed_by_event, observes_marked_node}
use Rattle.ga_event.specs.Apply.{MadeEventOutcome, run_events}
use Rattle.ga_node.specs.Record.{NodeRecord}
use Rattle.ga_causal.specs.Dependence.{touched_nodes, HasNoLooks, event_with_look_touches_node, marked_nodes_after_event, dependent_flags_from_marks, dependent_flags, unflagged_elements, rest}
use Rattle.ga_causal.specs.Equivalence.{AreEquivalentLists, event_observes_node, AreIndependentEvents}
use Rattle.ga_causal.specs.Steps.{step_counts_after_event, events_numbered_by_nodes, numbered_events, numbered_events_with_seen_steps}
use Rattle.ga_causal.proofs.Runs.{causes}
use Rattle.ga_causal.proofs.Equivalences.{In, IsSwapOf, stays, flipped, after, chained, sees_touched}
use Rattle.ga_causal.proofs.Consistent.{in_moved, same_events, made_of, made_shuffled}
use Rattle.std.specs.List.{list_any}
use Rattle.std.proofs.lemmas.Bool.{both_ways}
use Rattle.ga_event.specs.Told.{events_of_causes}
use Rattle.ga_causal.proofs.Exact.{any-mono}
use Rattle.ga_causal.proofs.LocalHistories.{marked_nodes_after_event-touched, marked_nodes_after_event-stays}

-- ---- lists without looks

pub seen_blind : (e : EventWithLook) → e.look ≡ false → nodes_observed_by_event e ≡ touched_nodes e
unfolding nodes_observed_by_event
seen_blind e h = ap (λ z. touched_nodes e ++ z) (ap (looked_at_nodes e.event) h ∙ none e.event) ∙ append-nil (touched_nodes e)
  where
    none : (e : Event) → looked_at_nodes e false ≡ []
    none (Own node) = refl
    none (Pass w r side) = refl

numbered_blind : (s : ℕ → ℕ) (es : List EventWithLook) → HasNoLooks es → events_numbered_by_nodes nodes_observed_by_event s es ≡ events_numbered_by_nodes touched_nodes s es
numbered_blind s [] h = refl
numbered_blind s (e ∷ es) h =
    ap (λ z. (e, map (λ n. s n + 1) z) ∷ events_numbered_by_nodes nodes_observed_by_event (step_counts_after_event s e) es) (seen_blind e h.0)
    ∙ ap (λ z. (e, map (λ n. s n + 1) (touched_nodes e)) ∷ z) (numbered_blind (step_counts_after_event s e) es h.1)

causes_numbered : (nodes : EventWithLook → List ℕ) (s : ℕ → ℕ) (es : List EventWithLook) → map (λ x. x.0) (events_numbered_by_nodes nodes s es) ≡ es
causes_numbered nodes s [] = refl
causes_numbered nodes s (e ∷ es) = ap (λ z. e ∷ z) (causes_numbered nodes (step_counts_after_event s e) es)

none_of : (xs : List EventWithLook) (x : EventWithLook) → HasNoLooks xs → In x xs → x.look ≡ false
none_of [] x h i = absurd i
none_of (y ∷ ys) x h (inl q) = subst (λ z. z.look ≡ false) q h.0
none_of (y ∷ ys) x h (inr i) = none_of ys x h.1 i

none_from : (ys : List EventWithLook) → ((x : EventWithLook) → In x ys → x.look ≡ false) → HasNoLooks ys
none_from [] h = tt
none_from (y ∷ ys) h = (h y (inl refl), none_from ys (λ x i. h x (inr i)))

-- the same numbered events, so none of them looks in either list
none_moved : (nodes : EventWithLook → List ℕ) (xs ys : List EventWithLook) → IsPermutation (events_numbered_by_nodes nodes (λ n. 0) xs) (events_numbered_by_nodes nodes (λ n. 0) ys) → HasNoLooks xs → HasNoLooks ys
none_moved nodes xs ys h none =
    let p : IsPermutation xs ys =
    subst (λ z. IsPermutation z ys) (causes_numbered nodes (λ n. 0) xs)
    (subst (λ z. IsPermutation (map (λ (x : EventWithLook × List ℕ). x.0) (events_numbered_by_nodes nodes (λ n. 0) xs)) z) (causes_numbered nodes (λ n. 0) ys)
    (IsPermutation-map (λ (x : EventWithLook × List ℕ). x.0) (events_numbered_by_nodes nodes (λ n. 0) xs) (events_numbered_by_nodes nodes (λ n. 0) ys) h)) in
    none_from ys (λ x i. none_of xs x none (in_moved ys xs x (IsPermutation-sym xs ys p) i))

-- the same steps
pub same_steps : (c last now : List NodeRecord) (es fs : List Event) (ts us : List (EventWithLook × MadeEventOutcome)) → run_events c es ≡ Some (last, ts) → run_events c fs ≡ Some (now, us) → HasNoLooks (causes ts) → AreEquivalentLists c es fs ↔ IsPermutation (numbered_events (causes ts)) (numbered_events (causes us))
same_steps c last now es fs ts us is so none = (to, from)
  where
    both : AreEquivalentLists c es fs ↔ IsPermutation (numbered_events_with_seen_steps (causes ts)) (numbered_events_with_seen_steps (causes us))
    both = same_events c last now es fs ts us is so

    to : AreEquivalentLists c es fs → IsPermutation (numbered_events (causes ts)) (numbered_events (causes us))
    to h =
        let p = both.0 h in
        subst (λ z. IsPermutation z (numbered_events (causes us))) (numbered_blind (λ n. 0) (causes ts) none)
        (subst (λ z. IsPermutation (numbered_events_with_seen_steps (causes ts)) z) (numbered_blind (λ n. 0) (causes us) (none_moved nodes_observed_by_event (causes ts) (causes us) p none)) p)

    from : IsPermutation (numbered_events (causes ts)) (numbered_events (causes us)) → AreEquivalentLists c es fs
    from p =
        both.1
        (subst (λ z. IsPermutation z (numbered_events_with_seen_steps (causes us))) (sym (numbered_blind (λ n. 0) (causes ts) none))
        (subst (λ z. IsPermutation (numbered_events (causes ts)) z) (sym (numbered_blind (λ n. 0) (causes us) (none_moved touched_nodes (causes ts) (causes us) p none))) p))

-- the flagged elements
abbrev taken : {A : Type 0} → List Bool → List A → List A
taken flags xs = unflagged_elements (map not flags) xs

abbrev AllApart : EventWithLook → List EventWithLook → Type 0
AllApart e [] = Unit {0}
AllApart e (k ∷ ks) = AreIndependentEvents e k × AllApart e ks

-- an event moves past events that are independent of it
behind : (e : EventWithLook) (ks ls : List EventWithLook) → AllApart e ks → IsSwapOf (e ∷ (ks ++ ls)) (ks ++ e ∷ ls)
behind e [] ls h = stays
behind e (k ∷ ks) ls h = chained (flipped h.0) (after (behind e ks ls h.1))

sees-marked_nodes : (marks : ℕ → Bool) (k : EventWithLook) (n : ℕ) → marks n ≡ true → event_observes_node k n ≡ true → observes_marked_node marks k ≡ true
sees-marked_nodes marks k n h t = any-mono (λ m. m == n) marks (λ m q. subst (λ z. marks z ≡ true) (sym (eqb-true m n q)) h) (nodes_observed_by_event k) t

one_apart : (e k : EventWithLook) (marks : ℕ → Bool) → ((n : ℕ) → event_with_look_touches_node e n ≡ true → marks n ≡ true) → e.look ≡ false → observes_marked_node marks k ≡ false → AreIndependentEvents e k
one_apart e k marks h blind free = record {
  first = λ n t seen. both_ways (observes_marked_node marks k) free (sees-marked_nodes marks k n (h n t) seen);
  second = λ n t seen. both_ways (observes_marked_node marks k) free (sees-marked_nodes marks k n (h n (subst (λ z. list_any (λ m. m == n) z ≡ true) (seen_blind e blind) seen)) (sees_touched k n t));
}

left_apart : (e : EventWithLook) (marks : ℕ → Bool) (es : List EventWithLook) → ((n : ℕ) → event_with_look_touches_node e n ≡ true → marks n ≡ true) → e.look ≡ false → AllApart e (unflagged_elements (dependent_flags_from_marks marks es) es)
left_apart e marks [] h blind = tt
left_apart e marks (k ∷ es) h blind =
    go (observes_marked_node marks k) (λ f. one_apart e k marks h blind f) (left_apart e (marked_nodes_after_event marks k) es (λ n t. marked_nodes_after_event-stays marks k n (h n t)) blind)
  where
    go : (b : Bool) → (b ≡ false → AreIndependentEvents e k) → AllApart e (unflagged_elements (dependent_flags_from_marks (marked_nodes_after_event marks k) es) es) → AllApart e (cond b (unflagged_elements (dependent_flags_from_marks (marked_nodes_after_event marks k) es) es) (k ∷ unflagged_elements (dependent_flags_from_marks (marked_nodes_after_event marks k) es) es))
    go true one ih = ih
    go false one ih = (one refl, ih)

-- one event more
parted : (b : Bool) (e : EventWithLook) (es ks ls : List EventWithLook) → (b ≡ true → e.look ≡ false → AllApart e ks) → HasNoLooks (cond (not b) ls (e ∷ ls)) → (HasNoLooks ls → IsSwapOf es (ks ++ ls)) → IsSwapOf (e ∷ es) (cond b ks (e ∷ ks) ++ cond (not b) ls (e ∷ ls))
parted true e es ks ls h none ih = chained (after (ih none.1)) (behind e ks ls (h refl none.0))
parted false e es ks ls h none ih = after (ih none)

parted_after : (marks : ℕ → Bool) (es : List EventWithLook) → HasNoLooks (taken (dependent_flags_from_marks marks es) es) → IsSwapOf es (unflagged_elements (dependent_flags_from_marks marks es) es ++ taken (dependent_flags_from_marks marks es) es)
parted_after marks [] none = stays
parted_after marks (e ∷ es) none =
    parted (observes_marked_node marks e) e es (unflagged_elements (dependent_flags_from_marks (marked_nodes_after_event marks e) es) es) (taken (dependent_flags_from_marks (marked_nodes_after_event marks e) es) es)
    (λ t blind. left_apart e (marked_nodes_after_event marks e) es (λ n u. marked_nodes_after_event-touched marks e n t u) blind)
    none (λ k. parted_after (marked_nodes_after_event marks e) es k)

parted_rest : (es : List EventWithLook) (i : ℕ) → HasNoLooks (taken (dependent_flags es i) es) → IsSwapOf es (rest es i ++ taken (dependent_flags es i) es)
parted_rest [] i none = stays
parted_rest (e ∷ es) zero none =
    parted true e es (unflagged_elements (dependent_flags_from_marks (event_with_look_touches_node e) es) es) (taken (dependent_flags_from_marks (event_with_look_touches_node e) es) es)
    (λ t blind. left_apart e (event_with_look_touches_node e) es (λ n u. u) blind)
    none (λ k. parted_after (event_with_look_touches_node e) es k)
parted_rest (e ∷ es) (suc i) none = after (parted_rest es i none)

pub removed_events_swap_to_end : (chip last : List NodeRecord) (events : List Event) (steps : List (EventWithLook × MadeEventOutcome)) (i : ℕ) → run_events chip events ≡ Some (last, steps)
    → HasNoLooks (taken (dependent_flags (causes steps) i) (causes steps)) → AreEquivalentLists chip events (events_of_causes (rest (causes steps) i ++ taken (dependent_flags (causes steps) i) (causes steps)))
removed_events_swap_to_end chip last events steps i is none =
    let m = made_of chip last events steps is in
    subst (λ z. AreEquivalentLists chip z (events_of_causes (rest (causes steps) i ++ taken (dependent_flags (causes steps) i) (causes steps)))) m.1
    ((made_shuffled chip (causes steps) (rest (causes steps) i ++ taken (dependent_flags (causes steps) i) (causes steps)) (parted_rest (causes steps) i none) m.0).0)
