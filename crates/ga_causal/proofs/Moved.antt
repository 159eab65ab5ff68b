-- Where the events of a list are in one that differs by swaps of adjacent independent events, and its chains there.
use Rattle.std.proofs.Common.{◌≡◌, ℕ, zero, suc, ◌<◌, ◌≢◌, List, [], ◌∷◌, length, map, Some, refl, sym, ◌∙◌, ap, ap₂, arith, ◌+◌, Bool, true, false, ◌||◌, cond, Option, None, subst, ⊎_elim}
use Rattle.std.specs.Prelude.{slice_index_or, is_some, nat_lt}
use Rattle.std.proofs.lemmas.Bool.{both_ways, cases_Bool, or_parts, cond-false}
use Rattle.ga_event.specs.declared.event.Event.{Event}
use Rattle.ga_event.specs.declared.event.EventWithLook.{EventWithLook}
use Rattle.ga_event.specs.Apply.{MadeEventOutcome, run_events}
use Rattle.ga_event.specs.Touches.{observes_marked_node}
use Rattle.ga_node.specs.Record.{NodeRecord}
use Rattle.ga_causal.specs.declared.chain.ChainLink.{ChainLink}
use Rattle.ga_causal.specs.Dependence.{event_with_look_touches_node, dependence_rule, event_at, dependence_rule_at, touched_nodes, dependent_flags, rest, position_of_step, remaining_events_or_all, events_after_rewind, events_after_rewinds}
use Rattle.ga_causal.specs.Chains.{IsNextChainLink, AreNextChainLinks, IsChain}
use Rattle.ga_causal.specs.Steps.{links_with_events, default_numbered_event, step_counts_after_event, count_touching_events}
use Rattle.ga_causal.specs.Equivalence.{AreIndependentEvents, AreEquivalentLists}
use Rattle.ga_causal.proofs.Exact.{rule_meets}
use Rattle.ga_causal.proofs.Runs.{causes, run_rest}
use Rattle.ga_causal.proofs.Equivalences.{IsSwapOf, stays, flipped, after, chained, independent_on_all, entries, entries_flipped, AreApart-sym, counted_both}
use Rattle.ga_causal.proofs.Consistent.{shuffled_by, Made, made_of, made_shuffled, causes_without, run_made}
use mathlib.Core.Path.{fun_ext}
use Rattle.std.specs.List.{list_any}
use Rattle.ga_event.specs.Told.{events_of_causes}
use Rattle.ga_event.proofs.Locality.{touched_free}
use Rattle.ga_causal.proofs.Rollbacks.{walk, walk-dropped, walk-kept, is_cut, single, nowhere, or-independent_events_swap, rewound_walk}
use Rattle.ga_causal.proofs.Places.{count_touching_events-cons, place-zero, place_stands}

-- the entry at a place
abbrev entry_at : (ℕ → ℕ) → List EventWithLook → ℕ → EventWithLook × List ℕ
entry_at s es i = slice_index_or (entries s es) i default_numbered_event

event_of_entry : (s : ℕ → ℕ) (es : List EventWithLook) (i : ℕ) → event_at es i ≡ (entry_at s es i).0
event_of_entry s [] i = refl
event_of_entry s (e ∷ es) zero = refl
event_of_entry s (e ∷ es) (suc i) = event_of_entry (step_counts_after_event s e) es i

-- each event of the one list is in the other with the same numbers, after those on which it depends directly
pub record Moved (s : ℕ → ℕ) (xs ys : List EventWithLook) : Type 0 where
  pub to : ℕ → ℕ
  pub within : (i : ℕ) → i < length xs → to i < length ys
  pub alike : (i : ℕ) → i < length xs → entry_at s xs i ≡ entry_at s ys (to i)
  pub order : (i j : ℕ) → i < j → j < length xs → dependence_rule_at xs i j ≢ 0 → to i < to j

same_event : (s : ℕ → ℕ) (xs ys : List EventWithLook) (m : Moved s xs ys) (i : ℕ) → i < length xs → event_at xs i ≡ event_at ys (m.to i)
same_event s xs ys m i l = event_of_entry s xs i ∙ ap (λ (z : EventWithLook × List ℕ). z.0) (m.alike i l) ∙ sym (event_of_entry s ys (m.to i))

same_rule : (s : ℕ → ℕ) (xs ys : List EventWithLook) (m : Moved s xs ys) (i j : ℕ) → i < length xs → j < length xs → dependence_rule_at xs i j ≡ dependence_rule_at ys (m.to i) (m.to j)
same_rule s xs ys m i j l k = ap₂ (λ (a b : EventWithLook). dependence_rule a b) (same_event s xs ys m i l) (same_event s xs ys m j k)

abbrev flip : ℕ → ℕ
flip zero = suc zero
flip (suc zero) = zero
flip (suc (suc i)) = suc (suc i)

abbrev lifted : (ℕ → ℕ) → ℕ → ℕ
lifted f zero = zero
lifted f (suc i) = suc (f i)

no_rule : (e f : EventWithLook) → AreIndependentEvents e f → dependence_rule e f ≢ 0 → ⊥
no_rule e f h r = both_ways (observes_marked_node (event_with_look_touches_node e) f) (independent_on_all e f h) (rule_meets e f r)

moved_flipped : (s : ℕ → ℕ) (e f : EventWithLook) (zs : List EventWithLook) → AreIndependentEvents e f → Moved s (e ∷ f ∷ zs) (f ∷ e ∷ zs)
moved_flipped s e f zs h = record { to = flip; within = within; alike = alike; order = order }
  where
    within : (i : ℕ) → i < length (e ∷ f ∷ zs) → flip i < length (f ∷ e ∷ zs)
    within zero l = let g : 1 < suc (suc (length zs)) = omega arith in g
    within (suc zero) l = let g : 0 < suc (suc (length zs)) = omega arith in g
    within (suc (suc i)) l = l

    alike : (i : ℕ) → i < length (e ∷ f ∷ zs) → entry_at s (e ∷ f ∷ zs) i ≡ entry_at s (f ∷ e ∷ zs) (flip i)
    alike zero l = ap (λ (z : List (EventWithLook × List ℕ)). slice_index_or z 1 default_numbered_event) (sym (entries_flipped s e f zs h))
    alike (suc zero) l = ap (λ (z : List (EventWithLook × List ℕ)). slice_index_or z 0 default_numbered_event) (sym (entries_flipped s e f zs h))
    alike (suc (suc i)) l = ap (λ (z : List (EventWithLook × List ℕ)). slice_index_or z (suc (suc i)) default_numbered_event) (sym (entries_flipped s e f zs h))

    order : (i j : ℕ) → i < j → j < length (e ∷ f ∷ zs) → dependence_rule_at (e ∷ f ∷ zs) i j ≢ 0 → flip i < flip j
    order zero zero l k r = absurd (omega (arith, l))
    order zero (suc zero) l k r = absurd (no_rule e f h r)
    order zero (suc (suc j)) l k r = let g : 1 < suc (suc j) = omega arith in g
    order (suc zero) zero l k r = absurd (omega (arith, l))
    order (suc zero) (suc zero) l k r = absurd (omega (arith, l))
    order (suc zero) (suc (suc j)) l k r = let g : 0 < suc (suc j) = omega arith in g
    order (suc (suc i)) zero l k r = absurd (omega (arith, l))
    order (suc (suc i)) (suc zero) l k r = absurd (omega (arith, l))
    order (suc (suc i)) (suc (suc j)) l k r = l

moved_after : (s : ℕ → ℕ) (e : EventWithLook) (us vs : List EventWithLook) → Moved (step_counts_after_event s e) us vs → Moved s (e ∷ us) (e ∷ vs)
moved_after s e us vs m = record { to = lifted m.to; within = within; alike = alike; order = order }
  where
    within : (i : ℕ) → i < length (e ∷ us) → lifted m.to i < length (e ∷ vs)
    within zero l = let g : 0 < suc (length vs) = omega arith in g
    within (suc i) l = let w : m.to i < length vs = m.within i (omega (arith, l)) in let g : suc (m.to i) < suc (length vs) = omega (arith, w) in g

    alike : (i : ℕ) → i < length (e ∷ us) → entry_at s (e ∷ us) i ≡ entry_at s (e ∷ vs) (lifted m.to i)
    alike zero l = refl
    alike (suc i) l = m.alike i (omega (arith, l))

    order : (i j : ℕ) → i < j → j < length (e ∷ us) → dependence_rule_at (e ∷ us) i j ≢ 0 → lifted m.to i < lifted m.to j
    order zero zero l k r = absurd (omega (arith, l))
    order zero (suc j) l k r = let g : 0 < suc (m.to j) = omega arith in g
    order (suc i) zero l k r = absurd (omega (arith, l))
    order (suc i) (suc j) l k r = let w : m.to i < m.to j = m.order i j (omega (arith, l)) (omega (arith, k)) r in let g : suc (m.to i) < suc (m.to j) = omega (arith, w) in g

moved_chained : (s : ℕ → ℕ) (xs ys zs : List EventWithLook) → Moved s xs zs → Moved s zs ys → Moved s xs ys
moved_chained s xs ys zs a b = record {
  to = λ i. b.to (a.to i);
  within = λ i l. b.within (a.to i) (a.within i l);
  alike = λ i l. a.alike i l ∙ b.alike (a.to i) (a.within i l);
  order = λ i j l k r. b.order (a.to i) (a.to j) (a.order i j l k r) (a.within j k)
      (λ q. r (same_rule s xs zs a i j (let w : i < length xs = omega (arith, l, k) in w) k ∙ q));
}

pub moved_of : (s : ℕ → ℕ) (xs ys : List EventWithLook) → IsSwapOf xs ys → Moved s xs ys
moved_of s xs ys stays = record { to = λ i. i; within = λ i l. l; alike = λ i l. refl; order = λ i j l k r. l }
moved_of s xs ys (flipped {e} {f} {xs = zs} h) = moved_flipped s e f zs h
moved_of s xs ys (after {e} {xs = us} {ys = vs} h) = moved_after s e us vs (moved_of (step_counts_after_event s e) us vs h)
moved_of s xs ys (chained {ys = zs} h k) = moved_chained s xs ys zs (moved_of s xs zs h) (moved_of s zs ys k)

-- Chains.

abbrev there : (ℕ → ℕ) → List ChainLink → List ChainLink
there to links = map (λ (link : ChainLink). record { place = to link.place; rule = link.rule }) links

next_moved : (s : ℕ → ℕ) (xs ys : List EventWithLook) (m : Moved s xs ys) (before : ℕ) (link : ChainLink) → IsNextChainLink xs before link → IsNextChainLink ys (m.to before) (record { place = m.to link.place; rule = link.rule })
next_moved s xs ys m before link h =
    let d = h.0 in
    let l : before < length xs = (let a : before < link.place = d.before in let b : link.place < length xs = d.within in omega (arith, a, b)) in
    let q = same_rule s xs ys m before link.place l d.within in
    (record { before = m.order before link.place d.before d.within d.by_rule; within = m.within link.place d.within; by_rule = λ z. d.by_rule (q ∙ z) }, h.1 ∙ q)

linked_moved : (s : ℕ → ℕ) (xs ys : List EventWithLook) (m : Moved s xs ys) (before : ℕ) (links : List ChainLink) → AreNextChainLinks xs before links → AreNextChainLinks ys (m.to before) (there m.to links)
linked_moved s xs ys m before [] h = tt
linked_moved s xs ys m before (link ∷ links) h = (next_moved s xs ys m before link h.0, linked_moved s xs ys m link.place links h.1)

linked_named : (xs ys : List EventWithLook) (m : Moved (λ n. 0) xs ys) (before : ℕ) (links : List ChainLink) → AreNextChainLinks xs before links → links_with_events xs links ≡ links_with_events ys (there m.to links)
linked_named xs ys m before [] h = refl
linked_named xs ys m before (link ∷ links) h =
    ap₂ (λ (a : EventWithLook × List ℕ) (b : List ((EventWithLook × List ℕ) × ℕ)). (a, link.rule) ∷ b) (m.alike link.place h.0.0.within) (linked_named xs ys m link.place links h.1)

-- a chain of the one list is one of the other, of the same steps
abbrev pub Again : List EventWithLook → List EventWithLook → List ChainLink → Type 0
Again xs ys links = (chain : List ChainLink) × IsChain ys chain × (links_with_events xs links ≡ links_with_events ys chain)

pub chain_again : (xs ys : List EventWithLook) (links : List ChainLink) → IsSwapOf xs ys → IsChain xs links → Again xs ys links
chain_again xs ys [] h c = absurd c
chain_again xs ys (link ∷ links) h c =
    let m = moved_of (λ n. 0) xs ys h in (
      there m.to (link ∷ links),
      (m.within link.place c.0, c.1, linked_moved (λ n. 0) xs ys m link.place links c.2),
      ap₂ (λ (a : EventWithLook × List ℕ) (b : List ((EventWithLook × List ℕ) × ℕ)). (a, link.rule) ∷ b) (m.alike link.place c.0) (linked_named xs ys m link.place links c.2),
    )

pub equivalence_preserves_chains : (c last now : List NodeRecord) (es fs : List Event) (ts us : List (EventWithLook × MadeEventOutcome)) (links : List ChainLink) → run_events c es ≡ Some (last, ts) → run_events c fs ≡ Some (now, us) → AreEquivalentLists c es fs
    → IsChain (causes ts) links → Again (causes ts) (causes us) links
equivalence_preserves_chains c last now es fs ts us links is so h k =
    chain_again (causes ts) (causes us) links (shuffled_by c last now es fs ts us is so h) k

-- ---- Rollbacks of lists that differ by swaps of adjacent independent events.

any_joined : (m k : ℕ → Bool) (ns : List ℕ) → list_any k ns ≡ false → list_any (λ n. m n || k n) ns ≡ list_any m ns
any_joined m k [] f = refl
any_joined m k (n ∷ ns) f =
    let p : (k n ≡ false) × (list_any k ns ≡ false) = or_parts (k n) (list_any k ns) f in
    ap (λ z. (m n || z) || list_any (λ i. m i || k i) ns) p.0 ∙ ap (λ z. z || list_any (λ i. m i || k i) ns) (or_false (m n)) ∙ ap (λ z. m n || z) (any_joined m k ns p.1)
  where
    or_false : (b : Bool) → (b || false) ≡ b
    or_false true = refl
    or_false false = refl

-- an event is dropped, or kept, whether one that is independent of it comes before it or not
is_dropped : (ℕ → Bool) → (ℕ → ℕ) → (ℕ → ℕ → Bool) → EventWithLook → Bool
is_dropped m c cut e = observes_marked_node m e || is_cut c cut e

same_cut : (c d : ℕ → ℕ) (cut : ℕ → ℕ → Bool) (marks : ℕ → Bool) (ns : List ℕ) → ((n : ℕ) → marks n ≡ false → d n ≡ c n) → list_any marks ns ≡ false → list_any (λ n. cut n (d n + 1)) ns ≡ list_any (λ n. cut n (c n + 1)) ns
same_cut c d cut marks [] h f = refl
same_cut c d cut marks (n ∷ ns) h f =
    let p : (marks n ≡ false) × (list_any marks ns ≡ false) = or_parts (marks n) (list_any marks ns) f in
    ap (λ (z : ℕ). cut n (z + 1) || list_any (λ i. cut i (d i + 1)) ns) (h n p.0) ∙ ap (λ z. cut n (c n + 1) || z) (same_cut c d cut marks ns h p.1)

dropped_marked : (m : ℕ → Bool) (c : ℕ → ℕ) (cut : ℕ → ℕ → Bool) (e f : EventWithLook) → observes_marked_node (event_with_look_touches_node e) f ≡ false → is_dropped (λ n. m n || event_with_look_touches_node e n) c cut f ≡ is_dropped m c cut f
unfolding is_dropped
dropped_marked m c cut e f free = ap (λ z. z || is_cut c cut f) (any_joined m (event_with_look_touches_node e) _ free)

dropped_counted : (m : ℕ → Bool) (c : ℕ → ℕ) (cut : ℕ → ℕ → Bool) (e f : EventWithLook) → observes_marked_node (event_with_look_touches_node e) f ≡ false → is_dropped m (step_counts_after_event c e) cut f ≡ is_dropped m c cut f
unfolding is_dropped
dropped_counted m c cut e f free =
    ap (λ z. observes_marked_node m f || z) (same_cut c (step_counts_after_event c e) cut (event_with_look_touches_node e) (touched_nodes f) (λ n g. cond-false (event_with_look_touches_node e n) (c n + 1) (c n) g) (touched_free (event_with_look_touches_node e) f free))

dropped_is : (m : ℕ → Bool) (c : ℕ → ℕ) (cut : ℕ → ℕ → Bool) (e : EventWithLook) (es : List EventWithLook) → is_dropped m c cut e ≡ true → walk m c cut (e ∷ es) ≡ walk (λ n. m n || event_with_look_touches_node e n) c cut es
unfolding is_dropped
dropped_is m c cut e es t = walk-dropped m c cut e es t

kept_is : (m : ℕ → Bool) (c : ℕ → ℕ) (cut : ℕ → ℕ → Bool) (e : EventWithLook) (es : List EventWithLook) → is_dropped m c cut e ≡ false → walk m c cut (e ∷ es) ≡ e ∷ walk m (step_counts_after_event c e) cut es
unfolding is_dropped
kept_is m c cut e es f = walk-kept m c cut e es f

by_paths : (xs ys us vs : List EventWithLook) → xs ≡ us → ys ≡ vs → IsSwapOf us vs → IsSwapOf xs ys
by_paths xs ys us vs p q h = subst (λ z. IsSwapOf z ys) (sym p) (subst (λ z. IsSwapOf us z) (sym q) h)

walk_flipped : (m : ℕ → Bool) (c : ℕ → ℕ) (cut : ℕ → ℕ → Bool) (e f : EventWithLook) (zs : List EventWithLook) → AreIndependentEvents e f → IsSwapOf (walk m c cut (e ∷ f ∷ zs)) (walk m c cut (f ∷ e ∷ zs))
walk_flipped m c cut e f zs h = ⊎_elim
    (λ t. ⊎_elim
    (λ u. by_paths _ _ _ _ (dropped_is m c cut e (f ∷ zs) t ∙ dropped_is (λ n. m n || event_with_look_touches_node e n) c cut f zs (dropped_marked m c cut e f ef ∙ u) ∙ ap (λ z. walk z c cut zs) (fun_ext (λ n. or-independent_events_swap (m n) (event_with_look_touches_node e n) (event_with_look_touches_node f n))))
    (dropped_is m c cut f (e ∷ zs) u ∙ dropped_is (λ n. m n || event_with_look_touches_node f n) c cut e zs (dropped_marked m c cut f e fe ∙ t)) stays)
    (λ v. by_paths _ _ _ _ (dropped_is m c cut e (f ∷ zs) t ∙ kept_is (λ n. m n || event_with_look_touches_node e n) c cut f zs (dropped_marked m c cut e f ef ∙ v))
    (kept_is m c cut f (e ∷ zs) v ∙ ap (λ z. f ∷ z) (dropped_is m (step_counts_after_event c f) cut e zs (dropped_counted m c cut f e fe ∙ t))) stays)
    (cases_Bool (is_dropped m c cut f)))
    (λ s. ⊎_elim
    (λ u. by_paths _ _ _ _ (kept_is m c cut e (f ∷ zs) s ∙ ap (λ z. e ∷ z) (dropped_is m (step_counts_after_event c e) cut f zs (dropped_counted m c cut e f ef ∙ u)))
    (dropped_is m c cut f (e ∷ zs) u ∙ kept_is (λ n. m n || event_with_look_touches_node f n) c cut e zs (dropped_marked m c cut f e fe ∙ s)) stays)
    (λ v. by_paths _ _ _ _ (kept_is m c cut e (f ∷ zs) s ∙ ap (λ z. e ∷ z) (kept_is m (step_counts_after_event c e) cut f zs (dropped_counted m c cut e f ef ∙ v)))
    (kept_is m c cut f (e ∷ zs) v ∙ ap (λ z. f ∷ z) (kept_is m (step_counts_after_event c f) cut e zs (dropped_counted m c cut f e fe ∙ s)) ∙ ap (λ z. f ∷ e ∷ walk m z cut zs) (sym (counted_both c e f))) (flipped h))
    (cases_Bool (is_dropped m c cut f)))
    (cases_Bool (is_dropped m c cut e))
  where
    ef : observes_marked_node (event_with_look_touches_node e) f ≡ false
    ef = independent_on_all e f h

    fe : observes_marked_node (event_with_look_touches_node f) e ≡ false
    fe = independent_on_all f e (AreApart-sym e f h)

walk_shuffled : (m : ℕ → Bool) (c : ℕ → ℕ) (cut : ℕ → ℕ → Bool) (xs ys : List EventWithLook) → IsSwapOf xs ys → IsSwapOf (walk m c cut xs) (walk m c cut ys)
walk_shuffled m c cut xs ys stays = stays
walk_shuffled m c cut xs ys (flipped {e} {f} {xs = zs} h) = walk_flipped m c cut e f zs h
walk_shuffled m c cut xs ys (after {e} {xs = us} {ys = vs} h) = ⊎_elim
    (λ t. by_paths _ _ _ _ (dropped_is m c cut e us t) (dropped_is m c cut e vs t) (walk_shuffled (λ n. m n || event_with_look_touches_node e n) c cut us vs h))
    (λ f. by_paths _ _ _ _ (kept_is m c cut e us f) (kept_is m c cut e vs f) (after (walk_shuffled m (step_counts_after_event c e) cut us vs h)))
    (cases_Bool (is_dropped m c cut e))
walk_shuffled m c cut xs ys (chained {ys = zs} h k) = chained (walk_shuffled m c cut xs zs h) (walk_shuffled m c cut zs ys k)

-- a rollback of one step leaves such lists again
pub rewound_shuffled : (xs ys : List EventWithLook) (n k : ℕ) → IsSwapOf xs ys → IsSwapOf (events_after_rewind xs n k) (events_after_rewind ys n k)
rewound_shuffled xs ys n k h =
    by_paths _ _ _ _ (sym (rewound_walk (λ i. 0) n k xs k (omega arith))) (sym (rewound_walk (λ i. 0) n k ys k (omega arith))) (walk_shuffled nowhere (λ i. 0) (single n k) xs ys h)

pub all_shuffled : (steps : List (ℕ × ℕ)) (xs ys : List EventWithLook) → IsSwapOf xs ys → IsSwapOf (events_after_rewinds xs steps) (events_after_rewinds ys steps)
all_shuffled [] xs ys h = h
all_shuffled (step ∷ steps) xs ys h = all_shuffled steps (events_after_rewind xs step.0 step.1) (events_after_rewind ys step.0 step.1) (rewound_shuffled xs ys step.0 step.1 h)

-- and the rest runs
rest_made : (c : List NodeRecord) (xs : List EventWithLook) (o : Option ℕ) → Made c xs → Made c (remaining_events_or_all xs o)
rest_made c xs None m = m
rest_made c xs (Some i) m =
    let r = run_made c xs m in
    let left = run_rest c (events_of_causes xs) i r.last r.told r.run_is in
    let made = made_of c left.0 (events_of_causes (rest (causes r.told) i)) _ left.1 in
    subst (Made c) (causes_without (dependent_flags (causes r.told) i) r.told ∙ ap (λ z. rest z i) r.same) made.0

pub all_made : (c : List NodeRecord) (steps : List (ℕ × ℕ)) (xs : List EventWithLook) → Made c xs → Made c (events_after_rewinds xs steps)
all_made c [] xs m = m
all_made c (step ∷ steps) xs m = all_made c steps (events_after_rewind xs step.0 step.1) (rest_made c xs (position_of_step xs step.0 step.1) m)

pub rolled_back : (c last now : List NodeRecord) (es fs : List Event) (ts us : List (EventWithLook × MadeEventOutcome)) → run_events c es ≡ Some (last, ts) → run_events c fs ≡ Some (now, us) → AreEquivalentLists c es fs
    → (steps : List (ℕ × ℕ)) → AreEquivalentLists c (events_of_causes (events_after_rewinds (causes ts) steps)) (events_of_causes (events_after_rewinds (causes us) steps))
rolled_back c last now es fs ts us is so h steps =
    (made_shuffled c (events_after_rewinds (causes ts) steps) (events_after_rewinds (causes us) steps)
    (all_shuffled steps (causes ts) (causes us) (shuffled_by c last now es fs ts us is so h))
    (all_made c steps (causes ts) (made_of c last es ts is).0)).0

-- such lists are as long, and each node makes as many steps in them
pub length_shuffled : (xs ys : List EventWithLook) → IsSwapOf xs ys → length xs ≡ length ys
length_shuffled xs ys stays = refl
length_shuffled xs ys (flipped {e} {f} {xs = zs} h) = refl
length_shuffled xs ys (after {e} {xs = us} {ys = vs} h) = ap suc (length_shuffled us vs h)
length_shuffled xs ys (chained {ys = zs} h k) = length_shuffled xs zs h ∙ length_shuffled zs ys k

pub touching_shuffled : (n : ℕ) (xs ys : List EventWithLook) → IsSwapOf xs ys → count_touching_events n xs ≡ count_touching_events n ys
touching_shuffled n xs ys stays = refl
touching_shuffled n xs ys (flipped {e} {f} {xs = zs} h) = two _ _ _ _ _ _ _ (count_touching_events-cons n e (f ∷ zs)) (count_touching_events-cons n f zs) (count_touching_events-cons n f (e ∷ zs)) (count_touching_events-cons n e zs)
  where
    two : (a b c d e f g : ℕ) → a ≡ b + c → c ≡ d + e → f ≡ d + g → g ≡ b + e → a ≡ f
    two a b c d e f g p q r s = omega arith
touching_shuffled n xs ys (after {e} {xs = us} {ys = vs} h) =
    count_touching_events-cons n e us ∙ ap (λ (z : ℕ). cond (event_with_look_touches_node e n) 1 0 + z) (touching_shuffled n us vs h) ∙ sym (count_touching_events-cons n e vs)
touching_shuffled n xs ys (chained {ys = zs} h k) = touching_shuffled n xs zs h ∙ touching_shuffled n zs ys k

-- a step is in both or in neither
pub place_shuffled : (n k : ℕ) (xs ys : List EventWithLook) → IsSwapOf xs ys → is_some (position_of_step xs n k) ≡ is_some (position_of_step ys n k)
place_shuffled n zero xs ys h = ap is_some (place-zero xs n) ∙ sym (ap is_some (place-zero ys n))
place_shuffled n (suc k) xs ys h = place_stands xs n k ∙ ap (nat_lt k) (touching_shuffled n xs ys h) ∙ sym (place_stands ys n k)
