-- Causal consistency: what runs from a chip, and the lists of causes that differ by swaps.
use Rattle.std.proofs.Common.{◌≡◌, ℕ, zero, suc, ◌⊎◌, ◌↔◌, Bool, true, false, cond, List, [], ◌∷◌, ◌++◌, map, Some, refl, sym, ◌∙◌, ap, subst, inl, inr, arith, IsPermutation}
use Rattle.std.specs.List.{Contains, filter, zip}
use Rattle.std.proofs.lemmas.Bool.{cond-true}
use Rattle.std.proofs.lemmas.Option.{same_Some}
use Rattle.std.proofs.lemmas.List.Sorted.{IsPermutation-refl, IsPermutation-sym, IsPermutation-trans, IsPermutation-cons, IsPermutation-append_left, IsPermutation-to_front, Contains-permutation}
use Rattle.ga_event.specs.declared.event.Event.{Event}
use Rattle.ga_event.specs.declared.event.EventWithLook.{EventWithLook}
use Rattle.ga_causal.specs.Dependence.{event_with_look_touches_node, unflagged_elements}
use Rattle.ga_event.specs.Told.{events_of_causes}
use Rattle.ga_event.specs.Apply.{MadeEventOutcome, apply, event_with_look_on_chip, run_events}
use Rattle.ga_node.specs.Record.{NodeRecord}
use Rattle.ga_event.proofs.Locality.{AgreeOutsideMarks-sym, cause_alike}
use Rattle.ga_causal.specs.Equivalence.{AreIndependentEvents, AreEquivalentLists, same, swapped, later, joined, numbered_events_with_outcomes, local_history, local_history_with_outcomes}
use Rattle.ga_causal.specs.Steps.{step_counts_after_event, numbered_events_with_seen_steps}
use Rattle.ga_causal.proofs.Runs.{causes, run_more, first_of_run, keeps_of, same_of, same_chip}
use Rattle.ga_causal.proofs.Equivalences.{IsSwapOf, stays, flipped, after, chained, AreApart-sym, independent_on_all, numbers, entries, entries_flipped, sees_touched, In, shuffled_of, touched_of}

-- the same two events in the other order
pub record Turned (c d p : List NodeRecord) (e f : Event) (t u : MadeEventOutcome) : Type 0 where
  pub mid : List NodeRecord
  pub first : apply c f ≡ Some (mid, u)
  pub second : apply mid e ≡ Some (p, t)
  pub cause : event_with_look_on_chip c f ≡ event_with_look_on_chip d f
  pub other : event_with_look_on_chip mid e ≡ event_with_look_on_chip c e

pub turned : (c d p : List NodeRecord) (e f : Event) (t u : MadeEventOutcome) → apply c e ≡ Some (d, t) → apply d f ≡ Some (p, u) → AreIndependentEvents (event_with_look_on_chip c e) (event_with_look_on_chip d f) → Turned c d p e f t u
turned c d p e f t u h k a =
    let s = same_of (event_with_look_touches_node (event_with_look_on_chip c e)) f d p c u (AgreeOutsideMarks-sym (event_with_look_touches_node (event_with_look_on_chip c e)) c d (keeps_of c e d t h)) (independent_on_all (event_with_look_on_chip c e) (event_with_look_on_chip d f) a) k in
    let b : AreIndependentEvents (event_with_look_on_chip c e) (event_with_look_on_chip c f) = subst (AreIndependentEvents (event_with_look_on_chip c e)) s.cause a in
    let z = same_of (event_with_look_touches_node (event_with_look_on_chip c f)) e c d s.mid t (keeps_of c f s.mid u s.done) (independent_on_all (event_with_look_on_chip c f) (event_with_look_on_chip c e) (AreApart-sym (event_with_look_on_chip c e) (event_with_look_on_chip c f) b)) h in
    let x = same_of (event_with_look_touches_node (event_with_look_on_chip c e)) f c s.mid d u (keeps_of c e d t h) (independent_on_all (event_with_look_on_chip c e) (event_with_look_on_chip c f) b) s.done in
    let same_end : x.mid ≡ z.mid = same_chip e f c d s.mid x.mid z.mid t u b x.done z.done x.cause z.cause x.agree z.agree in
    let there : p ≡ x.mid = ap (λ (w : List NodeRecord × MadeEventOutcome). w.0) (same_Some (p, u) (x.mid, u) (sym k ∙ x.done)) in
    record { mid = s.mid; first = s.done; second = subst (λ w. apply s.mid e ≡ Some (w, t)) (sym (there ∙ same_end)) z.done; cause = sym s.cause; other = sym z.cause }

abbrev pub tolds : List (EventWithLook × MadeEventOutcome) → List MadeEventOutcome
tolds ts = map (λ x. x.1) ts

-- the entries with their outcomes, after s n steps of each node n
abbrev pub told_after : (ℕ → ℕ) → List (EventWithLook × MadeEventOutcome) → List ((EventWithLook × List ℕ) × MadeEventOutcome)
told_after s ts = zip (entries s (causes ts)) (tolds ts)

-- a list that runs from a chip, with its outcomes
record Follows (c last : List NodeRecord) (ys : List Event) (ts : List (EventWithLook × MadeEventOutcome)) : Type 0 where
  pub told : List (EventWithLook × MadeEventOutcome)
  pub run_is : run_events c ys ≡ Some (last, told)
  pub shuffled : IsSwapOf (causes ts) (causes told)
  pub alike : (s : ℕ → ℕ) → IsPermutation (told_after s ts) (told_after s told)
  pub nodes : (s : ℕ → ℕ) (n : ℕ) → filter (λ x. event_with_look_touches_node x.0.0 n) (told_after s ts) ≡ filter (λ x. event_with_look_touches_node x.0.0 n) (told_after s told)

-- two of which not both pass a test can be swapped
pub swap_filter : {X : Type 0} (test : X → Bool) (a b : X) (xs : List X) → (test a ≡ true → test b ≡ true → ⊥) → filter test (a ∷ b ∷ xs) ≡ filter test (b ∷ a ∷ xs)
swap_filter test a b xs h = go (test a) (test b) h
  where
    go : (p q : Bool) → (p ≡ true → q ≡ true → ⊥) → cond p (a ∷ cond q (b ∷ filter test xs) (filter test xs)) (cond q (b ∷ filter test xs) (filter test xs)) ≡ cond q (b ∷ cond p (a ∷ filter test xs) (filter test xs)) (cond p (a ∷ filter test xs) (filter test xs))
    go true true h = absurd (h refl refl)
    go true false h = refl
    go false true h = refl
    go false false h = refl

pub not_both : (e f : EventWithLook) (n : ℕ) → AreIndependentEvents e f → event_with_look_touches_node e n ≡ true → event_with_look_touches_node f n ≡ true → ⊥
not_both e f n h t u = h.first n t (sees_touched f n u)

filtered : (s : ℕ → ℕ) (n : ℕ) (xs ys : List EventWithLook) → IsSwapOf xs ys → filter (λ (x : EventWithLook × List ℕ). event_with_look_touches_node x.0 n) (entries s xs) ≡ filter (λ (x : EventWithLook × List ℕ). event_with_look_touches_node x.0 n) (entries s ys)
filtered s n xs ys stays = refl
filtered s n xs ys (flipped {e} {f} {xs = zs} h) =
    swap_filter (λ (x : EventWithLook × List ℕ). event_with_look_touches_node x.0 n) (e, numbers s e) (f, numbers (step_counts_after_event s e) f) (entries (step_counts_after_event (step_counts_after_event s e) f) zs) (not_both e f n h)
    ∙ ap (λ z. filter (λ (x : EventWithLook × List ℕ). event_with_look_touches_node x.0 n) z) (sym (entries_flipped s e f zs h))
filtered s n xs ys (after {e} {xs = us} {ys = vs} h) = ap (λ z. cond (event_with_look_touches_node e n) ((e, numbers s e) ∷ z) z) (filtered (step_counts_after_event s e) n us vs h)
filtered s n xs ys (chained {ys = zs} h k) = filtered s n xs zs h ∙ filtered s n zs ys k

permuted : (s : ℕ → ℕ) (xs ys : List EventWithLook) → IsSwapOf xs ys → IsPermutation (entries s xs) (entries s ys)
permuted s xs ys stays = IsPermutation-refl (entries s xs)
permuted s xs ys (flipped {e} {f} {xs = zs} h) =
    subst (IsPermutation (entries s (e ∷ f ∷ zs))) (sym (entries_flipped s e f zs h))
    (IsPermutation-append_left (entries (step_counts_after_event (step_counts_after_event s e) f) zs) (a ∷ b ∷ []) (b ∷ a ∷ []) (IsPermutation-to_front (a ∷ []) b))
  where
    a : EventWithLook × List ℕ
    a = (e, numbers s e)

    b : EventWithLook × List ℕ
    b = (f, numbers (step_counts_after_event s e) f)
permuted s xs ys (after {e} {xs = us} {ys = vs} h) = IsPermutation-cons (e, numbers s e) _ _ (permuted (step_counts_after_event s e) us vs h)
permuted s xs ys (chained {ys = zs} h k) = IsPermutation-trans _ _ _ (permuted s xs zs h) (permuted s zs ys k)

told_flipped : (s : ℕ → ℕ) (e f : EventWithLook) (t u : MadeEventOutcome) (xs : List (EventWithLook × MadeEventOutcome)) → AreIndependentEvents e f → told_after s ((f, u) ∷ (e, t) ∷ xs) ≡ ((f, numbers (step_counts_after_event s e) f), u) ∷ ((e, numbers s e), t) ∷ told_after (step_counts_after_event (step_counts_after_event s e) f) xs
told_flipped s e f t u xs h = ap (λ z. zip z (u ∷ t ∷ tolds xs)) (entries_flipped s e f (causes xs) h)

alike_flipped : (s : ℕ → ℕ) (e f : EventWithLook) (t u : MadeEventOutcome) (xs : List (EventWithLook × MadeEventOutcome)) → AreIndependentEvents e f → IsPermutation (told_after s ((e, t) ∷ (f, u) ∷ xs)) (told_after s ((f, u) ∷ (e, t) ∷ xs))
alike_flipped s e f t u xs h =
    subst (IsPermutation (told_after s ((e, t) ∷ (f, u) ∷ xs))) (sym (told_flipped s e f t u xs h))
    (IsPermutation-append_left (told_after (step_counts_after_event (step_counts_after_event s e) f) xs) (a ∷ b ∷ []) (b ∷ a ∷ []) (IsPermutation-to_front (a ∷ []) b))
  where
    a : (EventWithLook × List ℕ) × MadeEventOutcome
    a = ((e, numbers s e), t)

    b : (EventWithLook × List ℕ) × MadeEventOutcome
    b = ((f, numbers (step_counts_after_event s e) f), u)

nodes_flipped : (s : ℕ → ℕ) (n : ℕ) (e f : EventWithLook) (t u : MadeEventOutcome) (xs : List (EventWithLook × MadeEventOutcome)) → AreIndependentEvents e f → filter (λ (x : (EventWithLook × List ℕ) × MadeEventOutcome). event_with_look_touches_node x.0.0 n) (told_after s ((e, t) ∷ (f, u) ∷ xs)) ≡ filter (λ (x : (EventWithLook × List ℕ) × MadeEventOutcome). event_with_look_touches_node x.0.0 n) (told_after s ((f, u) ∷ (e, t) ∷ xs))
nodes_flipped s n e f t u xs h =
    swap_filter (λ (x : (EventWithLook × List ℕ) × MadeEventOutcome). event_with_look_touches_node x.0.0 n) ((e, numbers s e), t) ((f, numbers (step_counts_after_event s e) f), u) (told_after (step_counts_after_event (step_counts_after_event s e) f) xs) (not_both e f n h)
    ∙ ap (λ z. filter (λ (x : (EventWithLook × List ℕ) × MadeEventOutcome). event_with_look_touches_node x.0.0 n) z) (sym (told_flipped s e f t u xs h))

follows_swapped : (c last : List NodeRecord) (e f : Event) (xs : List Event) (ts : List (EventWithLook × MadeEventOutcome)) → AreIndependentEvents (event_with_look_on_chip c e) (event_with_look_on_chip c f) → run_events c (e ∷ f ∷ xs) ≡ Some (last, ts) → Follows c last (f ∷ e ∷ xs) ts
follows_swapped c last e f xs ts h is =
    let m = first_of_run c e (f ∷ xs) last ts is in
    let n = first_of_run m.mid f xs last m.others m.then in
    let q : event_with_look_on_chip c f ≡ event_with_look_on_chip m.mid f = cause_alike (event_with_look_touches_node (event_with_look_on_chip c e)) c m.mid f (keeps_of c e m.mid m.told m.first) (independent_on_all (event_with_look_on_chip c e) (event_with_look_on_chip c f) h) in
    let b : AreIndependentEvents (event_with_look_on_chip c e) (event_with_look_on_chip m.mid f) = subst (AreIndependentEvents (event_with_look_on_chip c e)) q h in
    let z = turned c m.mid n.mid e f m.told n.told m.first n.first b in
    let all : ts ≡ (event_with_look_on_chip c e, m.told) ∷ (event_with_look_on_chip m.mid f, n.told) ∷ n.others = m.all ∙ ap (λ w. (event_with_look_on_chip c e, m.told) ∷ w) n.all in
    let run_is : run_events c (f ∷ e ∷ xs) ≡ Some (last, (event_with_look_on_chip m.mid f, n.told) ∷ (event_with_look_on_chip c e, m.told) ∷ n.others) =
    run_more c f (e ∷ xs) z.mid last n.told _ z.first (run_more z.mid e xs n.mid last m.told n.others z.second n.then)
    ∙ ap (λ (w : EventWithLook). Some (last, (w, n.told) ∷ (event_with_look_on_chip z.mid e, m.told) ∷ n.others)) z.cause
    ∙ ap (λ (w : EventWithLook). Some (last, (event_with_look_on_chip m.mid f, n.told) ∷ (w, m.told) ∷ n.others)) z.other in
    subst (Follows c last (f ∷ e ∷ xs)) (sym all)
    (record {
      told = (event_with_look_on_chip m.mid f, n.told) ∷ (event_with_look_on_chip c e, m.told) ∷ n.others;
      run_is = run_is;
      shuffled = flipped b;
      alike = λ s. alike_flipped s (event_with_look_on_chip c e) (event_with_look_on_chip m.mid f) m.told n.told n.others b;
      nodes = λ s k. nodes_flipped s k (event_with_look_on_chip c e) (event_with_look_on_chip m.mid f) m.told n.told n.others b;
    })

-- equivalent lists run to the same chip, with the same numbered events
follows : (c : List NodeRecord) (xs ys : List Event) → AreEquivalentLists c xs ys → (last : List NodeRecord) (ts : List (EventWithLook × MadeEventOutcome)) → run_events c xs ≡ Some (last, ts) → Follows c last ys ts
follows c xs ys same last ts is = record { told = ts; run_is = is; shuffled = stays; alike = λ s. IsPermutation-refl (told_after s ts); nodes = λ s n. refl }
follows c xs ys (swapped {e} {f} {xs = zs} h) last ts is = follows_swapped c last e f zs ts h is
follows c xs ys (later {now} {e} {told} {xs = us} {ys = vs} h k) last ts is =
    let m = first_of_run c e us last ts is in
    let at : m.mid ≡ now = ap (λ (w : List NodeRecord × MadeEventOutcome). w.0) (same_Some (m.mid, m.told) (now, told) (sym m.first ∙ h)) in
    let r = follows now us vs k last m.others (subst (λ w. run_events w us ≡ Some (last, m.others)) at m.then) in
    subst (Follows c last (e ∷ vs)) (sym m.all)
    (record {
      told = (event_with_look_on_chip c e, m.told) ∷ r.told;
      run_is = run_more c e vs m.mid last m.told r.told m.first (subst (λ w. run_events w vs ≡ Some (last, r.told)) (sym at) r.run_is);
      shuffled = after r.shuffled;
      alike = λ s. IsPermutation-cons ((event_with_look_on_chip c e, numbers s (event_with_look_on_chip c e)), m.told) _ _ (r.alike (step_counts_after_event s (event_with_look_on_chip c e)));
      nodes = λ s n. ap (λ z. cond (event_with_look_touches_node (event_with_look_on_chip c e) n) (((event_with_look_on_chip c e, numbers s (event_with_look_on_chip c e)), m.told) ∷ z) z) (r.nodes (step_counts_after_event s (event_with_look_on_chip c e)) n);
    })
follows c xs ys (joined {ys = zs} h k) last ts is =
    let a = follows c xs zs h last ts is in
    let b = follows c zs ys k last a.told a.run_is in
    record { told = b.told; run_is = b.run_is; shuffled = chained a.shuffled b.shuffled; alike = λ s. IsPermutation-trans _ _ _ (a.alike s) (b.alike s); nodes = λ s n. a.nodes s n ∙ b.nodes s n }

-- the causes are those of their events, made one after another on the chip
abbrev pub Made : List NodeRecord → List EventWithLook → Type 0
Made c [] = Unit {0}
Made c (e ∷ es) = (d : List NodeRecord) × (t : MadeEventOutcome) × (apply c e.event ≡ Some (d, t)) × (event_with_look_on_chip c e.event ≡ e) × Made d es

pub made_of : (c last : List NodeRecord) (es : List Event) (ts : List (EventWithLook × MadeEventOutcome)) → run_events c es ≡ Some (last, ts) → Made c (causes ts) × (events_of_causes (causes ts) ≡ es)
made_of c last [] ts is =
    subst (λ (z : List NodeRecord × List (EventWithLook × MadeEventOutcome)). Made c (causes z.1) × (events_of_causes (causes z.1) ≡ [])) (same_Some (c, []) (last, ts) is) (tt, refl)
made_of c last (e ∷ es) ts is =
    let m = first_of_run c e es last ts is in
    let r = made_of m.mid last es m.others m.then in
    subst (λ (z : List (EventWithLook × MadeEventOutcome)). Made c (causes z) × (events_of_causes (causes z) ≡ e ∷ es)) (sym m.all)
    ((m.mid, m.told, m.first, refl, r.0), ap (λ z. e ∷ z) r.1)

-- and such causes run
pub record MadeRun (c : List NodeRecord) (es : List EventWithLook) : Type 0 where
  pub last : List NodeRecord
  pub told : List (EventWithLook × MadeEventOutcome)
  pub run_is : run_events c (events_of_causes es) ≡ Some (last, told)
  pub same : causes told ≡ es

pub run_made : (c : List NodeRecord) (es : List EventWithLook) → Made c es → MadeRun c es
run_made c [] m = record { last = c; told = []; run_is = refl; same = refl }
run_made c (e ∷ es) (d, t, done, is, m) =
    let r = run_made d es m in
    record {
      last = r.last;
      told = (event_with_look_on_chip c e.event, t) ∷ r.told;
      run_is = run_more c e.event (events_of_causes es) d r.last t r.told done r.run_is;
      same = ap (λ z. z ∷ causes r.told) is ∙ ap (λ z. e ∷ z) r.same;
    }

pub causes_without : (flags : List Bool) (ts : List (EventWithLook × MadeEventOutcome)) → causes (unflagged_elements flags ts) ≡ unflagged_elements flags (causes ts)
causes_without [] ts = refl
causes_without (true ∷ flags) [] = refl
causes_without (false ∷ flags) [] = refl
causes_without (true ∷ flags) (x ∷ ts) = causes_without flags ts
causes_without (false ∷ flags) (x ∷ ts) = ap (λ z. x.0 ∷ z) (causes_without flags ts)

-- lists of causes that differ by swaps can both be made, and their events are equivalent
pub made_shuffled : (c : List NodeRecord) (xs ys : List EventWithLook) → IsSwapOf xs ys → Made c xs → AreEquivalentLists c (events_of_causes xs) (events_of_causes ys) × Made c ys
made_shuffled c xs ys stays m = (same, m)
made_shuffled c xs ys (flipped {e} {f} {xs = zs} h) (d, t, done, is, (p, u, next, so, m)) =
    let a : AreIndependentEvents (event_with_look_on_chip c e.event) (event_with_look_on_chip d f.event) = subst (AreIndependentEvents (event_with_look_on_chip c e.event)) (sym so) (subst (λ z. AreIndependentEvents z f) (sym is) h) in
    let z = turned c d p e.event f.event t u done next a in
    (swapped (subst (AreIndependentEvents (event_with_look_on_chip c e.event)) (sym z.cause) a), (z.mid, u, z.first, z.cause ∙ so, (p, t, z.second, z.other ∙ is, m)))
made_shuffled c xs ys (after {e} {xs = us} {ys = vs} h) (d, t, done, is, m) =
    let r = made_shuffled d us vs h m in
    (later done r.0, (d, t, done, is, r.1))
made_shuffled c xs ys (chained {ys = zs} h k) m =
    let a = made_shuffled c xs zs h m in
    let b = made_shuffled c zs ys k a.1 in
    (joined a.0 b.0, b.1)

-- lists that run from a chip, the causes of which differ by swaps
equivalent_of : (c last now : List NodeRecord) (es fs : List Event) (ts us : List (EventWithLook × MadeEventOutcome)) → run_events c es ≡ Some (last, ts) → run_events c fs ≡ Some (now, us) → IsSwapOf (causes ts) (causes us) → AreEquivalentLists c es fs
equivalent_of c last now es fs ts us is so h =
    let m = made_of c last es ts is in
    let k = made_of c now fs us so in
    subst (λ z. AreEquivalentLists c z fs) m.1 (subst (λ z. AreEquivalentLists c (events_of_causes (causes ts)) z) k.1 ((made_shuffled c (causes ts) (causes us) h m.0).0))

-- and the other way round
pub shuffled_by : (c last now : List NodeRecord) (es fs : List Event) (ts us : List (EventWithLook × MadeEventOutcome)) → run_events c es ≡ Some (last, ts) → run_events c fs ≡ Some (now, us) → AreEquivalentLists c es fs → IsSwapOf (causes ts) (causes us)
shuffled_by c last now es fs ts us is so h =
    let r = follows c es fs h last ts is in
    let q : r.told ≡ us = ap (λ (z : List NodeRecord × List (EventWithLook × MadeEventOutcome)). z.1) (same_Some (last, r.told) (now, us) (sym r.run_is ∙ so)) in
    subst (λ z. IsSwapOf (causes ts) (causes z)) q r.shuffled

contains_in : {X : Type 0} (xs : List X) (x : X) → Contains xs x → In x xs
contains_in [] x (k, l, q) = absurd (omega (arith, l))
contains_in (y ∷ ys) x (zero, l, q) = inl q
contains_in (y ∷ ys) x (suc k, l, q) = inr (contains_in ys x (k, omega (arith, l), q))

in_contains : {X : Type 0} (xs : List X) (x : X) → In x xs → Contains xs x
in_contains [] x i = absurd i
in_contains (y ∷ ys) x (inl q) = (zero, omega arith, q)
in_contains (y ∷ ys) x (inr i) = let r = in_contains ys x i in let l = r.1 in (suc r.0, omega (arith, l), r.2)

pub in_moved : {X : Type 0} (xs ys : List X) (x : X) → IsPermutation xs ys → In x xs → In x ys
in_moved xs ys x h i = contains_in ys x (Contains-permutation xs ys x h (in_contains xs x i))

in_filter : {X : Type 0} (test : X → Bool) (xs : List X) (x : X) → In x xs → test x ≡ true → In x (filter test xs)
in_filter test [] x i t = absurd i
in_filter test (y ∷ ys) x (inl q) t = subst (In x) (sym (cond-true (test y) (y ∷ filter test ys) (filter test ys) (subst (λ z. test z ≡ true) (sym q) t))) (inl q)
in_filter test (y ∷ ys) x (inr i) t = two (test y) (in_filter test ys x i t)
  where
    two : (b : Bool) → In x (filter test ys) → In x (cond b (y ∷ filter test ys) (filter test ys))
    two true i = inr i
    two false i = i

in_filtered : {X : Type 0} (test : X → Bool) (xs : List X) (x : X) → In x (filter test xs) → In x xs
in_filtered test [] x i = i
in_filtered test (y ∷ ys) x i = two (test y) i (λ j. in_filtered test ys x j)
  where
    two : (b : Bool) → In x (cond b (y ∷ filter test ys) (filter test ys)) → (In x (filter test ys) → In x ys) → (y ≡ x) ⊎ In x ys
    two true (inl q) h = inl q
    two true (inr i) h = inr (h i)
    two false i h = inr (h i)

-- the same events, with the same numbers
pub same_events : (c last now : List NodeRecord) (es fs : List Event) (ts us : List (EventWithLook × MadeEventOutcome)) → run_events c es ≡ Some (last, ts) → run_events c fs ≡ Some (now, us) → AreEquivalentLists c es fs ↔ IsPermutation (numbered_events_with_seen_steps (causes ts)) (numbered_events_with_seen_steps (causes us))
same_events c last now es fs ts us is so = (to, from)
  where
    to : AreEquivalentLists c es fs → IsPermutation (numbered_events_with_seen_steps (causes ts)) (numbered_events_with_seen_steps (causes us))
    to h = permuted (λ n. 0) (causes ts) (causes us) (shuffled_by c last now es fs ts us is so h)

    from : IsPermutation (numbered_events_with_seen_steps (causes ts)) (numbered_events_with_seen_steps (causes us)) → AreEquivalentLists c es fs
    from h = equivalent_of c last now es fs ts us is so
        (shuffled_of (λ n. 0) (causes ts) (causes us)
        (λ x i. in_moved (numbered_events_with_seen_steps (causes ts)) (numbered_events_with_seen_steps (causes us)) x h i)
        (λ x i. in_moved (numbered_events_with_seen_steps (causes us)) (numbered_events_with_seen_steps (causes ts)) x (IsPermutation-sym (numbered_events_with_seen_steps (causes ts)) (numbered_events_with_seen_steps (causes us)) h) i))

-- each node has the same local history
pub same_accounts : (c last now : List NodeRecord) (es fs : List Event) (ts us : List (EventWithLook × MadeEventOutcome)) → run_events c es ≡ Some (last, ts) → run_events c fs ≡ Some (now, us) → AreEquivalentLists c es fs ↔ ((n : ℕ) → local_history n (causes ts) ≡ local_history n (causes us))
same_accounts c last now es fs ts us is so = (to, from)
  where
    to : AreEquivalentLists c es fs → (n : ℕ) → local_history n (causes ts) ≡ local_history n (causes us)
    to h n = filtered (λ k. 0) n (causes ts) (causes us) (shuffled_by c last now es fs ts us is so h)

    each : (xs ys : List EventWithLook) → ((n : ℕ) → local_history n xs ≡ local_history n ys) → (x : EventWithLook × List ℕ) → In x (numbered_events_with_seen_steps xs) → In x (numbered_events_with_seen_steps ys)
    each xs ys h x i =
        let t = touched_of x.0.event in
        in_filtered (λ e. event_with_look_touches_node e.0 t.node) (numbered_events_with_seen_steps ys) x
        (subst (In x) (h t.node) (in_filter (λ e. event_with_look_touches_node e.0 t.node) (numbered_events_with_seen_steps xs) x i t.is))

    from : ((n : ℕ) → local_history n (causes ts) ≡ local_history n (causes us)) → AreEquivalentLists c es fs
    from h = equivalent_of c last now es fs ts us is so
        (shuffled_of (λ n. 0) (causes ts) (causes us) (each (causes ts) (causes us) h) (each (causes us) (causes ts) (λ n. sym (h n))))

-- what equivalent lists keep
pub kept_alike : (c last : List NodeRecord) (es fs : List Event) (ts : List (EventWithLook × MadeEventOutcome)) → run_events c es ≡ Some (last, ts) → AreEquivalentLists c es fs → (us : List (EventWithLook × MadeEventOutcome)) × (run_events c fs ≡ Some (last, us)) × IsPermutation (numbered_events_with_outcomes ts) (numbered_events_with_outcomes us) × ((n : ℕ) → local_history_with_outcomes n ts ≡ local_history_with_outcomes n us)
kept_alike c last es fs ts is h =
    let r = follows c es fs h last ts is in
    (r.told, r.run_is, r.alike (λ n. 0), λ n. r.nodes (λ k. 0) n)

-- the same events more
pub equivalent-append : (c : List NodeRecord) (xs ys zs : List Event) → AreEquivalentLists c xs ys → AreEquivalentLists c (xs ++ zs) (ys ++ zs)
equivalent-append c xs ys zs same = same
equivalent-append c xs ys zs (swapped {e} {f} {xs = us} h) = swapped h
equivalent-append c xs ys zs (later {now} {e} {xs = us} {ys = vs} h k) = later h (equivalent-append now us vs zs k)
equivalent-append c xs ys zs (joined {ys = us} h k) = joined (equivalent-append c xs us zs h) (equivalent-append c us ys zs k)
