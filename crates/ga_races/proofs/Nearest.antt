-- What a list shows of its races: a racing pair of a look and a change, or a pass whose reader another writer waits to write
-- to.
use Rattle.std.proofs.Common.{◌≡◌, ◌≢◌, ℕ, zero, suc, ◌+◌, ◌<◌, ◌≤◌, ◌⊎◌, true, false, inl, inr, List, [], ◌∷◌, ◌++◌, length, Some, refl, sym, ◌∙◌, ap, ap₂, subst, arith, length-append}
use Rattle.std.specs.List.{list_any}
use Rattle.std.proofs.lemmas.Bool.{cases_Bool, cases_eq, both_ways}
use Rattle.std.proofs.lemmas.Option.{same_Some}
use Rattle.ga_node.specs.Record.{NodeRecord}
use Rattle.ga_event.specs.declared.event.Event.{Event}
use Rattle.ga_event.specs.Touches.{event_nodes, touches}
use Rattle.ga_event.specs.Apply.{event_result, replay}
use Rattle.ga_races.specs.Orders.{IsEnabled, IsTerminalChip, AreIndependentOnChip, AreConflictingPasses}
use Rattle.ga_races.specs.HappensBefore.{TraceAction, trace_action_of_event, trace_actions_of_events, trace_action_at, are_dependent_actions, HappensDirectlyBefore, HappensBefore, directly, through, chip_after_prefix, event_at_place, IsRacingPair}
use Rattle.ga_races.proofs.Independence.{replay_more, first_of, still_enabled, any_of, independent_of, apart-sym}
use Rattle.ga_races.proofs.Conflicts.{actor, one_event, common_node}
use Rattle.ga_races.proofs.Bound.{Apart, action_still, free_of}
use Rattle.ga_races.proofs.Moves.{tally, Moves, before_within, IsTallied, tallied_moved, tallied_one}
use Rattle.ga_races.proofs.Before.{actions_length}
use Rattle.ga_races.proofs.Sweeps.{action_there, action_before, chip_there}
use Rattle.ga_causal.proofs.Equivalences.{touched_of}

-- another writer waits to write to the reader of a pass when it is made
pub record IsRivalled (c : List NodeRecord) (es : List Event) (i : ℕ) (other : Event) : Type 0 where
  pub stands : i < length es
  pub rivals : AreConflictingPasses (event_at_place c es i) other
  pub can : IsEnabled (chip_after_prefix c es i) other

pub data IsTold (c : List NodeRecord) (es : List Event) : Type 0 where
  near : {i j : ℕ} → IsRacingPair c es i j → IsTold c es
  rivalled : {i : ℕ} {other : Event} → IsRivalled c es i other → IsTold c es

-- ---- the last event of a list on which a next one depends directly

record IsLast (c d : List NodeRecord) (es : List Event) (e : Event) : Type 0 where
  at : ℕ
  within : at < length es
  bound : are_dependent_actions (trace_action_at (trace_actions_of_events c es) at) (trace_action_of_event d e) ≡ true
  last : (q : ℕ) → at < q → q < length es → are_dependent_actions (trace_action_at (trace_actions_of_events c es) q) (trace_action_of_event d e) ≡ false

record IsUnbound (c d : List NodeRecord) (es : List Event) (e : Event) : Type 0 where
  still : trace_action_of_event c e ≡ trace_action_of_event d e
  all : (q : ℕ) → q < length es → are_dependent_actions (trace_action_at (trace_actions_of_events c es) q) (trace_action_of_event d e) ≡ false

abbrev AllApart : List Event → Event → Type 0
AllApart [] e = Unit {0}
AllApart (f ∷ fs) e = Apart f e × AllApart fs e

last_more : (c d : List NodeRecord) (z : Event) (es : List Event) (e : Event) → IsLast (event_result c z).0 d es e → IsLast c d (z ∷ es) e
last_more c d z es e l = record {
  at = suc l.at;
  within = let w : l.at < length es = l.within in omega (arith, w);
  bound = l.bound;
  last = last;
}
  where
    last : (q : ℕ) → suc l.at < q → q < length (z ∷ es) → are_dependent_actions (trace_action_at (trace_actions_of_events c (z ∷ es)) q) (trace_action_of_event d e) ≡ false
    last zero k m = absurd (omega (arith, k))
    last (suc q) k m = l.last q (omega (arith, k)) (omega (arith, m))

last_first : (c d : List NodeRecord) (z : Event) (es : List Event) (e : Event) → IsUnbound (event_result c z).0 d es e → are_dependent_actions (trace_action_of_event c z) (trace_action_of_event d e) ≡ true → IsLast c d (z ∷ es) e
last_first c d z es e u t = record {
  at = 0;
  within = omega arith;
  bound = t;
  last = last;
}
  where
    last : (q : ℕ) → 0 < q → q < length (z ∷ es) → are_dependent_actions (trace_action_at (trace_actions_of_events c (z ∷ es)) q) (trace_action_of_event d e) ≡ false
    last zero k m = absurd (omega (arith, k))
    last (suc q) k m = u.all q (omega (arith, m))

unbound_more : (c d : List NodeRecord) (z : Event) (es : List Event) (e : Event) → IsUnbound (event_result c z).0 d es e → are_dependent_actions (trace_action_of_event c z) (trace_action_of_event d e) ≡ false → trace_action_of_event c e ≡ trace_action_of_event (event_result c z).0 e → IsUnbound c d (z ∷ es) e
unbound_more c d z es e u f q = record { still = q ∙ u.still; all = all }
  where
    all : (i : ℕ) → i < length (z ∷ es) → are_dependent_actions (trace_action_at (trace_actions_of_events c (z ∷ es)) i) (trace_action_of_event d e) ≡ false
    all zero l = f
    all (suc i) l = u.all i (omega (arith, l))

last_bound : (es : List Event) (c d : List NodeRecord) (e : Event) → replay c es ≡ Some d → IsEnabled c e → AllApart es e → IsLast c d es e ⊎ IsUnbound c d es e
last_bound [] c d e h can apart = inr (record { still = ap (λ z. trace_action_of_event z e) (same_Some c d h); all = λ q l. absurd (omega (arith, l)) })
last_bound (z ∷ es) c d e h can apart =
    let p = first_of c z es d h in
    let then : IsEnabled (event_result c z).0 e = still_enabled c e z (apart-sym z e apart.0) p.can can in
    go p.can then (last_bound es (event_result c z).0 d e p.then then apart.1)
  where
    go : IsEnabled c z → IsEnabled (event_result c z).0 e → IsLast (event_result c z).0 d es e ⊎ IsUnbound (event_result c z).0 d es e → IsLast c d (z ∷ es) e ⊎ IsUnbound c d (z ∷ es) e
    go canz then (inl l) = inl (last_more c d z es e l)
    go canz then (inr u) = elim (cases_Bool (are_dependent_actions (trace_action_of_event c z) (trace_action_of_event d e))) [
      | inl t ↦ inl (last_first c d z es e u t)
      | inr f ↦ (let free = free_of c z e canz then (ap (are_dependent_actions (trace_action_of_event c z)) u.still ∙ f) in
          inr (unbound_more c d z es e u f (sym (action_still c z e canz can free.1.apart free.1.second))))
    ]

last_of : (c d : List NodeRecord) (f : Event) (mid : List Event) (e : Event) → IsEnabled c f → IsEnabled c e → replay (event_result c f).0 mid ≡ Some d → Apart f e → AllApart mid e → (AreIndependentOnChip c f e → ⊥) → IsLast c d (f ∷ mid) e
last_of c d f mid e canf can h apart all bound =
    let then : IsEnabled (event_result c f).0 e = still_enabled c e f (apart-sym f e apart) canf can in
    go then (last_bound mid (event_result c f).0 d e h then all)
  where
    go : IsEnabled (event_result c f).0 e → IsLast (event_result c f).0 d mid e ⊎ IsUnbound (event_result c f).0 d mid e → IsLast c d (f ∷ mid) e
    go then (inl l) = last_more c d f mid e l
    go then (inr u) = elim (cases_Bool (are_dependent_actions (trace_action_of_event c f) (trace_action_of_event d e))) [
      | inl t ↦ last_first c d f mid e u t
      | inr free ↦ absurd (bound ((free_of c f e canf then (ap (are_dependent_actions (trace_action_of_event c f)) u.still ∙ free)).1))
    ]

-- ---- which is near

last_link : (xs : List TraceAction) (i j : ℕ) → HappensBefore xs i j → (m : ℕ) × (i ≤ m) × HappensDirectlyBefore xs m j
last_link xs i j (directly d) = (i, omega arith, d)
last_link xs i j (through {middle} h d) = (middle, let l : i < middle = (before_within xs i middle h).0 in omega (arith, l), d)

apart_at : (fs : List Event) (c : List NodeRecord) (e : Event) (q : ℕ) → AllApart fs e → q < length fs → Apart (event_at_place c fs q) e
apart_at [] c e q a l = absurd (omega (arith, l))
apart_at (f ∷ fs) c e zero a l = a.0
apart_at (f ∷ fs) c e (suc q) a l = apart_at fs (event_result c f).0 e q a.1 (omega (arith, l))

near_of : (c d : List NodeRecord) (fs : List Event) (e : Event) (post : List Event) (l : IsLast c d fs e) → replay c fs ≡ Some d → AllApart fs e → IsRacingPair c (fs ++ e ∷ post) l.at (length fs)
near_of c d fs e post l h apart =
    let size : length (trace_actions_of_events c (fs ++ e ∷ post)) ≡ length (fs ++ e ∷ post) = actions_length c (fs ++ e ∷ post) in
    let more : length (fs ++ e ∷ post) ≡ length fs + suc (length post) = length-append fs (e ∷ post) in
    let there : trace_action_at (trace_actions_of_events c (fs ++ e ∷ post)) (length fs) ≡ trace_action_of_event d e = action_there fs c d e post h in
    let before : (q : ℕ) → q < length fs → trace_action_at (trace_actions_of_events c (fs ++ e ∷ post)) q ≡ trace_action_at (trace_actions_of_events c fs) q = action_before fs c (e ∷ post) in
    record {
      bound = record { before = l.within; within = omega (arith, size, more); bound = ap₂ are_dependent_actions (before l.at l.within) there ∙ l.bound };
      apart = λ n t. ap (λ (a : TraceAction). touches a.cause.event n) there
          ∙ apart_at fs c e l.at apart l.within n (ap (λ (a : TraceAction). touches a.cause.event n) (sym (before l.at l.within)) ∙ t);
      none = λ middle a b.
          let m = last_link (trace_actions_of_events c (fs ++ e ∷ post)) middle (length fs) b in
          let k : l.at < middle = (before_within (trace_actions_of_events c (fs ++ e ∷ post)) l.at middle a).0 in
          let g : middle ≤ m.0 = m.1 in
          both_ways (are_dependent_actions (trace_action_at (trace_actions_of_events c fs) m.0) (trace_action_of_event d e)) (l.last m.0 (omega (arith, k, g)) m.2.before) (ap₂ are_dependent_actions (sym (before m.0 m.2.before)) (sym there) ∙ m.2.bound);
    }

-- ---- the first event of a list that touches a node of an enabled event

record IsMet (c : List NodeRecord) (es : List Event) (e : Event) : Type 0 where
  mid : List Event
  post : List Event
  step : Event
  there : List NodeRecord
  is : es ≡ mid ++ step ∷ post
  led : replay c mid ≡ Some there
  can : IsEnabled there e
  made : IsEnabled there step
  apart : AllApart mid e
  node : ℕ
  one : touches step node ≡ true
  two : touches e node ≡ true

met : (es : List Event) (c last : List NodeRecord) (e : Event) → replay c es ≡ Some last → IsEnabled c e → IsTerminalChip last → IsMet c es e
met [] c last e h can end = absurd (end e (subst (λ z. IsEnabled z e) (same_Some c last h) can))
met (g ∷ es) c last e h can end =
    let p = first_of c g es last h in
    elim (cases_Bool (list_any (touches g) (event_nodes e))) [
      | inl t ↦ (let k = any_of (touches g) (event_nodes e) t in
          record { mid = []; post = es; step = g; there = c; is = refl; led = refl; can = can; made = p.can; apart = tt; node = k.node; one = k.marked_nodes; two = k.listed })
      | inr none ↦ (let apart : Apart g e = independent_of g e none in
          let m = met es (event_result c g).0 last e p.then (still_enabled c e g (apart-sym g e apart) p.can can) end in
          record {
            mid = g ∷ m.mid;
            post = m.post;
            step = m.step;
            there = m.there;
            is = ap (λ (z : List Event). g ∷ z) m.is;
            led = replay_more c g m.mid p.can ∙ m.led;
            can = m.can;
            made = m.made;
            apart = (apart, m.apart);
            node = m.node;
            one = m.one;
            two = m.two;
          })
    ]

-- ---- if another event is enabled in place of the first, the list shows a race

pub told_head : (c last : List NodeRecord) (f : Event) (es : List Event) (e : Event) → replay c (f ∷ es) ≡ Some last → IsTerminalChip last → IsEnabled c e → f ≢ e → (AreIndependentOnChip c f e → ⊥) → IsTold c (f ∷ es)
told_head c last f es e h end can differ bound =
    let p = first_of c f es last h in
    elim (cases_Bool (list_any (touches f) (event_nodes e))) [
      | inl t ↦ (let k = any_of (touches f) (event_nodes e) t in
          rivalled {i = 0} {other = e} (record { stands = omega arith; rivals = common_node c f e k.node p.can can differ k.marked_nodes k.listed; can = can }))
      | inr none ↦ (let apart : Apart f e = independent_of f e none in
          let m = met es (event_result c f).0 last e p.then (still_enabled c e f (apart-sym f e apart) p.can can) end in
          subst (λ (z : List Event). IsTold c (f ∷ z)) (sym m.is) (by_step p.can apart m.mid m.post m.step m.there m.led m.can m.made m.apart m.node m.one m.two))
    ]
  where
    by_step : IsEnabled c f → Apart f e → (mid post : List Event) (step : Event) (there : List NodeRecord) → replay (event_result c f).0 mid ≡ Some there → IsEnabled there e → IsEnabled there step → AllApart mid e
        → (n : ℕ) → touches step n ≡ true → touches e n ≡ true → IsTold c (f ∷ (mid ++ step ∷ post))
    by_step canf apart mid post step there led still made all n t u = elim (cases_eq (actor step) (actor e)) [
      | inl q ↦ (let same_event : step ≡ e = one_event there step e made still q in
          let l = last_of c there f mid e canf can led apart all bound in
          subst (λ (z : Event). IsTold c (f ∷ (mid ++ z ∷ post))) (sym same_event)
          (near {i = l.at} {j = suc (length mid)} (near_of c there (f ∷ mid) e post l (replay_more c f mid canf ∙ led) (apart, all))))
      | inr ne ↦ (let at : event_at_place c (f ∷ (mid ++ step ∷ post)) (suc (length mid)) ≡ step = ap (λ (a : TraceAction). a.cause.event) (action_there mid (event_result c f).0 there step post led) in
          let size : length (mid ++ step ∷ post) ≡ length mid + suc (length post) = length-append mid (step ∷ post) in
          rivalled {i = suc (length mid)} {other = e} (record {
            stands = omega (arith, size);
            rivals = subst (λ (z : Event). AreConflictingPasses z e) (sym at) (common_node there step e n made still (λ q. ne (ap actor q)) t u);
            can = subst (λ (z : List NodeRecord). IsEnabled z e) (sym (chip_there mid (event_result c f).0 there (step ∷ post) led)) still;
          }))
    ]

-- ---- what the end of a list shows, the list shows

bound_earlier : (a : TraceAction) (xs : List TraceAction) (i m : ℕ) → HappensDirectlyBefore (a ∷ xs) (suc i) m → (k : ℕ) × (m ≡ suc k) × HappensDirectlyBefore xs i k
bound_earlier a xs i zero d = let l : suc i < 0 = d.before in absurd (omega (arith, l))
bound_earlier a xs i (suc k) d =
    let l : suc i < suc k = d.before in
    let m : suc k < suc (length xs) = d.within in
    (k, refl, record { before = omega (arith, l); within = omega (arith, m); bound = d.bound })

happens_earlier : (a : TraceAction) (xs : List TraceAction) (i m : ℕ) → HappensBefore (a ∷ xs) (suc i) m → (k : ℕ) × (m ≡ suc k) × HappensBefore xs i k
happens_earlier a xs i m (directly d) = let b = bound_earlier a xs i m d in (b.0, b.1, directly b.2)
happens_earlier a xs i m (through {middle} h d) =
    let r = happens_earlier a xs i middle h in
    let b = bound_earlier a xs r.0 m (subst (λ (z : ℕ). HappensDirectlyBefore (a ∷ xs) z m) r.1 d) in
    (b.0, b.1, through r.2 b.2)

near_more : (c : List NodeRecord) (e : Event) (es : List Event) (i j : ℕ) → IsRacingPair (event_result c e).0 es i j → IsRacingPair c (e ∷ es) (suc i) (suc j)
near_more c e es i j n =
    let l : i < j = n.bound.before in
    let m : j < length (trace_actions_of_events (event_result c e).0 es) = n.bound.within in
    record {
      bound = record { before = omega (arith, l); within = omega (arith, m); bound = n.bound.bound };
      apart = n.apart;
      none = λ middle a b.
          let r = happens_earlier (trace_action_of_event c e) (trace_actions_of_events (event_result c e).0 es) i middle a in
          let s = happens_earlier (trace_action_of_event c e) (trace_actions_of_events (event_result c e).0 es) r.0 (suc j) (subst (λ (z : ℕ). HappensBefore (trace_actions_of_events c (e ∷ es)) z (suc j)) r.1 b) in
          n.none r.0 r.2 (subst (HappensBefore (trace_actions_of_events (event_result c e).0 es) r.0) (let q : suc j ≡ suc s.0 = s.1 in let g : s.0 ≡ j = omega (arith, q) in g) s.2);
    }

told_more : (c : List NodeRecord) (e : Event) (es : List Event) → IsTold (event_result c e).0 es → IsTold c (e ∷ es)
told_more c e es (near {i} {j} n) = near {i = suc i} {j = suc j} (near_more c e es i j n)
told_more c e es (rivalled {i} {other} r) = rivalled {i = suc i} {other = other} (record { stands = let l : i < length es = r.stands in omega (arith, l); rivals = r.rivals; can = r.can })

pub told_behind : (fs ys : List Event) (c now : List NodeRecord) → replay c fs ≡ Some now → IsTold now ys → IsTold c (fs ++ ys)
told_behind [] ys c now h t = subst (λ (z : List NodeRecord). IsTold z ys) (sym (same_Some c now h)) t
told_behind (f ∷ fs) ys c now h t = told_more c f (fs ++ ys) (told_behind fs ys (event_result c f).0 now ((first_of c f fs now h).then) t)

-- ---- and what an order of the list shows, the list shows

pub round_trip : (xs ys : List TraceAction) (f b : ℕ → ℕ) → Moves f xs ys → Moves b ys xs → (i : ℕ) → i < length ys → f (b i) ≡ i
round_trip xs ys f b m w i l =
    let t = touched_of (trace_action_at ys i).cause.event in
    let s : IsTallied ys t.node (suc (tally t.node ys i)) i = record { within = l; touched = t.is; before = refl } in
    tallied_one ys t.node (suc (tally t.node ys i)) (f (b i)) i
    (tallied_moved xs ys f t.node (suc (tally t.node ys i)) (b i) m (tallied_moved ys xs b t.node (suc (tally t.node ys i)) i w s)) s

bound_moved : (xs ys : List TraceAction) (f : ℕ → ℕ) (i j : ℕ) → Moves f xs ys → HappensDirectlyBefore xs i j → HappensDirectlyBefore ys (f i) (f j)
bound_moved xs ys f i j m d =
    let l : i < j = d.before in
    let k : j < length xs = d.within in
    record {
      before = m.order i j l k d.bound;
      within = m.within j k;
      bound = ap₂ are_dependent_actions (sym (m.alike i (let g : i < length xs = omega (arith, l, k) in g))) (sym (m.alike j k)) ∙ d.bound;
    }

pub happens_moved : (xs ys : List TraceAction) (f : ℕ → ℕ) (i j : ℕ) → Moves f xs ys → HappensBefore xs i j → HappensBefore ys (f i) (f j)
happens_moved xs ys f i j m (directly d) = directly (bound_moved xs ys f i j m d)
happens_moved xs ys f i j m (through {middle} h d) = through (happens_moved xs ys f i middle m h) (bound_moved xs ys f middle j m d)

pub near_moved : (c : List NodeRecord) (xs ys : List Event) (f b : ℕ → ℕ) → Moves f (trace_actions_of_events c xs) (trace_actions_of_events c ys) → Moves b (trace_actions_of_events c ys) (trace_actions_of_events c xs) → (i j : ℕ) → IsRacingPair c ys i j → IsRacingPair c xs (b i) (b j)
near_moved c xs ys f b m w i j n =
    let k : j < length (trace_actions_of_events c ys) = n.bound.within in
    let l : i < j = n.bound.before in
    let k' : i < length (trace_actions_of_events c ys) = omega (arith, k, l) in
    record {
      bound = bound_moved (trace_actions_of_events c ys) (trace_actions_of_events c xs) b i j w n.bound;
      apart = λ n' t. ap (λ (a : TraceAction). touches a.cause.event n') (sym (w.alike j k)) ∙ n.apart n' (ap (λ (a : TraceAction). touches a.cause.event n') (w.alike i k') ∙ t);
      none = λ middle p q. n.none (f middle)
          (subst (λ (z : ℕ). HappensBefore (trace_actions_of_events c ys) z (f middle)) (round_trip (trace_actions_of_events c xs) (trace_actions_of_events c ys) f b m w i k') (happens_moved (trace_actions_of_events c xs) (trace_actions_of_events c ys) f (b i) middle m p))
          (subst (HappensBefore (trace_actions_of_events c ys) (f middle)) (round_trip (trace_actions_of_events c xs) (trace_actions_of_events c ys) f b m w j k) (happens_moved (trace_actions_of_events c xs) (trace_actions_of_events c ys) f middle (b j) m q));
    }
