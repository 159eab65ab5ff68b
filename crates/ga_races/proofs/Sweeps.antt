-- A list whose first event comes as late as it can: what follows of the first events happens after it.
use Rattle.std.proofs.Common.{◌≡◌, ◌≢◌, ℕ, zero, suc, ◌+◌, ◌<◌, ◌≤◌, ◌==◌, Bool, true, false, ◌&&◌, ◌||◌, cond, List, [], ◌∷◌, ◌++◌, length, Some, refl, sym, ◌∙◌, ap, ap₂, subst, subst₂, arith, append_assoc, length-append, eq-eqb, ne_eqb}
use Rattle.std.specs.List.{list_any}
use Rattle.std.proofs.lemmas.Bool.{both_ways, and_from, or_parts, or_from, false_from_ne_true}
use Rattle.std.proofs.lemmas.Option.{same_Some}
use Rattle.ga_ports.specs.declared.side.Side.{Side}
use Rattle.ga_node.specs.Record.{NodeRecord}
use Rattle.ga_grid.specs.Chip.{node_record_at}
use Rattle.ga_grid.specs.Grid.{neighbour_number}
use Rattle.ga_grid.specs.declared.node_id.NodeId.{NodeId}
use Rattle.ga_grid.proofs.NodeIds.{neighbour_number-other}
use Rattle.ga_event.specs.declared.event.Event.{Event}
use Rattle.ga_event.specs.declared.event.Event.TheVariants.{Pass}
use Rattle.ga_event.specs.Touches.{touches}
use Rattle.ga_event.specs.Apply.{waits_to_write_side, waits_to_read_side, equals_optional_number, refusal_unless_matched, event_result, replay}
use Rattle.ga_causal.proofs.Equivalences.{touched_of}
use Rattle.ga_races.specs.Orders.{IsEnabled, AreReorderings, same, later, joined, IsRace, AreConflictingPasses}
use Rattle.ga_races.specs.HappensBefore.{TraceAction, trace_action_of_event, trace_actions_of_events, trace_action_at, are_dependent_actions, HappensDirectlyBefore, HappensBefore, directly, through, chip_after_prefix, event_at_place, IsRacingPair, IsContendedPass}
use Rattle.ga_races.proofs.Independence.{replay_more, first_of, can_back, stays, apart-sym, touches_reader}
use Rattle.ga_races.proofs.Orders.{is_some_of, enabled_after}
use Rattle.ga_races.proofs.Exact.{replay_into}
use Rattle.ga_races.proofs.Kahn.{begins}
use Rattle.ga_races.proofs.Conflicts.{actor}
use Rattle.ga_races.proofs.Bound.{Apart, unbound_apart, free_exact}
use Rattle.ga_races.proofs.Before.{meets_some, reached, before_of, actions_into, actions_length, IsOver, over}

-- ---- lists of actions

any-append : (q : TraceAction → Bool) (xs ys : List TraceAction) → list_any q xs ≡ false → list_any q ys ≡ false → list_any q (xs ++ ys) ≡ false
any-append q [] ys a b = b
any-append q (x ∷ xs) ys a b = let p = or_parts (q x) (list_any q xs) a in or_from (q x) (list_any q (xs ++ ys)) p.0 (any-append q xs ys p.1 b)

first_action : List TraceAction → TraceAction → TraceAction
first_action [] a = a
first_action (x ∷ xs) a = x

other_actions : List TraceAction → List TraceAction
other_actions [] = []
other_actions (x ∷ xs) = xs

first_same : (x y : TraceAction) (xs ys : List TraceAction) → x ∷ xs ≡ y ∷ ys → x ≡ y
unfolding first_action
first_same x y xs ys h = ap (λ (z : List TraceAction). first_action z x) h

others_same : (x y : TraceAction) (xs ys : List TraceAction) → x ∷ xs ≡ y ∷ ys → xs ≡ ys
unfolding other_actions
others_same x y xs ys h = ap other_actions h

reached-append : (xs ys held : List TraceAction) (j : ℕ) → j < length xs → reached held (xs ++ ys) j ≡ reached held xs j
reached-append [] ys held j l = absurd (omega (arith, l))
reached-append (x ∷ xs) ys held zero l = refl
reached-append (x ∷ xs) ys held (suc j) l =
    ap₂ (cond (meets_some held x)) (reached-append xs ys (held ++ x ∷ []) j (omega (arith, l))) (reached-append xs ys held j (omega (arith, l)))

pub action_there : (fs : List Event) (c d : List NodeRecord) (y : Event) (ys : List Event) → replay c fs ≡ Some d → trace_action_at (trace_actions_of_events c (fs ++ y ∷ ys)) (length fs) ≡ trace_action_of_event d y
action_there [] c d y ys h = ap (λ z. trace_action_of_event z y) (same_Some c d h)
action_there (f ∷ fs) c d y ys h = let p = first_of c f fs d h in action_there fs (event_result c f).0 d y ys p.then

pub action_before : (fs : List Event) (c : List NodeRecord) (ys : List Event) (j : ℕ) → j < length fs → trace_action_at (trace_actions_of_events c (fs ++ ys)) j ≡ trace_action_at (trace_actions_of_events c fs) j
action_before [] c ys j l = absurd (omega (arith, l))
action_before (f ∷ fs) c ys zero l = refl
action_before (f ∷ fs) c ys (suc j) l = action_before fs (event_result c f).0 ys j (omega (arith, l))

-- ---- the sweep

-- `e` comes as late as it can among the first events `xs`, without `post`: no action after it is of the kind `q`
record IsSwept (c d : List NodeRecord) (e : Event) (xs post : List Event) (q : TraceAction → Bool) : Type 0 where
  before : List Event
  behind : List Event
  now : List NodeRecord
  led : replay c before ≡ Some now
  can : IsEnabled now e
  still : trace_action_of_event now e ≡ trace_action_of_event c e
  then : replay (event_result now e).0 behind ≡ Some d
  none : list_any q (trace_actions_of_events (event_result now e).0 behind) ≡ false
  kept : (n : ℕ) → touches e n ≡ true → node_record_at now n ≡ node_record_at c n
  order : AreReorderings c xs (before ++ e ∷ (behind ++ post))

swept_over : (c d last : List NodeRecord) (e : Event) (fs : List Event) (y : Event) (zs post : List Event) (q : TraceAction → Bool) → IsOver c d (e ∷ fs) y zs → Apart e y
    → IsSwept (event_result c y).0 last e (e ∷ (fs ++ zs)) post q → IsSwept c last e (e ∷ (fs ++ y ∷ zs)) post q
swept_over c d last e fs y zs post q o apart s = record {
  before = y ∷ s.before;
  behind = s.behind;
  now = s.now;
  led = replay_more c y s.before o.can ∙ s.led;
  can = s.can;
  still = s.still ∙ first_same (trace_action_of_event (event_result c y).0 e) (trace_action_of_event c e) (trace_actions_of_events (event_result (event_result c y).0 e).0 fs) (trace_actions_of_events (event_result c e).0 fs) o.kept;
  then = s.then;
  none = s.none;
  kept = λ n t. s.kept n t ∙ sym ((stays c y o.can).same n (apart n t));
  order = joined o.order (later o.can s.order);
}

swept_next : (c d last : List NodeRecord) (e : Event) (fs : List Event) (y : Event) (mid post : List Event) (q : TraceAction → Bool) → IsEnabled c e → replay (event_result c e).0 fs ≡ Some d → IsEnabled d y
    → list_any q (trace_actions_of_events (event_result c e).0 fs) ≡ false
    → (b : Bool) → meets_some (trace_actions_of_events c (e ∷ fs)) (trace_action_of_event d y) ≡ b → (meets_some (trace_actions_of_events c (e ∷ fs)) (trace_action_of_event d y) ≡ true → q (trace_action_of_event d y) ≡ false)
    → (replay (event_result c e).0 (fs ++ y ∷ []) ≡ Some (event_result d y).0 → list_any q (trace_actions_of_events (event_result c e).0 (fs ++ y ∷ [])) ≡ false → meets_some (trace_actions_of_events c (e ∷ fs)) (trace_action_of_event d y) ≡ true
    → trace_actions_of_events c (e ∷ (fs ++ y ∷ [])) ≡ trace_actions_of_events c (e ∷ fs) ++ trace_action_of_event d y ∷ [] → IsSwept c last e (e ∷ ((fs ++ y ∷ []) ++ (mid ++ post))) post q)
    → ((now : List NodeRecord) → IsEnabled now e → replay (event_result now e).0 fs ≡ Some (event_result d y).0 → list_any q (trace_actions_of_events (event_result now e).0 fs) ≡ false → meets_some (trace_actions_of_events c (e ∷ fs)) (trace_action_of_event d y) ≡ false
    → trace_actions_of_events now (e ∷ fs) ≡ trace_actions_of_events c (e ∷ fs) → IsSwept now last e (e ∷ (fs ++ (mid ++ post))) post q)
    → IsSwept c last e (e ∷ (fs ++ ((y ∷ mid) ++ post))) post q
swept_next c d last e fs y mid post q can h cany none true is kind held spared =
    let all : trace_actions_of_events (event_result c e).0 (fs ++ y ∷ []) ≡ trace_actions_of_events (event_result c e).0 fs ++ trace_action_of_event d y ∷ [] = actions_into fs (y ∷ []) (event_result c e).0 d h in
    subst (λ (z : List Event). IsSwept c last e (e ∷ z) post q) (append_assoc fs (y ∷ []) (mid ++ post))
    (held (replay_into fs (y ∷ []) (event_result c e).0 d h ∙ replay_more d y [] cany)
    (ap (list_any q) all ∙ any-append q (trace_actions_of_events (event_result c e).0 fs) (trace_action_of_event d y ∷ []) none (or_from (q (trace_action_of_event d y)) false (kind is) refl))
    is (ap (λ (z : List TraceAction). trace_action_of_event c e ∷ z) all))
swept_next c d last e fs y mid post q can h cany none false is kind held spared =
    let o : IsOver c d (e ∷ fs) y (mid ++ post) = over (e ∷ fs) c d y (mid ++ post) (replay_more c e fs can ∙ h) cany is in
    let p = first_of (event_result c y).0 e fs (event_result d y).0 o.led in
    let apart : Apart e y = unbound_apart (trace_action_of_event c e) (trace_action_of_event d y) ((or_parts (are_dependent_actions (trace_action_of_event c e) (trace_action_of_event d y)) (meets_some (trace_actions_of_events (event_result c e).0 fs) (trace_action_of_event d y)) is).0) in
    swept_over c d last e fs y (mid ++ post) post q o apart
    (spared (event_result c y).0 p.can p.then
    (ap (list_any q) (others_same (trace_action_of_event (event_result c y).0 e) (trace_action_of_event c e) (trace_actions_of_events (event_result (event_result c y).0 e).0 fs) (trace_actions_of_events (event_result c e).0 fs) o.kept) ∙ none) is o.kept)

swept : (mid : List Event) (c d last : List NodeRecord) (e : Event) (fs post : List Event) (q : TraceAction → Bool) → IsEnabled c e → replay (event_result c e).0 fs ≡ Some d → replay d mid ≡ Some last
    → list_any q (trace_actions_of_events (event_result c e).0 fs) ≡ false
    → ((j : ℕ) → j < length mid → reached (trace_actions_of_events c (e ∷ fs)) (trace_actions_of_events d mid) j ≡ true → q (trace_action_at (trace_actions_of_events d mid) j) ≡ false)
    → IsSwept c last e (e ∷ (fs ++ (mid ++ post))) post q
swept [] c d last e fs post q can h k none kind = record {
  before = [];
  behind = fs;
  now = c;
  led = refl;
  can = can;
  still = refl;
  then = h ∙ k;
  none = none;
  kept = λ n t. refl;
  order = same;
}
swept (y ∷ mid) c d last e fs post q can h k none kind =
    let p = first_of d y mid last k in
    let yes_at : ℕ → Bool = λ j. reached (trace_actions_of_events c (e ∷ fs) ++ trace_action_of_event d y ∷ []) (trace_actions_of_events (event_result d y).0 mid) j in
    let out_at : ℕ → Bool = λ j. reached (trace_actions_of_events c (e ∷ fs)) (trace_actions_of_events (event_result d y).0 mid) j in
    swept_next c d last e fs y mid post q can h p.can none (meets_some (trace_actions_of_events c (e ∷ fs)) (trace_action_of_event d y)) refl (kind 0 (omega arith))
    (λ more left is all. swept mid c (event_result d y).0 last e (fs ++ y ∷ []) post q can more p.then left
    (λ j l t. kind (suc j) (omega (arith, l)) (ap (λ (b : Bool). cond b (yes_at j) (out_at j)) is ∙ sym (ap (λ (z : List TraceAction). reached z (trace_actions_of_events (event_result d y).0 mid) j) all) ∙ t)))
    (λ now cane led left is all. swept mid now (event_result d y).0 last e fs post q cane led p.then left
    (λ j l t. kind (suc j) (omega (arith, l)) (ap (λ (b : Bool). cond b (yes_at j) (out_at j)) is ∙ sym (ap (λ (z : List TraceAction). reached z (trace_actions_of_events (event_result d y).0 mid) j) all) ∙ t)))

-- what is reached from the first event happens after it
reached_first : (c : List NodeRecord) (e : Event) (mid ys : List Event) (d : List NodeRecord) (j : ℕ) → replay (event_result c e).0 mid ≡ Some d → j < length mid → reached (trace_actions_of_events c (e ∷ [])) (trace_actions_of_events (event_result c e).0 mid) j ≡ true
    → HappensBefore (trace_actions_of_events c (e ∷ (mid ++ ys))) 0 (suc j)
reached_first c e mid ys d j h l t =
    let size : length (trace_actions_of_events (event_result c e).0 mid) ≡ length mid = actions_length (event_result c e).0 mid in
    before_of (trace_actions_of_events c (e ∷ (mid ++ ys))) 0 (suc j)
    (ap (λ (z : List TraceAction). reached (trace_action_of_event c e ∷ []) z j) (actions_into mid ys (event_result c e).0 d h)
    ∙ reached-append (trace_actions_of_events (event_result c e).0 mid) (trace_actions_of_events d ys) (trace_action_of_event c e ∷ []) j (omega (arith, l, size)) ∙ t)

-- ---- a list cut at a place

pub record Split (es : List Event) (j : ℕ) : Type 0 where
  pub mid : List Event
  pub post : List Event
  pub is : es ≡ mid ++ post
  pub size : length mid ≡ j

pub split_at : (es : List Event) (j : ℕ) → j ≤ length es → Split es j
split_at es zero l = record { mid = []; post = es; is = refl; size = refl }
split_at [] (suc j) l = absurd (omega (arith, l))
split_at (e ∷ es) (suc j) l =
    let s = split_at es j (omega (arith, l)) in
    record { mid = e ∷ s.mid; post = s.post; is = ap (λ (z : List Event). e ∷ z) s.is; size = ap suc s.size }

-- ---- what is near races

race_later : (c : List NodeRecord) (e : Event) (es : List Event) (step other : Event) → IsEnabled c e → IsRace (event_result c e).0 es step other → IsRace c (e ∷ es) step other
race_later c e es step other can r = record {
  before = e ∷ r.before;
  later = r.later;
  now = r.now;
  order = later can r.order;
  led = replay_more c e r.before can ∙ r.led;
  can = r.can;
  differ = r.differ;
  bound = r.bound;
}

pub happens_later : (a : TraceAction) (xs : List TraceAction) (i j : ℕ) → HappensBefore xs i j → HappensBefore (a ∷ xs) (suc i) (suc j)
happens_later a xs i j (directly d) = directly (bound_later a xs i j d)
  where
    bound_later : (a : TraceAction) (xs : List TraceAction) (i j : ℕ) → HappensDirectlyBefore xs i j → HappensDirectlyBefore (a ∷ xs) (suc i) (suc j)
    bound_later a xs i j d = let l : i < j = d.before in let m : j < length xs = d.within in record { before = omega (arith, l); within = omega (arith, m); bound = d.bound }
happens_later a xs i j (through {middle} h d) =
    let l : middle < j = d.before in
    let m : j < length xs = d.within in
    through (happens_later a xs i middle h) (record { before = omega (arith, l); within = omega (arith, m); bound = d.bound })

unlike : (e y : Event) → Apart e y → e ≢ y
unlike e y apart h = let t = touched_of e in both_ways (touches y t.node) (apart t.node t.is) (subst (λ (z : Event). touches z t.node ≡ true) h t.is)

near_split : (mid : List Event) (c d last : List NodeRecord) (e y : Event) (post : List Event) → IsEnabled c e → replay (event_result c e).0 mid ≡ Some d → IsEnabled d y → Apart e y
    → are_dependent_actions (trace_action_of_event c e) (trace_action_of_event d y) ≡ true
    → ((j : ℕ) → j < length mid → reached (trace_actions_of_events c (e ∷ [])) (trace_actions_of_events (event_result c e).0 mid) j ≡ true → are_dependent_actions (trace_action_at (trace_actions_of_events (event_result c e).0 mid) j) (trace_action_of_event d y) ≡ false)
    → IsRace c (e ∷ (mid ++ y ∷ post)) e y
near_split mid c d last e y post can h cany apart bound kind =
    let s : IsSwept c d e (e ∷ ([] ++ (mid ++ y ∷ post))) (y ∷ post) (λ a. are_dependent_actions a (trace_action_of_event d y)) =
    swept mid c (event_result c e).0 d e [] (y ∷ post) (λ a. are_dependent_actions a (trace_action_of_event d y)) can refl h refl kind in
    let o : IsOver (event_result s.now e).0 d s.behind y post = over s.behind (event_result s.now e).0 d y post s.then cany s.none in
    let now_can : IsEnabled s.now y = can_back s.now y e (apart-sym e y apart) s.can o.can in
    record {
      before = s.before;
      later = s.behind ++ y ∷ post;
      now = s.now;
      order = s.order;
      led = s.led;
      can = now_can;
      differ = unlike e y apart;
      bound = λ free. both_ways (are_dependent_actions (trace_action_of_event c e) (trace_action_of_event d y)) (ap₂ are_dependent_actions (sym s.still) (sym o.still) ∙ (free_exact s.now e y s.can o.can).1 (now_can, free)) bound;
    }

near_first : (c last : List NodeRecord) (e : Event) (mid : List Event) (y : Event) (post : List Event) → replay c (e ∷ (mid ++ y ∷ post)) ≡ Some last → IsRacingPair c (e ∷ (mid ++ y ∷ post)) 0 (suc (length mid)) → IsRace c (e ∷ (mid ++ y ∷ post)) e y
near_first c last e mid y post h n =
    let p = first_of c e (mid ++ y ∷ post) last h in
    let b = begins mid (y ∷ post) (event_result c e).0 last p.then in
    let cany : IsEnabled b.0 y = enabled_after mid (event_result c e).0 b.0 y post b.1 (is_some_of (replay (event_result c e).0 (mid ++ y ∷ post)) last p.then) in
    let there : trace_action_at (trace_actions_of_events (event_result c e).0 (mid ++ y ∷ post)) (length mid) ≡ trace_action_of_event b.0 y = action_there mid (event_result c e).0 b.0 y post b.1 in
    near_split mid c b.0 last e y post p.can b.1 cany (λ k t. ap (λ (a : TraceAction). touches a.cause.event k) (sym there) ∙ n.apart k t) (ap (are_dependent_actions (trace_action_of_event c e)) (sym there) ∙ n.bound.bound)
    (λ j l t. false_from_ne_true (are_dependent_actions (trace_action_at (trace_actions_of_events (event_result c e).0 mid) j) (trace_action_of_event b.0 y))
    (λ u. n.none (suc j) (reached_first c e mid (y ∷ post) b.0 j b.1 l t)
    (directly (record {
      before = omega (arith, l);
      within = n.bound.within;
      bound = ap₂ are_dependent_actions (action_before mid (event_result c e).0 (y ∷ post) j l) there ∙ u;
    }))))

near_at_first : (c last : List NodeRecord) (e : Event) (es : List Event) (j : ℕ) → replay c (e ∷ es) ≡ Some last → IsRacingPair c (e ∷ es) 0 (suc j) → IsRace c (e ∷ es) e (event_at_place c (e ∷ es) (suc j))
near_at_first c last e es j h n =
    let size : length (trace_actions_of_events (event_result c e).0 es) ≡ length es = actions_length (event_result c e).0 es in
    let l : suc j < suc (length (trace_actions_of_events (event_result c e).0 es)) = n.bound.within in
    let s : Split es j = split_at es j (omega (arith, l, size)) in
    go s.mid s.post s.is s.size (omega (arith, l, size))
  where
    go : (mid post : List Event) → es ≡ mid ++ post → length mid ≡ j → j < length es → IsRace c (e ∷ es) e (event_at_place c (e ∷ es) (suc j))
    go mid [] is size l =
        let k : length es ≡ length (mid ++ []) = ap length is in
        let m : length (mid ++ []) ≡ length mid + 0 = length-append mid [] in
        absurd (omega (arith, l, size, k, m))
    go mid (y ∷ post) is size l =
        let found : IsRace c (e ∷ (mid ++ y ∷ post)) e y =
        near_first c last e mid y post (subst (λ (z : List Event). replay c (e ∷ z) ≡ Some last) is h)
        (subst₂ (λ (z : List Event) (k : ℕ). IsRacingPair c (e ∷ z) 0 (suc k)) is (sym size) n) in
        let b = begins mid (y ∷ post) (event_result c e).0 last ((first_of c e (mid ++ y ∷ post) last (subst (λ (z : List Event). replay c (e ∷ z) ≡ Some last) is h)).then) in
        let there : event_at_place c (e ∷ (mid ++ y ∷ post)) (suc (length mid)) ≡ y = ap (λ (a : TraceAction). a.cause.event) (action_there mid (event_result c e).0 b.0 y post b.1) in
        subst₂ (λ (z : List Event) (k : ℕ). IsRace c (e ∷ z) e (event_at_place c (e ∷ z) (suc k))) (sym is) size
        (subst (IsRace c (e ∷ (mid ++ y ∷ post)) e) (sym there) found)

near_tail : (c : List NodeRecord) (e : Event) (es : List Event) (i j : ℕ) → IsRacingPair c (e ∷ es) (suc i) (suc j) → IsRacingPair (event_result c e).0 es i j
near_tail c e es i j n =
    let l : suc i < suc j = n.bound.before in
    let m : suc j < suc (length (trace_actions_of_events (event_result c e).0 es)) = n.bound.within in
    record {
      bound = record { before = omega (arith, l); within = omega (arith, m); bound = n.bound.bound };
      apart = n.apart;
      none = λ middle a b. n.none (suc middle) (happens_later (trace_action_of_event c e) (trace_actions_of_events (event_result c e).0 es) i middle a) (happens_later (trace_action_of_event c e) (trace_actions_of_events (event_result c e).0 es) middle j b);
    }

pub near_races : (es : List Event) (c last : List NodeRecord) (i j : ℕ) → replay c es ≡ Some last → IsRacingPair c es i j → IsRace c es (event_at_place c es i) (event_at_place c es j)
near_races [] c last i j h n = let m : j < 0 = n.bound.within in absurd (omega (arith, m))
near_races (e ∷ es) c last i zero h n = let l : i < 0 = n.bound.before in absurd (omega (arith, l))
near_races (e ∷ es) c last zero (suc j) h n = near_at_first c last e es j h n
near_races (e ∷ es) c last (suc i) (suc j) h n =
    let p = first_of c e es last h in
    race_later c e es (event_at_place (event_result c e).0 es i) (event_at_place (event_result c e).0 es j) p.can (near_races es (event_result c e).0 last i j p.then (near_tail c e es i j n))

-- ---- what is contended races

can_pass : (c : List NodeRecord) (w r : NodeId) (side : Side) → neighbour_number w.number side ≡ Some r.number → waits_to_write_side (node_record_at c w.number).wait side ≡ true → waits_to_read_side (node_record_at c r.number).wait side ≡ true → IsEnabled c (Pass w r side)
can_pass c w r side near writes reads =
    let neighbour_on_side : equals_optional_number (neighbour_number w.number side) r.number ≡ true = ap (λ o. equals_optional_number o r.number) near ∙ eq-eqb r.number r.number refl in
    ap refusal_unless_matched (and_from (equals_optional_number (neighbour_number w.number side) r.number && waits_to_write_side (node_record_at c w.number).wait side) (waits_to_read_side (node_record_at c r.number).wait side)
    (and_from (equals_optional_number (neighbour_number w.number side) r.number) (waits_to_write_side (node_record_at c w.number).wait side) neighbour_on_side writes) reads)

-- a node that no event of a list touches
untouched_run : (fs : List Event) (c d : List NodeRecord) (n : ℕ) → replay c fs ≡ Some d → list_any (λ (a : TraceAction). touches a.cause.event n) (trace_actions_of_events c fs) ≡ false → node_record_at c n ≡ node_record_at d n
untouched_run [] c d n h none = ap (λ z. node_record_at z n) (same_Some c d h)
untouched_run (f ∷ fs) c d n h none =
    let p = first_of c f fs d h in
    let q = or_parts (touches f n) (list_any (λ (a : TraceAction). touches a.cause.event n) (trace_actions_of_events (event_result c f).0 fs)) none in
    (stays c f p.can).same n q.0 ∙ untouched_run fs (event_result c f).0 d n p.then q.1

pub writer_apart : (w r x : NodeId) (side other : Side) → w.number ≢ x.number → neighbour_number x.number other ≡ Some r.number → touches (Pass w r side) x.number ≡ false
writer_apart w r x side other ne near =
    or_from (w.number == x.number) ((r.number == x.number) || false) (ne_eqb w.number x.number ne)
    (or_from (r.number == x.number) false (ne_eqb r.number x.number (neighbour_number-other x.number r.number other near)) refl)

contended_split : (mid : List Event) (c d last : List NodeRecord) (e other : Event) (post : List Event) (rivals : AreConflictingPasses e other) → IsEnabled c e → replay (event_result c e).0 mid ≡ Some d
    → neighbour_number rivals.second.number rivals.other ≡ Some rivals.reader.number → waits_to_read_side (node_record_at c rivals.reader.number).wait rivals.other ≡ true → waits_to_write_side (node_record_at d rivals.second.number).wait rivals.other ≡ true
    → ((j : ℕ) → j < length mid → reached (trace_actions_of_events c (e ∷ [])) (trace_actions_of_events (event_result c e).0 mid) j ≡ true → touches (trace_action_at (trace_actions_of_events (event_result c e).0 mid) j).cause.event rivals.second.number ≡ false)
    → IsRace c (e ∷ (mid ++ post)) e other
contended_split mid c d last e other post rivals can h near reads writes kind =
    let x : ℕ = rivals.second.number in
    let r : ℕ = rivals.reader.number in
    let s : IsSwept c d e (e ∷ ([] ++ (mid ++ post))) post (λ a. touches a.cause.event x) =
    swept mid c (event_result c e).0 d e [] post (λ a. touches a.cause.event x) can refl h refl kind in
    let out : touches e x ≡ false = ap (λ (z : Event). touches z x) rivals.one ∙ writer_apart rivals.first rivals.reader rivals.second rivals.side rivals.other rivals.writers near in
    let read : touches e r ≡ true = ap (λ (z : Event). touches z r) rivals.one ∙ touches_reader rivals.first rivals.reader rivals.side in
    let at_writer : node_record_at s.now x ≡ node_record_at d x = (stays s.now e s.can).same x out ∙ untouched_run s.behind (event_result s.now e).0 d x s.then s.none in
    let can_other : IsEnabled s.now other =
    subst (IsEnabled s.now) (sym rivals.two) (can_pass s.now rivals.second rivals.reader rivals.other near
    (ap (λ (z : NodeRecord). waits_to_write_side z.wait rivals.other) at_writer ∙ writes) (ap (λ (z : NodeRecord). waits_to_read_side z.wait rivals.other) (s.kept r read) ∙ reads)) in
    record {
      before = s.before;
      later = s.behind ++ post;
      now = s.now;
      order = s.order;
      led = s.led;
      can = can_other;
      differ = λ q. rivals.writers (ap actor (sym rivals.one ∙ q ∙ rivals.two));
      bound = λ free. both_ways (touches other r) (free.apart r read) (ap (λ (z : Event). touches z r) rivals.two ∙ touches_reader rivals.second rivals.reader rivals.other);
    }

pub chip_there : (fs : List Event) (c d : List NodeRecord) (ys : List Event) → replay c fs ≡ Some d → chip_after_prefix c (fs ++ ys) (length fs) ≡ d
chip_there [] c d [] h = same_Some c d h
chip_there [] c d (y ∷ ys) h = same_Some c d h
chip_there (f ∷ fs) c d ys h = chip_there fs (event_result c f).0 d ys (first_of c f fs d h).then

-- after k of the events the node waits to write, and none of its steps among them happens after the first event
abbrev IsPosted : List NodeRecord → Event → ℕ → Side → List Event → ℕ → Type 0
IsPosted c e x side es k = (waits_to_write_side (node_record_at (chip_after_prefix c (e ∷ es) k) x).wait side ≡ true)
    × ((step : ℕ) → step < k → touches (event_at_place c (e ∷ es) step) x ≡ true → HappensBefore (trace_actions_of_events c (e ∷ es)) 0 step → ⊥)

contended_mid : (c last : List NodeRecord) (e : Event) (mid post : List Event) (other : Event) (rivals : AreConflictingPasses e other) → replay c (e ∷ (mid ++ post)) ≡ Some last
    → neighbour_number rivals.second.number rivals.other ≡ Some rivals.reader.number → waits_to_read_side (node_record_at c rivals.reader.number).wait rivals.other ≡ true
    → IsPosted c e rivals.second.number rivals.other (mid ++ post) (suc (length mid)) → IsRace c (e ∷ (mid ++ post)) e other
contended_mid c last e mid post other rivals h near reads posted =
    let p = first_of c e (mid ++ post) last h in
    let b = begins mid post (event_result c e).0 last p.then in
    contended_split mid c b.0 last e other post rivals p.can b.1 near reads
    (ap (λ (z : List NodeRecord). waits_to_write_side (node_record_at z rivals.second.number).wait rivals.other) (sym (chip_there mid (event_result c e).0 b.0 post b.1)) ∙ posted.0)
    (λ j l t. false_from_ne_true (touches (trace_action_at (trace_actions_of_events (event_result c e).0 mid) j).cause.event rivals.second.number)
    (λ u. posted.1 (suc j) (omega (arith, l)) (ap (λ (a : TraceAction). touches a.cause.event rivals.second.number) (action_before mid (event_result c e).0 post j l) ∙ u)
    (reached_first c e mid post b.0 j b.1 l t)))

contended_now : (c : List NodeRecord) (e : Event) (es : List Event) (other : Event) (rivals : AreConflictingPasses e other)
    → neighbour_number rivals.second.number rivals.other ≡ Some rivals.reader.number → waits_to_read_side (node_record_at c rivals.reader.number).wait rivals.other ≡ true
    → waits_to_write_side (node_record_at c rivals.second.number).wait rivals.other ≡ true → IsRace c (e ∷ es) e other
contended_now c e es other rivals near reads writes =
    let r : ℕ = rivals.reader.number in
    record {
      before = [];
      later = es;
      now = c;
      order = same;
      led = refl;
      can = subst (IsEnabled c) (sym rivals.two) (can_pass c rivals.second rivals.reader rivals.other near writes reads);
      differ = λ q. rivals.writers (ap actor (sym rivals.one ∙ q ∙ rivals.two));
      bound = λ free. both_ways (touches other r) (free.apart r (ap (λ (z : Event). touches z r) rivals.one ∙ touches_reader rivals.first rivals.reader rivals.side))
          (ap (λ (z : Event). touches z r) rivals.two ∙ touches_reader rivals.second rivals.reader rivals.other);
    }

contended_first : (c last : List NodeRecord) (e : Event) (es : List Event) (other : Event) (rivals : AreConflictingPasses e other) (k : ℕ) → replay c (e ∷ es) ≡ Some last → k ≤ length (e ∷ es)
    → neighbour_number rivals.second.number rivals.other ≡ Some rivals.reader.number → waits_to_read_side (node_record_at c rivals.reader.number).wait rivals.other ≡ true
    → IsPosted c e rivals.second.number rivals.other es k → IsRace c (e ∷ es) e other
contended_first c last e es other rivals zero h l near reads posted = contended_now c e es other rivals near reads posted.0
contended_first c last e es other rivals (suc k) h l near reads posted =
    let s : Split es k = split_at es k (omega (arith, l)) in
    subst (λ (z : List Event). IsRace c (e ∷ z) e other) (sym s.is)
    (contended_mid c last e s.mid s.post other rivals (subst (λ (z : List Event). replay c (e ∷ z) ≡ Some last) s.is h) near reads
    (subst₂ (λ (z : List Event) (n : ℕ). IsPosted c e rivals.second.number rivals.other z (suc n)) s.is (sym s.size) posted))

contended_at : (es : List Event) (c last : List NodeRecord) (i k : ℕ) (other : Event) (rivals : AreConflictingPasses (event_at_place c es i) other) → replay c es ≡ Some last → i < length es → i ≤ k → k ≤ length es
    → neighbour_number rivals.second.number rivals.other ≡ Some rivals.reader.number → waits_to_read_side (node_record_at (chip_after_prefix c es i) rivals.reader.number).wait rivals.other ≡ true
    → waits_to_write_side (node_record_at (chip_after_prefix c es k) rivals.second.number).wait rivals.other ≡ true
    → ((step : ℕ) → step < k → touches (event_at_place c es step) rivals.second.number ≡ true → HappensBefore (trace_actions_of_events c es) i step → ⊥)
    → IsRace c es (event_at_place c es i) other
contended_at [] c last i k other rivals h s l m near reads writes none = absurd (omega (arith, s))
contended_at (e ∷ es) c last zero k other rivals h s l m near reads writes none = contended_first c last e es other rivals k h m near reads (writes, none)
contended_at (e ∷ es) c last (suc i) zero other rivals h s l m near reads writes none = absurd (omega (arith, l))
contended_at (e ∷ es) c last (suc i) (suc k) other rivals h s l m near reads writes none =
    let p = first_of c e es last h in
    race_later c e es (event_at_place (event_result c e).0 es i) other p.can
    (contended_at es (event_result c e).0 last i k other rivals p.then (omega (arith, s)) (omega (arith, l)) (omega (arith, m)) near reads writes
    (λ step n t b. none (suc step) (omega (arith, n)) t (happens_later (trace_action_of_event c e) (trace_actions_of_events (event_result c e).0 es) i step b)))

pub contended_races : (c last : List NodeRecord) (es : List Event) (i : ℕ) (other : Event) → replay c es ≡ Some last → IsContendedPass c es i other → IsRace c es (event_at_place c es i) other
contended_races c last es i other h n = contended_at es c last i n.posted other n.rivals h n.stands n.before n.within n.near n.reads n.writes n.none
