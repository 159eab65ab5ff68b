-- What a list without the events that meet the marks does.
use Rattle.std.proofs.Common.{◌≡◌, ℕ, zero, suc, Bool, true, false, ◌||◌, List, [], ◌∷◌, map, Option, Some, None, refl, sym, ◌∙◌, ap, subst, ⊎_elim, ◌==◌, ◌++◌, reverse, inl, inr, ext_get_or, eq-eqb}
use Rattle.std.specs.Prelude.{option_map, option_and_then, IfSome}
use Rattle.std.proofs.lemmas.Bool.{or_parts, cases_Bool, or_from, or_left, or_right, false_from_ne_true}
use Rattle.std.proofs.lemmas.Option.{same_Some}
use Rattle.ga_event.specs.declared.event.Event.{Event}
use Rattle.ga_event.specs.declared.event.EventWithLook.{EventWithLook}
use Rattle.ga_causal.specs.Dependence.{event_with_look_touches_node, dependent_flags_from_marks, dependent_flags, unflagged_elements, rest}
use Rattle.ga_event.specs.Told.{events_of_causes}
use Rattle.ga_event.specs.Touches.{observes_marked_node, nodes_observed_by_event}
use Rattle.ga_event.specs.Apply.{MadeEventOutcome, apply, event_with_look_on_chip, run_events, AgreeOutsideMarks, AreEventResultsAlike, replay}
use Rattle.ga_node.specs.Record.{NodeRecord, record_of_node}
use Rattle.ga_event.proofs.Locality.{AgreeOutsideMarks-sym, apply_alike, cause_alike, apply_keeps, observes_marked_node-touched}
use Rattle.std.specs.List.{list_any}
use Rattle.ga_grid.specs.Chip.{default_node}
use Rattle.ga_causal.specs.Equivalence.{event_observes_node, AreIndependentEvents, AreEquivalentLists, same, swapped, later, joined}

-- the events that meet no mark
abbrev pub kept : (ℕ → Bool) → List EventWithLook → List EventWithLook
kept marks es = unflagged_elements (dependent_flags_from_marks marks es) es

abbrev pub causes : List (EventWithLook × MadeEventOutcome) → List EventWithLook
causes steps = map (λ s. s.0) steps

-- one event more
pub run_more : (c : List NodeRecord) (e : Event) (es : List Event) (d last : List NodeRecord) (t : MadeEventOutcome) (ts : List (EventWithLook × MadeEventOutcome)) → apply c e ≡ Some (d, t) → run_events d es ≡ Some (last, ts) → run_events c (e ∷ es) ≡ Some (last, (event_with_look_on_chip c e, t) ∷ ts)
run_more c e es d last t ts h k = rw (h, k) refl

-- the first event of a run, and the rest
pub record FirstOf (c : List NodeRecord) (e : Event) (es : List Event) (last : List NodeRecord) (ts : List (EventWithLook × MadeEventOutcome)) : Type 0 where
  pub mid : List NodeRecord
  pub told : MadeEventOutcome
  pub others : List (EventWithLook × MadeEventOutcome)
  pub first : apply c e ≡ Some (mid, told)
  pub then : run_events mid es ≡ Some (last, others)
  pub all : ts ≡ (event_with_look_on_chip c e, told) ∷ others

pub first_of_run : (c : List NodeRecord) (e : Event) (es : List Event) (last : List NodeRecord) (ts : List (EventWithLook × MadeEventOutcome)) → run_events c (e ∷ es) ≡ Some (last, ts) → FirstOf c e es last ts
first_of_run c e es last ts = at_first (apply c e) refl
  where
    at_rest : (done : List NodeRecord × MadeEventOutcome) → apply c e ≡ Some done → (r : Option (List NodeRecord × List (EventWithLook × MadeEventOutcome))) → run_events done.0 es ≡ r → option_map {U = List NodeRecord × List (EventWithLook × MadeEventOutcome)} (λ rest. (rest.0, (event_with_look_on_chip c e, done.1) ∷ rest.1)) r ≡ Some (last, ts) → FirstOf c e es last ts
    at_rest done h None k g = absurd (cc)
    at_rest done h (Some r) k g =
        let p : (r.0, (event_with_look_on_chip c e, done.1) ∷ r.1) ≡ (last, ts) = same_Some _ _ g in
        record {
          mid = done.0;
          told = done.1;
          others = r.1;
          first = h;
          then = subst (λ z. run_events done.0 es ≡ Some (z, r.1)) (ap (λ z. z.0) p) k;
          all = sym (ap (λ z. z.1) p);
        }

    at_first : (o : Option (List NodeRecord × MadeEventOutcome)) → apply c e ≡ o → option_and_then {U = List NodeRecord × List (EventWithLook × MadeEventOutcome)} (λ first. option_map {U = List NodeRecord × List (EventWithLook × MadeEventOutcome)} (λ rest. (rest.0, (event_with_look_on_chip c e, first.1) ∷ rest.1)) (run_events first.0 es)) o ≡ Some (last, ts) → FirstOf c e es last ts
    at_first None h g = absurd (cc)
    at_first (Some done) h g = at_rest done h (run_events done.0 es) refl g

pub keeps_of : (c : List NodeRecord) (e : Event) (d : List NodeRecord) (t : MadeEventOutcome) → apply c e ≡ Some (d, t) → AgreeOutsideMarks (event_with_look_touches_node (event_with_look_on_chip c e)) c d
keeps_of c e d t h = subst (λ o. IfSome o (λ done. AgreeOutsideMarks (event_with_look_touches_node (event_with_look_on_chip c e)) c done.0)) h (apply_keeps c e)

-- the marks after an event
pub AgreeOutsideMarks-marked_nodes : (marks : ℕ → Bool) (e : Event) (c d b : List NodeRecord) (t : MadeEventOutcome) → AgreeOutsideMarks marks c b → apply c e ≡ Some (d, t) → AgreeOutsideMarks (λ n. marks n || event_with_look_touches_node (event_with_look_on_chip c e) n) d b
AgreeOutsideMarks-marked_nodes marks e c d b t a h =
    let k : AgreeOutsideMarks (event_with_look_touches_node (event_with_look_on_chip c e)) c d = keeps_of c e d t h in
    record {
      size = sym k.size ∙ a.size;
      same = λ n free. let p : (marks n ≡ false) × (event_with_look_touches_node (event_with_look_on_chip c e) n ≡ false) = or_parts (marks n) (event_with_look_touches_node (event_with_look_on_chip c e) n) free in sym (k.same n p.1) ∙ a.same n p.0;
    }

-- a kept event on another chip
pub record Same (marks : ℕ → Bool) (e : Event) (c d b : List NodeRecord) (t : MadeEventOutcome) : Type 0 where
  pub mid : List NodeRecord
  pub done : apply b e ≡ Some (mid, t)
  pub agree : AgreeOutsideMarks marks d mid
  pub cause : event_with_look_on_chip c e ≡ event_with_look_on_chip b e

pub same_of : (marks : ℕ → Bool) (e : Event) (c d b : List NodeRecord) (t : MadeEventOutcome) → AgreeOutsideMarks marks c b → observes_marked_node marks (event_with_look_on_chip c e) ≡ false → apply c e ≡ Some (d, t) → Same marks e c d b t
same_of marks e c d b t a free h = go (apply b e) refl (subst (λ o. AreEventResultsAlike marks o (apply b e)) h (apply_alike marks c b e a free))
  where
    go : (o : Option (List NodeRecord × MadeEventOutcome)) → apply b e ≡ o → AreEventResultsAlike marks (Some (d, t)) o → Same marks e c d b t
    go None k g = absurd g
    go (Some done) k g = record { mid = done.0; done = k ∙ ap (λ z. Some (done.0, z)) (sym g.1); agree = g.0; cause = cause_alike marks c b e a free }

-- the events that see no marked node run from a chip, each the same cause with the same outcome as among all
abbrev KeepsRun : (ℕ → Bool) → List NodeRecord → List (EventWithLook × MadeEventOutcome) → Type 0
KeepsRun marks b ts = (now : List NodeRecord) × (run_events b (events_of_causes (kept marks (causes ts))) ≡ Some (now, unflagged_elements (dependent_flags_from_marks marks (causes ts)) ts))

run_dropped : (marks : ℕ → Bool) (k : EventWithLook) (b : List NodeRecord) (t : MadeEventOutcome) (ts : List (EventWithLook × MadeEventOutcome)) → observes_marked_node marks k ≡ true → KeepsRun (λ n. marks n || event_with_look_touches_node k n) b ts → KeepsRun marks b ((k, t) ∷ ts)
run_dropped marks k b t ts m h = rw m h

run_stays : (marks : ℕ → Bool) (e : Event) (c b mid : List NodeRecord) (t : MadeEventOutcome) (ts : List (EventWithLook × MadeEventOutcome)) → event_with_look_on_chip c e ≡ event_with_look_on_chip b e → observes_marked_node marks (event_with_look_on_chip c e) ≡ false → apply b e ≡ Some (mid, t) → KeepsRun marks mid ts → KeepsRun marks b ((event_with_look_on_chip c e, t) ∷ ts)
run_stays marks e c b mid t ts q m h k =
    rw m (k.0, run_more b e (events_of_causes (kept marks (causes ts))) mid k.0 t _ h k.1 ∙ ap (λ (z : EventWithLook). Some (k.0, (z, t) ∷ unflagged_elements (dependent_flags_from_marks marks (causes ts)) ts)) (sym q))

-- the events that meet no mark do on a chip that agrees elsewhere what they did among all
pub run_kept : (marks : ℕ → Bool) (es : List Event) (c b last : List NodeRecord) (ts : List (EventWithLook × MadeEventOutcome)) → AgreeOutsideMarks marks c b → run_events c es ≡ Some (last, ts) → KeepsRun marks b ts
run_kept marks [] c b last ts a h =
    subst (λ z. KeepsRun marks b z) (ap (λ (z : List NodeRecord × List (EventWithLook × MadeEventOutcome)). z.1) (same_Some _ _ h)) (b, refl)
run_kept marks (e ∷ es) c b last ts a h =
    let f = first_of_run c e es last ts h in
    subst (λ z. KeepsRun marks b z) (sym f.all)
    (⊎_elim
    (λ m. run_dropped marks (event_with_look_on_chip c e) b f.told f.others m (run_kept (λ n. marks n || event_with_look_touches_node (event_with_look_on_chip c e) n) es f.mid b last f.others (AgreeOutsideMarks-marked_nodes marks e c f.mid b f.told a f.first) f.then))
    (λ m. let s = same_of marks e c f.mid b f.told a m f.first in
    run_stays marks e c b s.mid f.told f.others s.cause m s.done (run_kept marks es f.mid s.mid last f.others s.agree f.then))
    (cases_Bool (observes_marked_node marks (event_with_look_on_chip c e))))

abbrev RestRuns : List NodeRecord → ℕ → List (EventWithLook × MadeEventOutcome) → Type 0
RestRuns chip i ts = (now : List NodeRecord) × (run_events chip (events_of_causes (rest (causes ts) i)) ≡ Some (now, unflagged_elements (dependent_flags (causes ts) i) ts))

-- the list without what depends on a place runs too, with the same outcomes
pub run_rest : (chip : List NodeRecord) (es : List Event) (i : ℕ) (last : List NodeRecord) (ts : List (EventWithLook × MadeEventOutcome)) → run_events chip es ≡ Some (last, ts) → RestRuns chip i ts
run_rest chip [] i last ts h = subst (λ z. RestRuns chip i z) (ap (λ (z : List NodeRecord × List (EventWithLook × MadeEventOutcome)). z.1) (same_Some _ _ h)) (chip, refl)
run_rest chip (e ∷ es) zero last ts h =
    let f = first_of_run chip e es last ts h in
    subst (λ z. RestRuns chip zero z) (sym f.all)
    (run_kept (event_with_look_touches_node (event_with_look_on_chip chip e)) es f.mid chip last f.others (AgreeOutsideMarks-sym (event_with_look_touches_node (event_with_look_on_chip chip e)) chip f.mid (keeps_of chip e f.mid f.told f.first)) f.then)
run_rest chip (e ∷ es) (suc i) last ts h =
    let f = first_of_run chip e es last ts h in
    let k = run_rest f.mid es i last f.others f.then in
    subst (λ z. RestRuns chip (suc i) z) (sym f.all)
    (k.0, run_more chip e (events_of_causes (rest (causes f.others) i)) f.mid k.0 f.told _ f.first k.1)

-- ---- Neighbours of which neither can depend on the other.

any_none : (marks : ℕ → Bool) (ns : List ℕ) → ((n : ℕ) → list_any (λ m. m == n) ns ≡ true → marks n ≡ false) → list_any marks ns ≡ false
any_none marks [] h = refl
any_none marks (n ∷ ns) h = or_from (marks n) (list_any marks ns) (h n (or_left _ (list_any (λ m. m == n) ns) (eq-eqb n n refl))) (any_none marks ns (λ k t. h k (or_right (n == k) (list_any (λ m. m == k) ns) t)))

pub apart_meets : (e f : EventWithLook) → ((n : ℕ) → event_with_look_touches_node e n ≡ true → event_observes_node f n ≡ true → ⊥) → observes_marked_node (event_with_look_touches_node e) f ≡ false
apart_meets e f h = any_none (event_with_look_touches_node e) (nodes_observed_by_event f) (λ n t. false_from_ne_true (event_with_look_touches_node e n) (λ u. h n u t))

none_of : (marks : ℕ → Bool) (o : Option (List NodeRecord × MadeEventOutcome)) → AreEventResultsAlike marks None o → o ≡ None
none_of marks None a = refl
none_of marks (Some done) a = absurd a

refused_of : (e f : Event) (c b : List NodeRecord) (t : MadeEventOutcome) → observes_marked_node (event_with_look_touches_node (event_with_look_on_chip c f)) (event_with_look_on_chip c e) ≡ false → apply c e ≡ None → apply c f ≡ Some (b, t) → apply b e ≡ None
refused_of e f c b t h r k =
    none_of (event_with_look_touches_node (event_with_look_on_chip c f)) (apply b e)
    (subst (λ o. AreEventResultsAlike (event_with_look_touches_node (event_with_look_on_chip c f)) o (apply b e)) r
    (apply_alike (event_with_look_touches_node (event_with_look_on_chip c f)) c b e (keeps_of c f b t k) h))

pub same_chip : (e f : Event) (c d b p q : List NodeRecord) (te tf : MadeEventOutcome) → AreIndependentEvents (event_with_look_on_chip c e) (event_with_look_on_chip c f) → apply d f ≡ Some (p, tf) → apply b e ≡ Some (q, te) → event_with_look_on_chip c f ≡ event_with_look_on_chip d f → event_with_look_on_chip c e ≡ event_with_look_on_chip b e → AgreeOutsideMarks (event_with_look_touches_node (event_with_look_on_chip c e)) b p → AgreeOutsideMarks (event_with_look_touches_node (event_with_look_on_chip c f)) d q → p ≡ q
same_chip e f c d b p q te tf h df be cf ce x y =
    let u : AgreeOutsideMarks (event_with_look_touches_node (event_with_look_on_chip c f)) d p = subst (λ z. AgreeOutsideMarks (event_with_look_touches_node z) d p) (sym cf) (keeps_of d f p tf df) in
    let v : AgreeOutsideMarks (event_with_look_touches_node (event_with_look_on_chip c e)) b q = subst (λ z. AgreeOutsideMarks (event_with_look_touches_node z) b q) (sym ce) (keeps_of b e q te be) in
    ext_get_or (record_of_node default_node) p q (sym x.size ∙ v.size)
    (λ n l. elim (cases_Bool (event_with_look_touches_node (event_with_look_on_chip c e) n)) [
      | inl t ↦ (let g : event_with_look_touches_node (event_with_look_on_chip c f) n ≡ false = false_from_ne_true (event_with_look_touches_node (event_with_look_on_chip c f) n) (λ w. h.first n t (observes_marked_node-touched (λ m. m == n) (event_with_look_on_chip c f) w)) in sym (u.same n g) ∙ y.same n g)
      | inr g ↦ sym (x.same n g) ∙ v.same n g
    ])

-- the two in either order: the chip is the same, and each is the same cause with the same outcome
pub run_swapped : (c : List NodeRecord) (e f : Event) → AreIndependentEvents (event_with_look_on_chip c e) (event_with_look_on_chip c f) → option_map {U = List NodeRecord × List (EventWithLook × MadeEventOutcome)} (λ r. (r.0, reverse r.1)) (run_events c (e ∷ f ∷ [])) ≡ run_events c (f ∷ e ∷ [])
run_swapped c e f h = go (apply c e) refl (apply c f) refl
  where
    x : observes_marked_node (event_with_look_touches_node (event_with_look_on_chip c e)) (event_with_look_on_chip c f) ≡ false
    x = apart_meets (event_with_look_on_chip c e) (event_with_look_on_chip c f) h.first

    y : observes_marked_node (event_with_look_touches_node (event_with_look_on_chip c f)) (event_with_look_on_chip c e) ≡ false
    y = apart_meets (event_with_look_on_chip c f) (event_with_look_on_chip c e) h.second

    go : (oe : Option (List NodeRecord × MadeEventOutcome)) → apply c e ≡ oe → (of : Option (List NodeRecord × MadeEventOutcome)) → apply c f ≡ of → option_map {U = List NodeRecord × List (EventWithLook × MadeEventOutcome)} (λ r. (r.0, reverse r.1)) (run_events c (e ∷ f ∷ [])) ≡ run_events c (f ∷ e ∷ [])
    go None i None j = rw (i, j) refl
    go None i (Some b) j = rw (i, j, refused_of e f c b.0 b.1 y i j) refl
    go (Some d) i None j = rw (i, j, refused_of f e c d.0 d.1 x j i) refl
    go (Some d) i (Some b) j =
        let s = same_of (event_with_look_touches_node (event_with_look_on_chip c e)) f c b.0 d.0 b.1 (keeps_of c e d.0 d.1 i) x j in
        let z = same_of (event_with_look_touches_node (event_with_look_on_chip c f)) e c d.0 b.0 d.1 (keeps_of c f b.0 b.1 j) y i in
        let k : s.mid ≡ z.mid = same_chip e f c d.0 b.0 s.mid z.mid d.1 b.1 h s.done z.done s.cause z.cause s.agree z.agree in
        rw (i, j, s.done, z.done, k) (ap (λ (w : List (EventWithLook × MadeEventOutcome)). Some (z.mid, w)) (pair_up s.cause z.cause))
      where
        pair_up : event_with_look_on_chip c f ≡ event_with_look_on_chip d.0 f → event_with_look_on_chip c e ≡ event_with_look_on_chip b.0 e → ◌≡◌ {A = List (EventWithLook × MadeEventOutcome)} ((event_with_look_on_chip d.0 f, b.1) ∷ (event_with_look_on_chip c e, d.1) ∷ []) ((event_with_look_on_chip c f, b.1) ∷ (event_with_look_on_chip b.0 e, d.1) ∷ [])
        pair_up p q = ap (λ (w : EventWithLook). (w, b.1) ∷ (event_with_look_on_chip c e, d.1) ∷ []) (sym p) ∙ ap (λ (w : EventWithLook). (event_with_look_on_chip c f, b.1) ∷ (w, d.1) ∷ []) q

chip_of : (o : Option (List NodeRecord × List (EventWithLook × MadeEventOutcome))) → option_map {U = List NodeRecord} (λ r. r.0) (option_map {U = List NodeRecord × List (EventWithLook × MadeEventOutcome)} (λ r. (r.0, reverse r.1)) o) ≡ option_map (λ r. r.0) o
chip_of None = refl
chip_of (Some r) = refl

pub replay_swapped : (c : List NodeRecord) (e f : Event) → AreIndependentEvents (event_with_look_on_chip c e) (event_with_look_on_chip c f) → replay c (e ∷ f ∷ []) ≡ replay c (f ∷ e ∷ [])
replay_swapped c e f h = sym (chip_of (run_events c (e ∷ f ∷ []))) ∙ ap (λ o. option_map (λ r. r.0) o) (run_swapped c e f h)

chip_more : (t : EventWithLook × MadeEventOutcome) (o : Option (List NodeRecord × List (EventWithLook × MadeEventOutcome))) → option_map {U = List NodeRecord} (λ r. r.0) (option_map {U = List NodeRecord × List (EventWithLook × MadeEventOutcome)} (λ rest. (rest.0, t ∷ rest.1)) o) ≡ option_map (λ r. r.0) o
chip_more t None = refl
chip_more t (Some r) = refl

replay_first : (c : List NodeRecord) (e : Event) (es : List Event) (o : Option (List NodeRecord × MadeEventOutcome)) → option_map {U = List NodeRecord} (λ r. r.0) (option_and_then {U = List NodeRecord × List (EventWithLook × MadeEventOutcome)} (λ first. option_map {U = List NodeRecord × List (EventWithLook × MadeEventOutcome)} (λ rest. (rest.0, (event_with_look_on_chip c e, first.1) ∷ rest.1)) (run_events first.0 es)) o) ≡ option_and_then (λ first. replay first.0 es) o
replay_first c e es None = refl
replay_first c e es (Some done) = chip_more (event_with_look_on_chip c e, done.1) (run_events done.0 es)

pub replay-cons : (c : List NodeRecord) (e : Event) (es : List Event) → replay c (e ∷ es) ≡ option_and_then (λ first. replay first.0 es) (apply c e)
replay-cons c e es = replay_first c e es (apply c e)

replay-append : (c : List NodeRecord) (xs ys : List Event) → replay c (xs ++ ys) ≡ option_and_then (λ d. replay d ys) (replay c xs)
replay-append c [] ys = refl
replay-append c (e ∷ xs) ys = replay-cons c e (xs ++ ys) ∙ go (apply c e) (λ d. replay-append d xs ys) ∙ ap (λ o. option_and_then (λ d. replay d ys) o) (sym (replay-cons c e xs))
  where
    go : (o : Option (List NodeRecord × MadeEventOutcome)) → ((d : List NodeRecord) → replay d (xs ++ ys) ≡ option_and_then (λ d. replay d ys) (replay d xs)) → option_and_then (λ first. replay first.0 (xs ++ ys)) o ≡ option_and_then (λ d. replay d ys) (option_and_then (λ first. replay first.0 xs) o)
    go None ih = refl
    go (Some done) ih = ih done.0

-- equivalent lists lead to the same chip
pub replay_equivalent : (c : List NodeRecord) (xs ys : List Event) → AreEquivalentLists c xs ys → replay c xs ≡ replay c ys
replay_equivalent c xs ys same = refl
replay_equivalent c xs ys (swapped {e} {f} {xs = zs} h) =
    replay-append c (e ∷ f ∷ []) zs ∙ ap (λ o. option_and_then (λ d. replay d zs) o) (replay_swapped c e f h) ∙ sym (replay-append c (f ∷ e ∷ []) zs)
replay_equivalent c xs ys (later {now} {e} {xs = us} {ys = vs} h k) =
    replay-cons c e us ∙ ap (λ o. option_and_then (λ first. replay first.0 us) o) h ∙ replay_equivalent now us vs k ∙ sym (ap (λ o. option_and_then (λ first. replay first.0 vs) o) h) ∙ sym (replay-cons c e vs)
replay_equivalent c xs ys (joined {ys = zs} h k) = replay_equivalent c xs zs h ∙ replay_equivalent c zs ys k
