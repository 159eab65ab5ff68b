-- The events on which one depends, and colours and lines appended one after another.
use Rattle.std.proofs.Common.{◌≡◌, ℕ, ◌==◌, Bool, true, false, List, [], ◌∷◌, refl, sym, subst, ⊎_elim, eqb-true, eq-eqb, ◌+◌, ◌<◌, ◌≤◌, ◌⊎◌, ◌↔◌, ◌||◌, length, set, replicate, ◌∙◌, inl, inr, arith, IsTrue, slice_index_or, length-set, get_or-set_same, get_or-set_other, zero, suc, ◌++◌, Some, ap, slice_get, slice_index, length-append, Option}
use Rattle.std.specs.List.{list_any}
use Rattle.std.proofs.lemmas.Bool.{or_left, or_right, or_cases, both_ways, cases_eq, cases_Bool}
use Rattle.ga_causal.proofs.Exact.{any-mono, rule_meets, meets_rule}
use Rattle.std.proofs.lemmas.List.{length-replicate}
use Rattle.ga_event.specs.declared.event.EventWithLook.{EventWithLook}
use Rattle.ga_event.specs.Touches.{nodes_observed_by_event}
use Rattle.ga_causal.specs.Dependence.{touched_nodes, event_with_look_touches_node, event_at, DependsDirectly, DependsOn, itself, through}
use Rattle.ga_causal.specs.Equivalence.{event_observes_node}
use Rattle.ga_causal.proofs.OldestEventPlaces.{none_marked, DependsOn-order as ordered}
use Rattle.std.proofs.lemmas.Option.{same_Some, slice_get_within}
use Rattle.std.proofs.lemmas.Grind.{get_or-set_at}
use Rattle.ga_grid.specs.declared.node_id.NodeId.{NodeId}
use Rattle.ga_picture.specs.inner.{AreLinesOfNodes}
use Rattle.ga_picture.specs.declared.shade.Shade.{Shade}
use Rattle.ga_picture.specs.declared.shade.Shade.TheVariants.{Black, Grey, Red}
use Rattle.ga_picture.specs.Drawing.{IsRemovedByRollback, IsCauseOfStep, IsShadeOfEvent}

-- ---- the events on which one depends, found from the newest on

-- ---- tests on the nodes of a list

-- one of a list that passes
pub any_of_one : (p : ℕ → Bool) (n : ℕ) → p n ≡ true → (ns : List ℕ) → list_any (λ m. m == n) ns ≡ true → list_any p ns ≡ true
any_of_one p n h ns t = any-mono (λ k. k == n) p (λ k q. subst (λ z. p z ≡ true) (sym (eqb-true k n q)) h) ns t

pub any_at : (p : ℕ → Bool) (ns : List ℕ) → list_any p ns ≡ true → (n : ℕ) × (list_any (λ m. m == n) ns ≡ true) × (p n ≡ true)
any_at p [] t = absurd (both_ways false refl t)
any_at p (m ∷ ms) t = ⊎_elim
    (λ u. (m, or_left (m == m) (list_any (λ k. k == m) ms) (eq-eqb m m refl), u))
    (λ u. let r = any_at p ms u in (r.0, or_right (m == r.0) (list_any (λ k. k == r.0) ms) r.1, r.2))
    (or_cases (p m) (list_any p ms) t)

-- the first link of a chain of dependence
pub record First (es : List EventWithLook) (i j : ℕ) : Type 0 where
  pub middle : ℕ
  pub direct : DependsDirectly es i middle
  pub more : DependsOn es middle j

pub first_link : (es : List EventWithLook) (i j : ℕ) → DependsOn es i j → (i ≡ j) ⊎ First es i j
first_link es i j itself = inl refl
first_link es i j (through {middle} d s) = ⊎_elim
    (λ e. inr (record { middle = j; direct = subst (λ z. DependsDirectly es z j) (sym e) s; more = itself }))
    (λ f. inr (record { middle = f.middle; direct = f.direct; more = through {middle = middle} f.more s }))
    (first_link es i middle d)

pub joined : (es : List EventWithLook) (i m j : ℕ) → DependsDirectly es i m → DependsOn es m j → DependsOn es i j
joined es i m j s itself = through {middle = i} itself s
joined es i m j s (through {middle} d t) = through {middle = middle} (joined es i m middle s d) t

-- an event from a place on, on which the last depends, sees the node
pub record IsWanted (es : List EventWithLook) (last at n : ℕ) : Type 0 where
  pub middle : ℕ
  pub behind : at ≤ middle
  pub depends : DependsOn es middle last
  pub seen : event_observes_node (event_at es middle) n ≡ true

-- what holds once the events from a place on are looked at
pub record AreGrounds (es : List EventWithLook) (last at : ℕ) (flags : List Bool) (marks : ℕ → Bool) : Type 0 where
  pub size : length flags ≡ length es
  pub done : (j : ℕ) → at ≤ j → j < length es → IsTrue (slice_index_or flags j false) ↔ DependsOn es j last
  pub ahead : (j : ℕ) → j < at → slice_index_or flags j false ≡ false
  pub into : (n : ℕ) → marks n ≡ true → IsWanted es last at n
  pub back : (n : ℕ) → IsWanted es last at n → marks n ≡ true

-- an event that touches a wanted node
direct_to : (es : List EventWithLook) (last at n : ℕ) → last < length es → IsWanted es last (at + 1) n → event_with_look_touches_node (event_at es at) n ≡ true → DependsOn es at last
unfolding nodes_observed_by_event
direct_to es last at n within w t = joined es at w.middle last
    (record {
      before = omega (arith, w.behind);
      within = omega (arith, ordered es w.middle last w.depends);
      by_rule = meets_rule (event_at es at) (event_at es w.middle) (any_of_one (event_with_look_touches_node (event_at es at)) n t (nodes_observed_by_event (event_at es w.middle)) w.seen);
    })
    w.depends

pub met_depends : (es : List EventWithLook) (last at : ℕ) (flags : List Bool) (marks : ℕ → Bool) → last < length es → AreGrounds es last (at + 1) flags marks → list_any marks (touched_nodes (event_at es at)) ≡ true → DependsOn es at last
met_depends es last at flags marks within g t =
    let r = any_at marks (touched_nodes (event_at es at)) t in
    direct_to es last at r.0 within (g.into r.0 r.2) r.1

pub depends_met : (es : List EventWithLook) (last at : ℕ) (flags : List Bool) (marks : ℕ → Bool) → at < last → AreGrounds es last (at + 1) flags marks → DependsOn es at last → list_any marks (touched_nodes (event_at es at)) ≡ true
unfolding nodes_observed_by_event
depends_met es last at flags marks under g d = ⊎_elim
    (λ e. absurd (omega (arith, e)))
    (λ f. let r = any_at (event_with_look_touches_node (event_at es at)) (nodes_observed_by_event (event_at es f.middle)) (rule_meets (event_at es at) (event_at es f.middle) f.direct.by_rule) in
    any_of_one marks r.0 (g.back r.0 (record { middle = f.middle; behind = omega (arith, f.direct.before); depends = f.more; seen = r.1 })) (touched_nodes (event_at es at)) r.2)
    (first_link es at last d)

-- the last one is a ground of itself
pub grounds_first : (es : List EventWithLook) (last : ℕ) (marks : ℕ → Bool) → last < length es → ((n : ℕ) → marks n ≡ event_observes_node (event_at es last) n) → AreGrounds es last last (set (replicate (length es) false) last true) marks
grounds_first es last marks l m =
    let size : length (replicate (length es) false) ≡ length es = length-replicate (length es) false in
    let within : last < length (replicate (length es) false) = omega arith in
    record {
      size = length-set (replicate (length es) false) last true ∙ length-replicate (length es) false;
      done = λ j b k. elim (cases_eq j last) [
        | inl e ↦ (λ t. subst (λ z. DependsOn es z last) (sym e) itself, λ d. subst (λ z. slice_index_or (set (replicate (length es) false) last true) z false ≡ true) (sym e) (get_or-set_same (replicate (length es) false) last true false within))
        | inr ne ↦ (
          λ t. absurd (both_ways (slice_index_or (set (replicate (length es) false) last true) j false) (get_or-set_other (replicate (length es) false) last j true false ne ∙ none_marked (length es) j) t),
          λ d. absurd (omega (arith, ordered es j last d, ne)),
        )
      ];
      ahead = λ j u. get_or-set_other (replicate (length es) false) last j true false (λ e. omega (arith, e)) ∙ none_marked (length es) j;
      into = λ n t. record { middle = last; behind = omega arith; depends = itself; seen = sym (m n) ∙ t };
      back = λ n w. let same : w.middle ≡ last = omega (arith, w.behind, ordered es w.middle last w.depends) in
          m n ∙ subst (λ z. event_observes_node (event_at es z) n ≡ true) same w.seen;
    }

-- one event more, which touches a wanted node
pub grounds_met : (es : List EventWithLook) (last at : ℕ) (flags : List Bool) (marks more : ℕ → Bool) → last < length es → at < last → AreGrounds es last (at + 1) flags marks → list_any marks (touched_nodes (event_at es at)) ≡ true → ((n : ℕ) → more n ≡ (marks n || event_observes_node (event_at es at) n)) → AreGrounds es last at (set flags at true) more
grounds_met es last at flags marks more l u g t m =
    let here : DependsOn es at last = met_depends es last at flags marks l g t in
    let size : length flags ≡ length es = g.size in
    let within : at < length flags = omega arith in
    record {
      size = length-set flags at true ∙ g.size;
      done = λ j b k. elim (cases_eq j at) [
        | inl e ↦ (λ s. subst (λ z. DependsOn es z last) (sym e) here, λ d. subst (λ z. slice_index_or (set flags at true) z false ≡ true) (sym e) (get_or-set_same flags at true false within))
        | inr ne ↦ subst (λ z. IsTrue z ↔ DependsOn es j last) (sym (get_or-set_other flags at j true false ne)) (g.done j (omega (arith, ne)) k)
      ];
      ahead = λ j v. get_or-set_other flags at j true false (λ e. omega (arith, e)) ∙ g.ahead j (omega arith);
      into = λ n s. ⊎_elim
          (λ v. let w = g.into n v in record { middle = w.middle; behind = omega (arith, w.behind); depends = w.depends; seen = w.seen })
          (λ v. record { middle = at; behind = omega arith; depends = here; seen = v })
          (or_cases (marks n) (event_observes_node (event_at es at) n) (sym (m n) ∙ s));
      back = λ n w. m n ∙ elim (cases_eq w.middle at) [
        | inl e ↦ or_right (marks n) (event_observes_node (event_at es at) n) (subst (λ z. event_observes_node (event_at es z) n ≡ true) e w.seen)
        | inr ne ↦ or_left (marks n) (event_observes_node (event_at es at) n) (g.back n (record { middle = w.middle; behind = omega (arith, w.behind, ne); depends = w.depends; seen = w.seen }))
      ];
    }

-- one event more, which touches none
pub grounds_not : (es : List EventWithLook) (last at : ℕ) (flags : List Bool) (marks : ℕ → Bool) → last < length es → at < last → AreGrounds es last (at + 1) flags marks → list_any marks (touched_nodes (event_at es at)) ≡ false → AreGrounds es last at flags marks
grounds_not es last at flags marks l u g f =
    let free : ¬ DependsOn es at last = λ d. both_ways (list_any marks (touched_nodes (event_at es at))) f (depends_met es last at flags marks u g d) in
    record {
      size = g.size;
      done = λ j b k. elim (cases_eq j at) [
        | inl e ↦ (
          λ s. absurd (both_ways (slice_index_or flags j false) (g.ahead j (omega (arith, e))) s),
          λ d. absurd (free (subst (λ z. DependsOn es z last) e d)),
        )
        | inr ne ↦ g.done j (omega (arith, ne)) k
      ];
      ahead = λ j v. g.ahead j (omega arith);
      into = λ n s. let w = g.into n s in record { middle = w.middle; behind = omega (arith, w.behind); depends = w.depends; seen = w.seen };
      back = λ n w. elim (cases_eq w.middle at) [
        | inl e ↦ absurd (free (subst (λ z. DependsOn es z last) e w.depends))
        | inr ne ↦ g.back n (record { middle = w.middle; behind = omega (arith, w.behind, ne); depends = w.depends; seen = w.seen })
      ];
    }

-- ---- lines appended one after another, and the entry at an index of a growing list

-- an empty list has no entry
pub none_at : {A : Type 0} (i : ℕ) (x : A) → slice_get [] i ≡ Some x → ⊥
none_at i x e = let b : i < 0 = slice_get_within [] i x e in omega arith

pub get_last : {A : Type 0} (xs : List A) (y : A) → slice_get (xs ++ y ∷ []) (length xs) ≡ Some y
get_last [] y = refl
get_last (x ∷ xs) y = get_last xs y

pub get_front : {A : Type 0} (xs ys : List A) (i : ℕ) (x : A) → slice_get xs i ≡ Some x → slice_get (xs ++ ys) i ≡ Some x
get_front [] ys i x e = absurd (none_at i x e)
get_front (z ∷ xs) ys zero x e = e
get_front (z ∷ xs) ys (suc i) x e = get_front xs ys i x e

pub get_pushed : {A : Type 0} (xs : List A) (y : A) (i : ℕ) (x : A) → slice_get (xs ++ y ∷ []) i ≡ Some x → (slice_get xs i ≡ Some x) ⊎ ((i ≡ length xs) × (x ≡ y))
get_pushed [] y zero x e = inr (refl, sym (same_Some y x e))
get_pushed [] y (suc i) x e = absurd (none_at i x e)
get_pushed (z ∷ xs) y zero x e = inl e
get_pushed (z ∷ xs) y (suc i) x e = ⊎_elim inl (λ q. inr (ap suc q.0, q.1)) (get_pushed xs y i x e)

pub lines_none : (used : ℕ → Bool) → AreLinesOfNodes used [] (replicate 144 0) 0
lines_none used = record {
  size = length-replicate {A = ℕ} 144 0;
  few = omega arith;
  found = λ n l u. absurd (omega (arith, l));
  below = λ i m e. absurd (none_at i m e);
  needed = λ i m e. absurd (none_at i m e);
  rising = λ i j m k e f l. absurd (none_at i m e);
}

-- a node without a line
pub lines_same : (used : ℕ → Bool) (lines : List NodeId) (columns : List ℕ) (k : ℕ) → AreLinesOfNodes used lines columns k → used k ≡ false → AreLinesOfNodes used lines columns (k + 1)
lines_same used lines columns k a f = record {
  size = a.size;
  few = omega (arith, a.few);
  found = λ n l u. elim (cases_eq n k) [
    | inl e ↦ absurd (both_ways (used k) f (subst (λ z. used z ≡ true) e u))
    | inr ne ↦ a.found n (omega (arith, l, ne)) u
  ];
  below = λ i m e. omega (arith, a.below i m e);
  needed = a.needed;
  rising = a.rising;
}

-- a node with a line
pub lines_more : (used : ℕ → Bool) (lines : List NodeId) (columns : List ℕ) (k : ℕ) (node : NodeId) → k < 144 → node.number ≡ k → AreLinesOfNodes used lines columns k → used k ≡ true → AreLinesOfNodes used (lines ++ node ∷ []) (set columns k (length lines)) (k + 1)
lines_more used lines columns k node l is a t =
    let size : length columns ≡ 144 = a.size in
    let within : k < length columns = omega arith in
    record {
      size = length-set columns k (length lines) ∙ a.size;
      few = let more : length (lines ++ node ∷ []) ≡ length lines + 1 = length-append lines (node ∷ []) in omega (arith, a.few);
      found = λ n b u. elim (cases_eq n k) [
        | inl e ↦ record {
          at = node;
          found = subst (λ z. slice_get (lines ++ node ∷ []) z ≡ Some node) (sym (get_or-set_at columns k n (length lines) 0 e within)) (get_last lines node);
          is = is ∙ sym e;
        }
        | inr ne ↦ (let w = a.found n (omega (arith, b, ne)) u in
            record {
              at = w.at;
              found = subst (λ z. slice_get (lines ++ node ∷ []) z ≡ Some w.at) (sym (get_or-set_other columns k n (length lines) 0 ne)) (get_front lines (node ∷ []) (slice_index columns n) w.at w.found);
              is = w.is;
            })
      ];
      below = λ i m e. ⊎_elim (λ q. omega (arith, a.below i m q)) (λ q. let s : m.number ≡ node.number = ap (λ (z : NodeId). z.number) q.1 in omega arith) (get_pushed lines node i m e);
      needed = λ i m e. ⊎_elim (λ q. a.needed i m q) (λ q. subst (λ z. used z ≡ true) (sym (ap (λ (z : NodeId). z.number) q.1 ∙ is)) t) (get_pushed lines node i m e);
      rising = λ i j m n e f b. ⊎_elim
          (λ p. ⊎_elim (λ q. a.rising i j m n p q b) (λ q. let s : n.number ≡ node.number = ap (λ (z : NodeId). z.number) q.1 in omega (arith, a.below i m p)) (get_pushed lines node j n f))
          (λ p. let here : i ≡ length lines = p.0 in let more : length (lines ++ node ∷ []) ≡ length lines + 1 = length-append lines (node ∷ []) in absurd (omega (arith, slice_get_within (lines ++ node ∷ []) j n f)))
          (get_pushed lines node i m e);
    }

-- ---- colours put one after another

pub is_shade : (es : List EventWithLook) (cause rewind : Option ℕ) (place : ℕ) (goes leads : Bool) (s : Shade) → IsTrue goes ↔ IsRemovedByRollback es rewind place → IsTrue leads ↔ IsCauseOfStep es cause place
    → (goes ≡ true → s ≡ Red) → (goes ≡ false → leads ≡ true → s ≡ Black) → (goes ≡ false → leads ≡ false → s ≡ Grey) → IsShadeOfEvent es cause rewind place s
is_shade es cause rewind place goes leads s g l red black grey = ⊎_elim
    (λ t. subst (λ z. IsShadeOfEvent es cause rewind place z) (sym (red t)) (g.0 t))
    (λ f. let stays : ¬ IsRemovedByRollback es rewind place = λ d. both_ways goes f (g.1 d) in ⊎_elim
    (λ t. subst (λ z. IsShadeOfEvent es cause rewind place z) (sym (black f t)) (stays, l.0 t))
    (λ v. subst (λ z. IsShadeOfEvent es cause rewind place z) (sym (grey f v)) (stays, λ d. both_ways leads v (l.1 d)))
    (cases_Bool leads))
    (cases_Bool goes)

-- what holds once the first events have their colours
pub record AreSome (es : List EventWithLook) (cause rewind : Option ℕ) (place : ℕ) (shades : List Shade) : Type 0 where
  pub count : length shades ≡ place
  pub exact : (k : ℕ) (s : Shade) → slice_get shades k ≡ Some s → IsShadeOfEvent es cause rewind k s

pub shades_none : (es : List EventWithLook) (cause rewind : Option ℕ) → AreSome es cause rewind 0 []
shades_none es cause rewind = record { count = refl; exact = λ k s e. absurd (none_at k s e) }

pub shades_more : (es : List EventWithLook) (cause rewind : Option ℕ) (place : ℕ) (shades : List Shade) (s : Shade) → AreSome es cause rewind place shades → IsShadeOfEvent es cause rewind place s → AreSome es cause rewind (place + 1) (shades ++ s ∷ [])
shades_more es cause rewind place shades s a h =
    let count : length shades ≡ place = a.count in
    let more : length (shades ++ s ∷ []) ≡ length shades + 1 = length-append shades (s ∷ []) in
    record {
      count = omega arith;
      exact = λ k x e. ⊎_elim (λ q. a.exact k x q)
          (λ q. subst (λ z. IsShadeOfEvent es cause rewind k z) (sym q.1) (subst (λ z. IsShadeOfEvent es cause rewind z s) (sym (q.0 ∙ a.count)) h))
          (get_pushed shades s k x e);
    }
