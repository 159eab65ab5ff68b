-- Which racing pairs of a look and a change each part of a search over a list adds.
use Rattle.std.proofs.Common.{◌≡◌, ℕ, ◌+◌, ◌<◌, ◌≤◌, ◌==◌, ◌⊎◌, Bool, true, false, ◌&&◌, ◌||◌, inl, inr, List, [], length, Contains, refl, sym, ◌∙◌, ap, subst, arith, eq-eqb, eqb-true}
use Rattle.std.specs.List.{list_any}
use Rattle.std.proofs.lemmas.List.{length-map}
use Rattle.std.proofs.lemmas.Bool.{cases_lt, cases_order, both_ways, or_cases, or_left, or_right, and_parts}
use Rattle.ga_ports.specs.declared.side.Side.{Side}
use Rattle.ga_ports.specs.declared.side.Side.TheVariants.{Right, Down, Left, Up}
use Rattle.ga_grid.specs.Grid.{neighbour_number}
use Rattle.ga_grid.specs.declared.node_id.NodeId.{NodeId}
use Rattle.ga_event.specs.declared.event.Event.{Event}
use Rattle.ga_event.specs.declared.event.Event.TheVariants.{Own, Pass}
use Rattle.ga_event.specs.Touches.{event_nodes, touches}
use Rattle.ga_event.specs.Apply.{equals_optional_number}
use Rattle.ga_races.specs.declared.act.EventAccess.{EventAccess}
use Rattle.ga_races.specs.declared.act.SideSet.{SideSet}
use Rattle.ga_races.specs.declared.racing_pairs.RacingPair.{RacingPair}
use Rattle.ga_races.specs.HappensBefore.{TraceAction, trace_action_at, is_look_changed_by, are_dependent_actions, directly, AreRacingActions}
use Rattle.ga_races.specs.Acts.{has_side_towards_node, changes_view_of_node, trace_action_of_event_access, trace_actions_of_accesses, is_node_own_event, is_look_of_node, IsRacingLook}
use Rattle.ga_races.specs.inner.{has_looked, AddsRacingPairs, IsPairAtPlaces, IsPairWithLookAtPlace, IsPairWithChangeAtPlace, IsPairWithLookOverSide, IsPairWithLookOverSides, IsPairWithLaterAtPlace, IsPairBelowPlace, AreLookingNodesMarked}
use Rattle.ga_races.proofs.Reaching.{or4_cases, and_both, bound_by_node, bound_by_look, bound_by_change}

-- ---- parts

pub nothing : (acts : List EventAccess) (asked : RacingPair → Type 0) (xs : List RacingPair) → ((z : RacingPair) → asked z → IsRacingLook acts z → ⊥) → AddsRacingPairs acts asked xs xs
nothing acts asked xs none = record { kept = λ z h. h; sound = λ z h. inl h; all = λ z a f. absurd (none z a f) }

pub weaker : (acts : List EventAccess) (p r : RacingPair → Type 0) (a b : List RacingPair) → AddsRacingPairs acts p a b → ((z : RacingPair) → r z → IsRacingLook acts z → p z) → AddsRacingPairs acts r a b
weaker acts p r a b m asks = record { kept = m.kept; sound = m.sound; all = λ z x f. m.all z (asks z x f) f }

pub chained : (acts : List EventAccess) (p q r : RacingPair → Type 0) (a b c : List RacingPair) → AddsRacingPairs acts p a b → AddsRacingPairs acts q b c → ((z : RacingPair) → r z → IsRacingLook acts z → p z ⊎ q z) → AddsRacingPairs acts r a c
chained acts p q r a b c m n asks = record { kept = λ z h. n.kept z (m.kept z h); sound = λ z h. from z (n.sound z h); all = λ z x f. into z f (asks z x f) }
  where
    from : (z : RacingPair) → Contains b z ⊎ IsRacingLook acts z → Contains a z ⊎ IsRacingLook acts z
    from z (inl h) = m.sound z h
    from z (inr f) = inr f

    into : (z : RacingPair) → IsRacingLook acts z → p z ⊎ q z → Contains c z
    into z f (inl x) = n.kept z (m.all z x f)
    into z f (inr x) = n.all z x f

-- ---- looks of a node

own_any : (e : Event) (n : ℕ) (marks : ℕ → Bool) → is_node_own_event e n ≡ true → marks n ≡ true → list_any marks (event_nodes e) ≡ true
own_any (Own m) n marks h mark = or_left (marks m.number) (list_any marks []) (ap marks (eqb-true m.number n h) ∙ mark)
own_any (Pass w r side) n marks h mark = absurd (both_ways false refl h)

own_touches : (e : Event) (n : ℕ) → is_node_own_event e n ≡ true → touches e n ≡ true
own_touches e n h = own_any e n (λ m. m == n) h (eq-eqb n n refl)

own_same : (e : Event) (n m : ℕ) → is_node_own_event e n ≡ true → is_node_own_event e m ≡ true → n ≡ m
own_same (Own k) n m a b = sym (eqb-true k.number n a) ∙ eqb-true k.number m b
own_same (Pass w r side) n m a b = absurd (both_ways false refl a)

look_same : (a : TraceAction) (n m : ℕ) → is_look_of_node a n ≡ true → is_look_of_node a m ≡ true → n ≡ m
look_same a n m h k = own_same a.cause.event n m (and_parts a.cause.look (is_node_own_event a.cause.event n) h).1 (and_parts a.cause.look (is_node_own_event a.cause.event m) k).1

shown_to : (a b : TraceAction) (n : ℕ) → is_look_of_node a n ≡ true → b.changes n ≡ true → is_look_changed_by a b ≡ true
shown_to a b n h k =
    let p = and_parts a.cause.look (is_node_own_event a.cause.event n) h in
    and_both a.cause.look (list_any b.changes (event_nodes a.cause.event)) p.0 (own_any a.cause.event n b.changes p.1 k)

both_touch : (a b : TraceAction) (n : ℕ) → is_look_of_node a n ≡ true → is_look_of_node b n ≡ true → list_any (touches a.cause.event) (event_nodes b.cause.event) ≡ true
both_touch a b n h k =
    own_any b.cause.event n (touches a.cause.event) (and_parts b.cause.look (is_node_own_event b.cause.event n) k).1
    (own_touches a.cause.event n (and_parts a.cause.look (is_node_own_event a.cause.event n) h).1)

-- a look and a change are no racing pair if an action between them is dependent with both
parted : (xs : List TraceAction) (first middle later : ℕ) → first < middle → middle < later → are_dependent_actions (trace_action_at xs first) (trace_action_at xs middle) ≡ true → are_dependent_actions (trace_action_at xs middle) (trace_action_at xs later) ≡ true
    → AreRacingActions xs first later → ⊥
parted xs first middle later l k a b near =
    let within : later < length xs = near.bound.within in
    near.none middle (directly (record { before = l; within = omega (arith, k, within); bound = a })) (directly (record { before = k; within = within; bound = b }))

first_near : (xs : List TraceAction) (i j : ℕ) → i < j → AreRacingActions xs i j ⊎ AreRacingActions xs j i → AreRacingActions xs i j
first_near xs i j l (inl n) = n
first_near xs i j l (inr n) = absurd (let k : j < i = n.bound.before in omega (arith, l, k))

second_near : (xs : List TraceAction) (i j : ℕ) → j < i → AreRacingActions xs i j ⊎ AreRacingActions xs j i → AreRacingActions xs j i
second_near xs i j l (inl n) = absurd (let k : i < j = n.bound.before in omega (arith, l, k))
second_near xs i j l (inr n) = n

-- ---- changes before a look

pub changes_first : (acts : List EventAccess) (look place : ℕ) (xs : List RacingPair) → look ≤ place → AddsRacingPairs acts (IsPairWithLookAtPlace look place) xs xs
changes_first acts look place xs l = nothing acts (IsPairWithLookAtPlace look place) xs (λ z r f. let a : z.change < look = r.1 in let b : place ≤ z.change = r.2 in absurd (omega (arith, l, a, b)))

pub changes_next : (acts : List EventAccess) (look place next : ℕ) (a b c : List RacingPair) → place ≤ next + 1 → AddsRacingPairs acts (IsPairWithLookAtPlace look place) a b → AddsRacingPairs acts (IsPairAtPlaces look next) b c → AddsRacingPairs acts (IsPairWithLookAtPlace look next) a c
changes_next acts look place next a b c l m n = chained acts (IsPairWithLookAtPlace look place) (IsPairAtPlaces look next) (IsPairWithLookAtPlace look next) a b c m n (λ z r f. asks z r)
  where
    asks : (z : RacingPair) → IsPairWithLookAtPlace look next z → IsPairWithLookAtPlace look place z ⊎ IsPairAtPlaces look next z
    asks z r =
        let k : next ≤ z.change = r.2 in
        elim (cases_lt next z.change) [
          | inl less ↦ inl (r.0, r.1, omega (arith, less, l))
          | inr more ↦ inr (r.0, omega (arith, more, k))
        ]

pub changes_end : (acts : List EventAccess) (look place : ℕ) (a b : List RacingPair) → place ≤ 0 → AddsRacingPairs acts (IsPairWithLookAtPlace look place) a b → AddsRacingPairs acts (IsPairWithLookAtPlace look 0) a b
changes_end acts look place a b l m = weaker acts (IsPairWithLookAtPlace look place) (IsPairWithLookAtPlace look 0) a b m (λ z r f. (r.0, r.1, omega (arith, l)))

-- the last look before it was shown what came before that
pub changes_stop : (acts : List EventAccess) (look place n : ℕ) (a b : List RacingPair) → place < look → is_look_of_node (trace_action_at (trace_actions_of_accesses acts) place) n ≡ true → is_look_of_node (trace_action_at (trace_actions_of_accesses acts) look) n ≡ true
    → AddsRacingPairs acts (IsPairWithLookAtPlace look place) a b → AddsRacingPairs acts (IsPairWithLookAtPlace look 0) a b
changes_stop acts look place n a b l first second m = weaker acts (IsPairWithLookAtPlace look place) (IsPairWithLookAtPlace look 0) a b m asks
  where
    asks : (z : RacingPair) → IsPairWithLookAtPlace look 0 z → IsRacingLook acts z → IsPairWithLookAtPlace look place z
    asks z r f = elim (cases_lt z.change place) [
      | inr more ↦ (r.0, r.1, more)
      | inl less ↦ (let same_node : n ≡ f.node = look_same (trace_action_at (trace_actions_of_accesses acts) look) n f.node second (subst (λ (k : ℕ). is_look_of_node (trace_action_at (trace_actions_of_accesses acts) k) f.node ≡ true) r.0 f.look) in
          let near : AreRacingActions (trace_actions_of_accesses acts) z.change look =
          second_near (trace_actions_of_accesses acts) look z.change r.1 (subst (λ (k : ℕ). AreRacingActions (trace_actions_of_accesses acts) k z.change ⊎ AreRacingActions (trace_actions_of_accesses acts) z.change k) r.0 f.order) in
          absurd (parted (trace_actions_of_accesses acts) z.change place look less l
          (bound_by_change (trace_action_at (trace_actions_of_accesses acts) z.change) (trace_action_at (trace_actions_of_accesses acts) place)
          (shown_to (trace_action_at (trace_actions_of_accesses acts) place) (trace_action_at (trace_actions_of_accesses acts) z.change) n first (subst (λ (k : ℕ). (trace_action_at (trace_actions_of_accesses acts) z.change).changes k ≡ true) (sym same_node) f.change)))
          (bound_by_node (trace_action_at (trace_actions_of_accesses acts) place) (trace_action_at (trace_actions_of_accesses acts) look) (both_touch (trace_action_at (trace_actions_of_accesses acts) place) (trace_action_at (trace_actions_of_accesses acts) look) n first second))
          near))
    ]

-- ---- the last look before a change

module _ (acts : List EventAccess) (change place n : ℕ) (l : place < change) (changes : (trace_action_at (trace_actions_of_accesses acts) change).changes n ≡ true)
    (none : (q : ℕ) → place < q → q < change → is_look_of_node (trace_action_at (trace_actions_of_accesses acts) q) n ≡ false) where
  near_of : (z : RacingPair) → IsPairWithChangeAtPlace acts change n z → IsRacingLook acts z → AreRacingActions (trace_actions_of_accesses acts) z.look change
  near_of z r f = first_near (trace_actions_of_accesses acts) z.look change r.1 (subst (λ (k : ℕ). AreRacingActions (trace_actions_of_accesses acts) z.look k ⊎ AreRacingActions (trace_actions_of_accesses acts) k z.look) r.0 f.order)

  later_none : (z : RacingPair) → IsPairWithChangeAtPlace acts change n z → place < z.look → ⊥
  later_none z r k = both_ways (is_look_of_node (trace_action_at (trace_actions_of_accesses acts) z.look) n) (none z.look k r.1) r.2

  pub look_found : (a b : List RacingPair) → is_look_of_node (trace_action_at (trace_actions_of_accesses acts) place) n ≡ true → AddsRacingPairs acts (IsPairAtPlaces place change) a b → AddsRacingPairs acts (IsPairWithChangeAtPlace acts change n) a b
  look_found a b look m = weaker acts (IsPairAtPlaces place change) (IsPairWithChangeAtPlace acts change n) a b m asks
    where
      asks : (z : RacingPair) → IsPairWithChangeAtPlace acts change n z → IsRacingLook acts z → IsPairAtPlaces place change z
      asks z r f = elim (cases_order z.look place) [
        | inl same ↦ (same, r.0)
        | inr (inr more) ↦ absurd (later_none z r more)
        | inr (inl less) ↦ absurd (parted (trace_actions_of_accesses acts) z.look place change less l
            (bound_by_node (trace_action_at (trace_actions_of_accesses acts) z.look) (trace_action_at (trace_actions_of_accesses acts) place) (both_touch (trace_action_at (trace_actions_of_accesses acts) z.look) (trace_action_at (trace_actions_of_accesses acts) place) n r.2 look))
            (bound_by_look (trace_action_at (trace_actions_of_accesses acts) place) (trace_action_at (trace_actions_of_accesses acts) change) (shown_to (trace_action_at (trace_actions_of_accesses acts) place) (trace_action_at (trace_actions_of_accesses acts) change) n look changes))
            (near_of z r f))
      ]

  pub look_hidden : (a : List RacingPair) → is_look_of_node (trace_action_at (trace_actions_of_accesses acts) place) n ≡ false
      → ((trace_action_at (trace_actions_of_accesses acts) place).changes n && list_any (touches (trace_action_at (trace_actions_of_accesses acts) place).cause.event) (event_nodes (trace_action_at (trace_actions_of_accesses acts) change).cause.event)) ≡ true
      → AddsRacingPairs acts (IsPairWithChangeAtPlace acts change n) a a
  look_hidden a out hides = nothing acts (IsPairWithChangeAtPlace acts change n) a asks
    where
      asks : (z : RacingPair) → IsPairWithChangeAtPlace acts change n z → IsRacingLook acts z → ⊥
      asks z r f =
          let p = and_parts ((trace_action_at (trace_actions_of_accesses acts) place).changes n) (list_any (touches (trace_action_at (trace_actions_of_accesses acts) place).cause.event) (event_nodes (trace_action_at (trace_actions_of_accesses acts) change).cause.event)) hides in
          elim (cases_order z.look place) [
            | inl same ↦ both_ways (is_look_of_node (trace_action_at (trace_actions_of_accesses acts) place) n) out (subst (λ (k : ℕ). is_look_of_node (trace_action_at (trace_actions_of_accesses acts) k) n ≡ true) same r.2)
            | inr (inr more) ↦ later_none z r more
            | inr (inl less) ↦ parted (trace_actions_of_accesses acts) z.look place change less l
                (bound_by_look (trace_action_at (trace_actions_of_accesses acts) z.look) (trace_action_at (trace_actions_of_accesses acts) place) (shown_to (trace_action_at (trace_actions_of_accesses acts) z.look) (trace_action_at (trace_actions_of_accesses acts) place) n r.2 p.0))
                (bound_by_node (trace_action_at (trace_actions_of_accesses acts) place) (trace_action_at (trace_actions_of_accesses acts) change) p.1)
                (near_of z r f)
          ]

pub look_none : (acts : List EventAccess) (change place n : ℕ) (a : List RacingPair) → place ≤ 0 → ((q : ℕ) → place ≤ q → q < change → is_look_of_node (trace_action_at (trace_actions_of_accesses acts) q) n ≡ false) → AddsRacingPairs acts (IsPairWithChangeAtPlace acts change n) a a
look_none acts change place n a l none =
    nothing acts (IsPairWithChangeAtPlace acts change n) a (λ z r f. both_ways (is_look_of_node (trace_action_at (trace_actions_of_accesses acts) z.look) n) (none z.look (omega (arith, l)) r.1) r.2)

-- ---- the looks that a change is shown to

abbrev OverThree : List EventAccess → ℕ → ℕ → SideSet → RacingPair → Type 0
OverThree acts change m sides z = (IsPairWithLookOverSide acts change m Right sides.right z ⊎ IsPairWithLookOverSide acts change m Down sides.down z) ⊎ IsPairWithLookOverSide acts change m Left sides.left z

pub four_sides : (acts : List EventAccess) (change m : ℕ) (sides : SideSet) (a b c d e : List RacingPair) → AddsRacingPairs acts (IsPairWithLookOverSide acts change m Right sides.right) a b → AddsRacingPairs acts (IsPairWithLookOverSide acts change m Down sides.down) b c
    → AddsRacingPairs acts (IsPairWithLookOverSide acts change m Left sides.left) c d → AddsRacingPairs acts (IsPairWithLookOverSide acts change m Up sides.up) d e → AddsRacingPairs acts (IsPairWithLookOverSides acts change m sides) a e
four_sides acts change m sides a b c d e r w l u =
    chained acts (OverThree acts change m sides) (IsPairWithLookOverSide acts change m Up sides.up) (IsPairWithLookOverSides acts change m sides) a d e
    (chained acts (λ z. IsPairWithLookOverSide acts change m Right sides.right z ⊎ IsPairWithLookOverSide acts change m Down sides.down z) (IsPairWithLookOverSide acts change m Left sides.left) (OverThree acts change m sides) a c d
    (chained acts (IsPairWithLookOverSide acts change m Right sides.right) (IsPairWithLookOverSide acts change m Down sides.down) (λ z. IsPairWithLookOverSide acts change m Right sides.right z ⊎ IsPairWithLookOverSide acts change m Down sides.down z) a b c r w (λ z x f. x))
    l (λ z x f. x))
    u (λ z x f. asks z x)
  where
    asks : (z : RacingPair) → IsPairWithLookOverSides acts change m sides z → OverThree acts change m sides z ⊎ IsPairWithLookOverSide acts change m Up sides.up z
    asks z x = elim (or4_cases (sides.right && equals_optional_number (neighbour_number m Right) x.0) (sides.down && equals_optional_number (neighbour_number m Down) x.0) (sides.left && equals_optional_number (neighbour_number m Left) x.0) (sides.up && equals_optional_number (neighbour_number m Up) x.0) x.2) [
      | inl y ↦ inl (inl (inl (x.0, x.1, y)))
      | inr (inl y) ↦ inl (inl (inr (x.0, x.1, y)))
      | inr (inr (inl y)) ↦ inl (inr (x.0, x.1, y))
      | inr (inr (inr y)) ↦ inr (x.0, x.1, y)
    ]

-- ---- what is near to a place

change_here : (acts : List EventAccess) (place : ℕ) (act : EventAccess) (z : RacingPair) (f : IsRacingLook acts z) → trace_action_of_event_access act ≡ trace_action_at (trace_actions_of_accesses acts) place → z.change ≡ place → changes_view_of_node act.cause.event act.first act.second f.node ≡ true
change_here acts place act z f is at = ap (λ (a : TraceAction). a.changes f.node) is ∙ subst (λ (k : ℕ). (trace_action_at (trace_actions_of_accesses acts) k).changes f.node ≡ true) at f.change

pub changes_own : (acts : List EventAccess) (place : ℕ) (act : EventAccess) (node : NodeId) → trace_action_of_event_access act ≡ trace_action_at (trace_actions_of_accesses acts) place → act.cause.event ≡ Own node
    → (n : ℕ) → has_side_towards_node act.first node.number n ≡ true → (trace_action_at (trace_actions_of_accesses acts) place).changes n ≡ true
changes_own acts place act node is own n h = sym (ap (λ (a : TraceAction). a.changes n) is) ∙ ap (λ (e : Event). changes_view_of_node e act.first act.second n) own ∙ h

pub changes_writer : (acts : List EventAccess) (place : ℕ) (act : EventAccess) (w r : NodeId) (side : Side) → trace_action_of_event_access act ≡ trace_action_at (trace_actions_of_accesses acts) place → act.cause.event ≡ Pass w r side
    → (n : ℕ) → has_side_towards_node act.first w.number n ≡ true → (trace_action_at (trace_actions_of_accesses acts) place).changes n ≡ true
changes_writer acts place act w r side is pass n h =
    sym (ap (λ (a : TraceAction). a.changes n) is) ∙ ap (λ (e : Event). changes_view_of_node e act.first act.second n) pass ∙ or_left (has_side_towards_node act.first w.number n) (has_side_towards_node act.second r.number n) h

pub changes_reader : (acts : List EventAccess) (place : ℕ) (act : EventAccess) (w r : NodeId) (side : Side) → trace_action_of_event_access act ≡ trace_action_at (trace_actions_of_accesses acts) place → act.cause.event ≡ Pass w r side
    → (n : ℕ) → has_side_towards_node act.second r.number n ≡ true → (trace_action_at (trace_actions_of_accesses acts) place).changes n ≡ true
changes_reader acts place act w r side is pass n h =
    sym (ap (λ (a : TraceAction). a.changes n) is) ∙ ap (λ (e : Event). changes_view_of_node e act.first act.second n) pass ∙ or_right (has_side_towards_node act.first w.number n) (has_side_towards_node act.second r.number n) h

pub own_at : (acts : List EventAccess) (place : ℕ) (act : EventAccess) (node : NodeId) (a b c : List RacingPair) → trace_action_of_event_access act ≡ trace_action_at (trace_actions_of_accesses acts) place → act.cause.event ≡ Own node
    → AddsRacingPairs acts (IsPairWithLookAtPlace place 0) a b → AddsRacingPairs acts (IsPairWithLookOverSides acts place node.number act.first) b c → AddsRacingPairs acts (IsPairWithLaterAtPlace place) a c
own_at acts place act node a b c is own m n = chained acts (IsPairWithLookAtPlace place 0) (IsPairWithLookOverSides acts place node.number act.first) (IsPairWithLaterAtPlace place) a b c m n asks
  where
    asks : (z : RacingPair) → IsPairWithLaterAtPlace place z → IsRacingLook acts z → IsPairWithLookAtPlace place 0 z ⊎ IsPairWithLookOverSides acts place node.number act.first z
    asks z (inl x) f = inl (x.0, x.1, omega arith)
    asks z (inr x) f = inr (f.node, (x.0, x.1, f.look), sym (ap (λ (e : Event). changes_view_of_node e act.first act.second f.node) own) ∙ change_here acts place act z f is x.0)

pub pass_at : (acts : List EventAccess) (place : ℕ) (act : EventAccess) (w r : NodeId) (side : Side) (a b c : List RacingPair) → trace_action_of_event_access act ≡ trace_action_at (trace_actions_of_accesses acts) place → act.cause.event ≡ Pass w r side
    → AddsRacingPairs acts (IsPairWithLookOverSides acts place w.number act.first) a b → AddsRacingPairs acts (IsPairWithLookOverSides acts place r.number act.second) b c → AddsRacingPairs acts (IsPairWithLaterAtPlace place) a c
pass_at acts place act w r side a b c is pass m n = chained acts (IsPairWithLookOverSides acts place w.number act.first) (IsPairWithLookOverSides acts place r.number act.second) (IsPairWithLaterAtPlace place) a b c m n asks
  where
    no_look : (z : RacingPair) → z.look ≡ place → IsRacingLook acts z → ⊥
    no_look z at f =
        let k : is_look_of_node (trace_action_of_event_access act) f.node ≡ true = ap (λ (x : TraceAction). is_look_of_node x f.node) is ∙ subst (λ (k : ℕ). is_look_of_node (trace_action_at (trace_actions_of_accesses acts) k) f.node ≡ true) at f.look in
        both_ways (is_node_own_event act.cause.event f.node) (ap (λ (e : Event). is_node_own_event e f.node) pass) (and_parts act.cause.look (is_node_own_event act.cause.event f.node) k).1

    asks : (z : RacingPair) → IsPairWithLaterAtPlace place z → IsRacingLook acts z → IsPairWithLookOverSides acts place w.number act.first z ⊎ IsPairWithLookOverSides acts place r.number act.second z
    asks z (inl x) f = absurd (no_look z x.0 f)
    asks z (inr x) f = elim (or_cases (has_side_towards_node act.first w.number f.node) (has_side_towards_node act.second r.number f.node) (sym (ap (λ (e : Event). changes_view_of_node e act.first act.second f.node) pass) ∙ change_here acts place act z f is x.0)) [
      | inl h ↦ inl (f.node, (x.0, x.1, f.look), h)
      | inr h ↦ inr (f.node, (x.0, x.1, f.look), h)
    ]

-- ---- the whole list

pub place_next : (acts : List EventAccess) (place : ℕ) (a b c : List RacingPair) → AddsRacingPairs acts (IsPairBelowPlace place) a b → AddsRacingPairs acts (IsPairWithLaterAtPlace place) b c → AddsRacingPairs acts (IsPairBelowPlace (place + 1)) a c
place_next acts place a b c m n = chained acts (IsPairBelowPlace place) (IsPairWithLaterAtPlace place) (IsPairBelowPlace (place + 1)) a b c m n asks
  where
    apart : (z : RacingPair) → AreRacingActions (trace_actions_of_accesses acts) z.look z.change ⊎ AreRacingActions (trace_actions_of_accesses acts) z.change z.look → z.look ≡ z.change → ⊥
    apart z (inl f) q = let k : z.look < z.change = f.bound.before in omega (arith, k, q)
    apart z (inr f) q = let k : z.change < z.look = f.bound.before in omega (arith, k, q)

    asks : (z : RacingPair) → IsPairBelowPlace (place + 1) z → IsRacingLook acts z → IsPairBelowPlace place z ⊎ IsPairWithLaterAtPlace place z
    asks z r f =
        let a : z.look < place + 1 = r.0 in
        let b : z.change < place + 1 = r.1 in
        elim (cases_lt z.look place) [
          | inl l ↦ elim (cases_lt z.change place) [
            | inl k ↦ inl (l, k)
            | inr k ↦ inr (inr (omega (arith, b, k), l))
          ]
          | inr l ↦ elim (cases_lt z.change place) [
            | inl k ↦ inr (inl (omega (arith, a, l), k))
            | inr k ↦ absurd (apart z f.order (omega (arith, a, b, l, k)))
          ]
        ]

pub none_first : (acts : List EventAccess) (xs : List RacingPair) → AddsRacingPairs acts (IsPairBelowPlace 0) xs xs
none_first acts xs = nothing acts (IsPairBelowPlace 0) xs (λ z r f. let a : z.look < 0 = r.0 in absurd (omega (arith, a)))

pub marks_next : (acts : List EventAccess) (place : ℕ) (act : EventAccess) (old new : ℕ → Bool) → trace_action_of_event_access act ≡ trace_action_at (trace_actions_of_accesses acts) place → ((n : ℕ) → new n ≡ (old n || has_looked (trace_action_of_event_access act) n))
    → AreLookingNodesMarked acts place old → AreLookingNodesMarked acts (place + 1) new
marks_next acts place act old new is more marked_nodes q n l look = elim (cases_lt q place) [
  | inl k ↦ more n ∙ or_left (old n) (has_looked (trace_action_of_event_access act) n) (marked_nodes q n k look)
  | inr k ↦ (let at : q ≡ place = omega (arith, l, k) in
      let here : is_look_of_node (trace_action_of_event_access act) n ≡ true = ap (λ (x : TraceAction). is_look_of_node x n) is ∙ subst (λ (z : ℕ). is_look_of_node (trace_action_at (trace_actions_of_accesses acts) z) n ≡ true) at look in
      let p = and_parts act.cause.look (is_node_own_event act.cause.event n) here in
      more n ∙ or_right (old n) (has_looked (trace_action_of_event_access act) n) (and_both act.cause.look (touches act.cause.event n) p.0 (own_touches act.cause.event n p.1)))
]

pub all_found : (acts : List EventAccess) (place : ℕ) (xs : List RacingPair) → length acts ≤ place → AddsRacingPairs acts (IsPairBelowPlace place) [] xs → (z : RacingPair) → (Contains xs z → IsRacingLook acts z) × (IsRacingLook acts z → Contains xs z)
all_found acts place xs l m z = (λ h. from (m.sound z h), λ f. m.all z (within f.order) f)
  where
    from : Contains [] z ⊎ IsRacingLook acts z → IsRacingLook acts z
    from (inl h) = absurd (let k : h.0 < 0 = h.1 in omega (arith, k))
    from (inr f) = f

    size : length (trace_actions_of_accesses acts) ≡ length acts
    size = length-map acts trace_action_of_event_access

    within : AreRacingActions (trace_actions_of_accesses acts) z.look z.change ⊎ AreRacingActions (trace_actions_of_accesses acts) z.change z.look → IsPairBelowPlace place z
    within (inl f) =
        let k : z.look < z.change = f.bound.before in
        let j : z.change < length (trace_actions_of_accesses acts) = f.bound.within in
        (omega (arith, k, j, size, l), omega (arith, j, size, l))
    within (inr f) =
        let k : z.change < z.look = f.bound.before in
        let j : z.look < length (trace_actions_of_accesses acts) = f.bound.within in
        (omega (arith, j, size, l), omega (arith, k, j, size, l))
