-- What one pass over a list finds of what happens after one of its actions.
use Rattle.std.proofs.Common.{◌≡◌, ℕ, ◌+◌, ◌<◌, ◌==◌, ◌⊎◌, Bool, true, false, ◌&&◌, ◌||◌, inl, inr, List, length, Option, Some, None, refl, sym, ◌∙◌, ap, subst, arith, eq-eqb, ap₂, get_or}
use Rattle.std.specs.List.{list_any}
use Rattle.std.proofs.lemmas.List.{get_or-map, length-map}
use Rattle.std.proofs.lemmas.Bool.{cases_lt, both_ways, or_cases, or_left, or_right, and_parts, eqb-true}
use Rattle.ga_ports.specs.declared.side.Side.TheVariants.{Right, Down, Left, Up}
use Rattle.ga_grid.specs.Grid.{neighbour_number}
use Rattle.ga_event.specs.declared.event.Event.{Event}
use Rattle.ga_event.specs.declared.event.Event.TheVariants.{Own, Pass}
use Rattle.ga_event.specs.Touches.{event_nodes, touches}
use Rattle.ga_event.specs.Apply.{equals_optional_number}
use Rattle.ga_causal.specs.inner.{is_optional_node_marked}
use Rattle.ga_races.specs.declared.act.EventAccess.{EventAccess}
use Rattle.ga_races.specs.declared.act.SideSet.{SideSet}
use Rattle.ga_races.specs.HappensBefore.{TraceAction, default_trace_action, trace_action_at, is_look_changed_by, are_dependent_actions, HappensDirectlyBefore, HappensBefore, directly, through}
use Rattle.ga_races.specs.Acts.{has_side_towards_node, changes_view_of_node, trace_action_of_event_access, trace_actions_of_accesses}
use Rattle.ga_races.specs.inner.{has_marked_neighbour_on_sides, action_touches_node, action_changes_view, has_looked, shows_change_to_marked_node, is_dependent_on_reached_actions, IsFirstOrHappensAfter, AreNodeMarksOfReachedActions, AreNodeSetsOfReachedActions}
use Rattle.ga_races.proofs.Independence.{any_at}
use Rattle.ga_races.proofs.Independence as Frees
use Rattle.ga_races.proofs.Moves.{before_within}

-- ---- sides

pub or4_cases : (a b c d : Bool) → (a || (b || (c || d))) ≡ true → (a ≡ true) ⊎ ((b ≡ true) ⊎ ((c ≡ true) ⊎ (d ≡ true)))
or4_cases true b c d h = inl refl
or4_cases false true c d h = inr (inl refl)
or4_cases false false true d h = inr (inr (inl refl))
or4_cases false false false d h = inr (inr (inr h))

pub or4_from : (a b c d : Bool) → (a ≡ true) ⊎ ((b ≡ true) ⊎ ((c ≡ true) ⊎ (d ≡ true))) → (a || (b || (c || d))) ≡ true
or4_from a b c d (inl h) = or_left a (b || (c || d)) h
or4_from a b c d (inr (inl h)) = or_right a (b || (c || d)) (or_left b (c || d) h)
or4_from a b c d (inr (inr (inl h))) = or_right a (b || (c || d)) (or_right b (c || d) (or_left c d h))
or4_from a b c d (inr (inr (inr h))) = or_right a (b || (c || d)) (or_right b (c || d) (or_right c d h))

pub and_both : (a b : Bool) → a ≡ true → b ≡ true → (a && b) ≡ true
and_both a b p q = ap (λ (z : Bool). z && b) p ∙ q

over_some : (marks : ℕ → Bool) (has : Bool) (o : Option ℕ) → (has && is_optional_node_marked marks o) ≡ true → (n : ℕ) × ((has && equals_optional_number o n) ≡ true) × (marks n ≡ true)
over_some marks has None h = absurd (both_ways false refl ((and_parts has false h).1))
over_some marks has (Some n) h = let p = and_parts has (marks n) h in (n, and_both has (n == n) p.0 (eq-eqb n n refl), p.1)

over_all : (marks : ℕ → Bool) (has : Bool) (o : Option ℕ) (n : ℕ) → (has && equals_optional_number o n) ≡ true → marks n ≡ true → (has && is_optional_node_marked marks o) ≡ true
over_all marks has None n h mark = absurd (both_ways false refl ((and_parts has false h).1))
over_all marks has (Some k) n h mark = let p = and_parts has (k == n) h in and_both has (marks k) p.0 (ap marks (eqb-true k n p.1) ∙ mark)

beside_some : (marks : ℕ → Bool) (s : SideSet) (m : ℕ) → has_marked_neighbour_on_sides marks s m ≡ true → (n : ℕ) × (has_side_towards_node s m n ≡ true) × (marks n ≡ true)
beside_some marks s m h =
    go (or4_cases (s.right && is_optional_node_marked marks (neighbour_number m Right)) (s.down && is_optional_node_marked marks (neighbour_number m Down)) (s.left && is_optional_node_marked marks (neighbour_number m Left)) (s.up && is_optional_node_marked marks (neighbour_number m Up)) h)
  where
    at : (n : ℕ) → ((s.right && equals_optional_number (neighbour_number m Right) n) ≡ true) ⊎ (((s.down && equals_optional_number (neighbour_number m Down) n) ≡ true) ⊎ (((s.left && equals_optional_number (neighbour_number m Left) n) ≡ true) ⊎ ((s.up && equals_optional_number (neighbour_number m Up) n) ≡ true))) → has_side_towards_node s m n ≡ true
    at n = or4_from (s.right && equals_optional_number (neighbour_number m Right) n) (s.down && equals_optional_number (neighbour_number m Down) n) (s.left && equals_optional_number (neighbour_number m Left) n) (s.up && equals_optional_number (neighbour_number m Up) n)

    go : ((s.right && is_optional_node_marked marks (neighbour_number m Right)) ≡ true) ⊎ (((s.down && is_optional_node_marked marks (neighbour_number m Down)) ≡ true) ⊎ (((s.left && is_optional_node_marked marks (neighbour_number m Left)) ≡ true) ⊎ ((s.up && is_optional_node_marked marks (neighbour_number m Up)) ≡ true))) → (n : ℕ) × (has_side_towards_node s m n ≡ true) × (marks n ≡ true)
    go (inl a) = let p = over_some marks s.right (neighbour_number m Right) a in (p.0, at p.0 (inl p.1), p.2)
    go (inr (inl a)) = let p = over_some marks s.down (neighbour_number m Down) a in (p.0, at p.0 (inr (inl p.1)), p.2)
    go (inr (inr (inl a))) = let p = over_some marks s.left (neighbour_number m Left) a in (p.0, at p.0 (inr (inr (inl p.1))), p.2)
    go (inr (inr (inr a))) = let p = over_some marks s.up (neighbour_number m Up) a in (p.0, at p.0 (inr (inr (inr p.1))), p.2)

beside_all : (marks : ℕ → Bool) (s : SideSet) (m n : ℕ) → has_side_towards_node s m n ≡ true → marks n ≡ true → has_marked_neighbour_on_sides marks s m ≡ true
beside_all marks s m n h mark =
    from (go (or4_cases (s.right && equals_optional_number (neighbour_number m Right) n) (s.down && equals_optional_number (neighbour_number m Down) n) (s.left && equals_optional_number (neighbour_number m Left) n) (s.up && equals_optional_number (neighbour_number m Up) n) h))
  where
    from : ((s.right && is_optional_node_marked marks (neighbour_number m Right)) ≡ true) ⊎ (((s.down && is_optional_node_marked marks (neighbour_number m Down)) ≡ true) ⊎ (((s.left && is_optional_node_marked marks (neighbour_number m Left)) ≡ true) ⊎ ((s.up && is_optional_node_marked marks (neighbour_number m Up)) ≡ true))) → has_marked_neighbour_on_sides marks s m ≡ true
    from = or4_from (s.right && is_optional_node_marked marks (neighbour_number m Right)) (s.down && is_optional_node_marked marks (neighbour_number m Down)) (s.left && is_optional_node_marked marks (neighbour_number m Left)) (s.up && is_optional_node_marked marks (neighbour_number m Up))

    go : ((s.right && equals_optional_number (neighbour_number m Right) n) ≡ true) ⊎ (((s.down && equals_optional_number (neighbour_number m Down) n) ≡ true) ⊎ (((s.left && equals_optional_number (neighbour_number m Left) n) ≡ true) ⊎ ((s.up && equals_optional_number (neighbour_number m Up) n) ≡ true)))
        → ((s.right && is_optional_node_marked marks (neighbour_number m Right)) ≡ true) ⊎ (((s.down && is_optional_node_marked marks (neighbour_number m Down)) ≡ true) ⊎ (((s.left && is_optional_node_marked marks (neighbour_number m Left)) ≡ true) ⊎ ((s.up && is_optional_node_marked marks (neighbour_number m Up)) ≡ true)))
    go (inl a) = inl (over_all marks s.right (neighbour_number m Right) n a mark)
    go (inr (inl a)) = inr (inl (over_all marks s.down (neighbour_number m Down) n a mark))
    go (inr (inr (inl a))) = inr (inr (inl (over_all marks s.left (neighbour_number m Left) n a mark)))
    go (inr (inr (inr a))) = inr (inr (inr (over_all marks s.up (neighbour_number m Up) n a mark)))

shown_some : (marks : ℕ → Bool) (e : Event) (f s : SideSet) → shows_change_to_marked_node marks e f s ≡ true → (n : ℕ) × (changes_view_of_node e f s n ≡ true) × (marks n ≡ true)
shown_some marks (Own m) f s h = beside_some marks f m.number h
shown_some marks (Pass w r side) f s h = elim (or_cases (has_marked_neighbour_on_sides marks f w.number) (has_marked_neighbour_on_sides marks s r.number) h) [
  | inl a ↦ (let p = beside_some marks f w.number a in (p.0, or_left (has_side_towards_node f w.number p.0) (has_side_towards_node s r.number p.0) p.1, p.2))
  | inr a ↦ (let p = beside_some marks s r.number a in (p.0, or_right (has_side_towards_node f w.number p.0) (has_side_towards_node s r.number p.0) p.1, p.2))
]

shown_all : (marks : ℕ → Bool) (e : Event) (f s : SideSet) (n : ℕ) → changes_view_of_node e f s n ≡ true → marks n ≡ true → shows_change_to_marked_node marks e f s ≡ true
shown_all marks (Own m) f s n h mark = beside_all marks f m.number n h mark
shown_all marks (Pass w r side) f s n h mark = elim (or_cases (has_side_towards_node f w.number n) (has_side_towards_node s r.number n) h) [
  | inl a ↦ or_left (has_marked_neighbour_on_sides marks f w.number) (has_marked_neighbour_on_sides marks s r.number) (beside_all marks f w.number n a mark)
  | inr a ↦ or_right (has_marked_neighbour_on_sides marks f w.number) (has_marked_neighbour_on_sides marks s r.number) (beside_all marks s r.number n a mark)
]

-- ---- the three kinds of bonds

shares : TraceAction → TraceAction → Bool
shares a b = list_any (touches a.cause.event) (event_nodes b.cause.event)

pub bound_by_node : (a b : TraceAction) → list_any (touches a.cause.event) (event_nodes b.cause.event) ≡ true → are_dependent_actions a b ≡ true
bound_by_node a b h = or_left (list_any (touches a.cause.event) (event_nodes b.cause.event)) (is_look_changed_by a b || is_look_changed_by b a) h

pub bound_by_look : (a b : TraceAction) → is_look_changed_by a b ≡ true → are_dependent_actions a b ≡ true
bound_by_look a b h = or_right (list_any (touches a.cause.event) (event_nodes b.cause.event)) (is_look_changed_by a b || is_look_changed_by b a) (or_left (is_look_changed_by a b) (is_look_changed_by b a) h)

pub bound_by_change : (a b : TraceAction) → is_look_changed_by b a ≡ true → are_dependent_actions a b ≡ true
bound_by_change a b h = or_right (list_any (touches a.cause.event) (event_nodes b.cause.event)) (is_look_changed_by a b || is_look_changed_by b a) (or_right (is_look_changed_by a b) (is_look_changed_by b a) h)

bound_cases : (a b : TraceAction) → are_dependent_actions a b ≡ true → (list_any (touches a.cause.event) (event_nodes b.cause.event) ≡ true) ⊎ ((is_look_changed_by a b ≡ true) ⊎ (is_look_changed_by b a ≡ true))
bound_cases a b h = elim (or_cases (list_any (touches a.cause.event) (event_nodes b.cause.event)) (is_look_changed_by a b || is_look_changed_by b a) h) [
  | inl p ↦ inl p
  | inr p ↦ inr (or_cases (is_look_changed_by a b) (is_look_changed_by b a) p)
]

module _ (xs : List TraceAction) (first place : ℕ) (touched shown looked : ℕ → Bool) (act : EventAccess) (before : first < place) (within : place < length xs) (is : trace_action_at xs place ≡ trace_action_of_event_access act)
    (t : AreNodeMarksOfReachedActions xs first place action_touches_node touched) (s : AreNodeMarksOfReachedActions xs first place action_changes_view shown) (l : AreNodeMarksOfReachedActions xs first place has_looked looked) where
  on : (m : ℕ) → m < place → IsFirstOrHappensAfter xs first m → are_dependent_actions (trace_action_at xs m) (trace_action_of_event_access act) ≡ true → HappensBefore xs first place
  on m k r b = go r (record { before = k; within = within; bound = ap (are_dependent_actions (trace_action_at xs m)) is ∙ b })
    where
      go : IsFirstOrHappensAfter xs first m → HappensDirectlyBefore xs m place → HappensBefore xs first place
      go (inl q) d = directly (subst (λ (z : ℕ). HappensDirectlyBefore xs z place) (sym q) d)
      go (inr h) d = through h d

  pub met_happens : is_dependent_on_reached_actions touched shown looked act ≡ true → HappensBefore xs first place
  met_happens h = elim (or_cases (list_any touched (event_nodes act.cause.event)) ((act.cause.look && list_any shown (event_nodes act.cause.event)) || shows_change_to_marked_node looked act.cause.event act.first act.second) h) [
    | inl a ↦ (let k = Frees.any_of touched (event_nodes act.cause.event) a in
        let p = t.some k.node k.marked_nodes in
        on p.0 p.1 p.2 (bound_by_node (trace_action_at xs p.0) (trace_action_of_event_access act) (any_at (touches (trace_action_at xs p.0).cause.event) (event_nodes act.cause.event) k.node k.listed p.3)))
    | inr b ↦ elim (or_cases (act.cause.look && list_any shown (event_nodes act.cause.event)) (shows_change_to_marked_node looked act.cause.event act.first act.second) b) [
      | inl c ↦ (let q = and_parts act.cause.look (list_any shown (event_nodes act.cause.event)) c in
          let k = Frees.any_of shown (event_nodes act.cause.event) q.1 in
          let p = s.some k.node k.marked_nodes in
          on p.0 p.1 p.2 (bound_by_change (trace_action_at xs p.0) (trace_action_of_event_access act)
          (and_both act.cause.look (list_any (trace_action_at xs p.0).changes (event_nodes act.cause.event)) q.0 (any_at (trace_action_at xs p.0).changes (event_nodes act.cause.event) k.node k.listed p.3))))
      | inr c ↦ (let k = shown_some looked act.cause.event act.first act.second c in
          let p = l.some k.0 k.2 in
          let q = and_parts (trace_action_at xs p.0).cause.look (touches (trace_action_at xs p.0).cause.event k.0) p.3 in
          on p.0 p.1 p.2 (bound_by_look (trace_action_at xs p.0) (trace_action_of_event_access act)
          (and_both (trace_action_at xs p.0).cause.look (list_any (trace_action_of_event_access act).changes (event_nodes (trace_action_at xs p.0).cause.event)) q.0 (any_at (trace_action_of_event_access act).changes (event_nodes (trace_action_at xs p.0).cause.event) k.0 q.1 k.1))))
    ]
  ]

  met_by : (m : ℕ) → m < place → IsFirstOrHappensAfter xs first m → are_dependent_actions (trace_action_at xs m) (trace_action_of_event_access act) ≡ true → is_dependent_on_reached_actions touched shown looked act ≡ true
  met_by m k r b = elim (bound_cases (trace_action_at xs m) (trace_action_of_event_access act) b) [
    | inl a ↦ (let n = Frees.any_of (touches (trace_action_at xs m).cause.event) (event_nodes act.cause.event) a in
        or_left (list_any touched (event_nodes act.cause.event)) ((act.cause.look && list_any shown (event_nodes act.cause.event)) || shows_change_to_marked_node looked act.cause.event act.first act.second)
        (any_at touched (event_nodes act.cause.event) n.node n.listed (t.all m n.node k r n.marked_nodes)))
    | inr (inl a) ↦ (let q = and_parts (trace_action_at xs m).cause.look (list_any (trace_action_of_event_access act).changes (event_nodes (trace_action_at xs m).cause.event)) a in
        let n = Frees.any_of (trace_action_of_event_access act).changes (event_nodes (trace_action_at xs m).cause.event) q.1 in
        or_right (list_any touched (event_nodes act.cause.event)) ((act.cause.look && list_any shown (event_nodes act.cause.event)) || shows_change_to_marked_node looked act.cause.event act.first act.second)
        (or_right (act.cause.look && list_any shown (event_nodes act.cause.event)) (shows_change_to_marked_node looked act.cause.event act.first act.second)
        (shown_all looked act.cause.event act.first act.second n.node n.marked_nodes (l.all m n.node k r (and_both (trace_action_at xs m).cause.look (touches (trace_action_at xs m).cause.event n.node) q.0 n.listed)))))
    | inr (inr a) ↦ (let q = and_parts act.cause.look (list_any (trace_action_at xs m).changes (event_nodes act.cause.event)) a in
        let n = Frees.any_of (trace_action_at xs m).changes (event_nodes act.cause.event) q.1 in
        or_right (list_any touched (event_nodes act.cause.event)) ((act.cause.look && list_any shown (event_nodes act.cause.event)) || shows_change_to_marked_node looked act.cause.event act.first act.second)
        (or_left (act.cause.look && list_any shown (event_nodes act.cause.event)) (shows_change_to_marked_node looked act.cause.event act.first act.second)
        (and_both act.cause.look (list_any shown (event_nodes act.cause.event)) q.0 (any_at shown (event_nodes act.cause.event) n.node n.listed (s.all m n.node k r n.marked_nodes)))))
  ]

  pub happens_met : HappensBefore xs first place → is_dependent_on_reached_actions touched shown looked act ≡ true
  happens_met (directly d) = met_by first d.before (inl refl) (ap (are_dependent_actions (trace_action_at xs first)) (sym is) ∙ d.bound)
  happens_met (through {middle} h d) = met_by middle d.before (inr h) (ap (are_dependent_actions (trace_action_at xs middle)) (sym is) ∙ d.bound)

-- ---- the marks

pub mark_first : (xs : List TraceAction) (first : ℕ) (has : TraceAction → ℕ → Bool) (marks : ℕ → Bool) → ((n : ℕ) → marks n ≡ has (trace_action_at xs first) n) → AreNodeMarksOfReachedActions xs first (first + 1) has marks
mark_first xs first has marks e = record { some = λ n h. (first, omega arith, inl refl, sym (e n) ∙ h); all = all }
  where
    all : (m n : ℕ) → m < first + 1 → IsFirstOrHappensAfter xs first m → has (trace_action_at xs m) n ≡ true → marks n ≡ true
    all m n l (inl q) h = e n ∙ ap (λ (z : ℕ). has (trace_action_at xs z) n) q ∙ h
    all m n l (inr b) h = absurd (let k : first < m = (before_within xs first m b).0 in omega (arith, k, l))

pub mark_next : (xs : List TraceAction) (first place : ℕ) (has : TraceAction → ℕ → Bool) (marks new : ℕ → Bool) (met : Bool) → first < place → AreNodeMarksOfReachedActions xs first place has marks
    → (met ≡ true → HappensBefore xs first place) → (HappensBefore xs first place → met ≡ true) → ((n : ℕ) → new n ≡ (marks n || (met && has (trace_action_at xs place) n)))
    → AreNodeMarksOfReachedActions xs first (place + 1) has new
mark_next xs first place has marks new met before a sound complete e = record { some = some; all = all }
  where
    some : (n : ℕ) → new n ≡ true → (m : ℕ) × (m < place + 1) × IsFirstOrHappensAfter xs first m × (has (trace_action_at xs m) n ≡ true)
    some n h = elim (or_cases (marks n) (met && has (trace_action_at xs place) n) (sym (e n) ∙ h)) [
      | inl k ↦ (let p = a.some n k in let l : p.0 < place = p.1 in (p.0, omega (arith, l), p.2, p.3))
      | inr k ↦ (let p = and_parts met (has (trace_action_at xs place) n) k in (place, omega arith, inr (sound p.0), p.1))
    ]

    here : (n : ℕ) → IsFirstOrHappensAfter xs first place → has (trace_action_at xs place) n ≡ true → new n ≡ true
    here n (inl q) h = absurd (omega (arith, q, before))
    here n (inr b) h = e n ∙ or_right (marks n) (met && has (trace_action_at xs place) n) (and_both met (has (trace_action_at xs place) n) (complete b) h)

    all : (m n : ℕ) → m < place + 1 → IsFirstOrHappensAfter xs first m → has (trace_action_at xs m) n ≡ true → new n ≡ true
    all m n l r h = elim (cases_lt m place) [
      | inl k ↦ e n ∙ or_left (marks n) (met && has (trace_action_at xs place) n) (a.all m n k r h)
      | inr k ↦ (let q : m ≡ place = omega (arith, l, k) in here n (subst (IsFirstOrHappensAfter xs first) q r) (ap (λ (z : ℕ). has (trace_action_at xs z) n) (sym q) ∙ h))
    ]

-- if what happens after the first action and before the later one isn't dependent with the later one, nothing happens between
-- them
pub none_between : (xs : List TraceAction) (first later : ℕ) → ((m : ℕ) → m < later → HappensBefore xs first m → are_dependent_actions (trace_action_at xs m) (trace_action_at xs later) ≡ false)
    → (m : ℕ) → HappensBefore xs first m → HappensBefore xs m later → (false ≡ true)
none_between xs first later none m h (directly d) = sym (none m d.before h) ∙ d.bound
none_between xs first later none m h (through {middle} k d) = sym (none middle d.before (chain h k)) ∙ d.bound
  where
    chain : {a b c : ℕ} → HappensBefore xs a b → HappensBefore xs b c → HappensBefore xs a c
    chain h (directly d) = through h d
    chain h (through g d) = through (chain h g) d

-- ---- the pass

act_at : (acts : List EventAccess) (i : ℕ) (x : EventAccess) → i < length acts → x ≡ get_or acts i x → trace_action_at (trace_actions_of_accesses acts) i ≡ trace_action_of_event_access x
act_at acts i x l is = get_or-map trace_action_of_event_access acts i x default_trace_action l ∙ ap trace_action_of_event_access (sym is)

pub first_reached : (acts : List EventAccess) (first later : ℕ) (t s l : ℕ → Bool) (act : EventAccess) → first < later → later < length acts → act ≡ get_or acts first act
    → ((n : ℕ) → t n ≡ action_touches_node (trace_action_of_event_access act) n) → ((n : ℕ) → s n ≡ action_changes_view (trace_action_of_event_access act) n) → ((n : ℕ) → l n ≡ has_looked (trace_action_of_event_access act) n)
    → AreNodeSetsOfReachedActions (trace_actions_of_accesses acts) first later (first + 1) t s l
first_reached acts first later t s l act before within is a b c = record {
  touched = mark_first xs first action_touches_node t (λ n. a n ∙ ap (λ (z : TraceAction). action_touches_node z n) (sym here));
  shown = mark_first xs first action_changes_view s (λ n. b n ∙ ap (λ (z : TraceAction). action_changes_view z n) (sym here));
  looked = mark_first xs first has_looked l (λ n. c n ∙ ap (λ (z : TraceAction). has_looked z n) (sym here));
  none = λ m k h. absurd (let g : first < m = (before_within xs first m h).0 in omega (arith, g, k));
}
  where
    xs : List TraceAction
    xs = trace_actions_of_accesses acts

    here : trace_action_at xs first ≡ trace_action_of_event_access act
    here = act_at acts first act (omega (arith, before, within)) is

module _ (acts : List EventAccess) (first later place : ℕ) (t s l : ℕ → Bool) (act end : EventAccess) (met bound : Bool) (before : first < place) (order : place < later) (inside : later < length acts)
    (act_is : act ≡ get_or acts place act) (end_is : end ≡ get_or acts later end) (inv : AreNodeSetsOfReachedActions (trace_actions_of_accesses acts) first later place t s l)
    (answer : met ≡ is_dependent_on_reached_actions t s l act) (bound_is : bound ≡ are_dependent_actions (trace_action_of_event_access act) (trace_action_of_event_access end)) where
  abbrev xs : List TraceAction
  xs = trace_actions_of_accesses acts

  size : length xs ≡ length acts
  size = length-map acts trace_action_of_event_access

  here : trace_action_at xs place ≡ trace_action_of_event_access act
  here = act_at acts place act (omega (arith, order, inside)) act_is

  there : trace_action_at xs later ≡ trace_action_of_event_access end
  there = act_at acts later end inside end_is

  within : place < length xs
  within = omega (arith, size, order, inside)

  sound : met ≡ true → HappensBefore xs first place
  sound q = met_happens xs first place t s l act before within here inv.touched inv.shown inv.looked (sym answer ∙ q)

  complete : HappensBefore xs first place → met ≡ true
  complete h = answer ∙ happens_met xs first place t s l act before within here inv.touched inv.shown inv.looked h

  pub found : (met && bound) ≡ true → (m : ℕ) × HappensBefore xs first m × HappensBefore xs m later
  found h =
      let p = and_parts met bound h in
      (place, sound p.0, directly (record { before = order; within = omega (arith, size, inside); bound = ap₂ are_dependent_actions here there ∙ sym bound_is ∙ p.1 }))

  pub next_reached : (t' s' l' : ℕ → Bool) → (met && bound) ≡ false → ((n : ℕ) → t' n ≡ (t n || (met && action_touches_node (trace_action_of_event_access act) n))) → ((n : ℕ) → s' n ≡ (s n || (met && action_changes_view (trace_action_of_event_access act) n)))
      → ((n : ℕ) → l' n ≡ (l n || (met && has_looked (trace_action_of_event_access act) n))) → AreNodeSetsOfReachedActions xs first later (place + 1) t' s' l'
  next_reached t' s' l' out a b c = record {
    touched = mark_next xs first place action_touches_node t t' met before inv.touched sound complete (λ n. a n ∙ ap (λ (z : TraceAction). t n || (met && action_touches_node z n)) (sym here));
    shown = mark_next xs first place action_changes_view s s' met before inv.shown sound complete (λ n. b n ∙ ap (λ (z : TraceAction). s n || (met && action_changes_view z n)) (sym here));
    looked = mark_next xs first place has_looked l l' met before inv.looked sound complete (λ n. c n ∙ ap (λ (z : TraceAction). l n || (met && has_looked z n)) (sym here));
    none = none;
  }
    where
      at_place : HappensBefore xs first place → are_dependent_actions (trace_action_at xs place) (trace_action_at xs later) ≡ false
      at_place h = ap₂ are_dependent_actions here there ∙ sym bound_is ∙ sym (ap (λ (b : Bool). b && bound) (complete h)) ∙ out

      none : (m : ℕ) → m < place + 1 → HappensBefore xs first m → are_dependent_actions (trace_action_at xs m) (trace_action_at xs later) ≡ false
      none m k h = elim (cases_lt m place) [
        | inl g ↦ inv.none m g h
        | inr g ↦ (let q : place ≡ m = omega (arith, k, g) in subst (λ (z : ℕ). are_dependent_actions (trace_action_at xs z) (trace_action_at xs later) ≡ false) q (at_place (subst (HappensBefore xs first) (sym q) h)))
      ]
