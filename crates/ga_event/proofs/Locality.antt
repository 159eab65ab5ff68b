-- What an event does depends on the nodes that it sees alone, and changes those that it touches alone.
use Rattle.std.proofs.Common.{◌≡◌, ℕ, ◌<◌, ◌≤◌, Bool, true, false, ◌||◌, List, [], ◌∷◌, ◌++◌, length, set, Option, Some, None, refl, sym, ◌∙◌, ap, subst, ⊎_elim, inl, inr, arith, append-nil, length-set, get_or-set_other, get_or-set_same, eq-eqb, IfSome}
use Rattle.std.specs.List.{list_any}
use Rattle.std.proofs.lemmas.Bool.{cases_eq, cases_lt, or_parts, or_left, or_right, or_cases, or_from, both_ways, false_from_ne_true}
use Rattle.std.proofs.lemmas.List.{set_past}
use Rattle.ga_ports.specs.declared.side.Side.{Side}
use Rattle.ga_node.specs.Record.{NodeRecord, record_of_node}
use Rattle.ga_node.specs.Table.{own, reads_io_next, refusal_of_own_event}
use Rattle.ga_node.proofs.Looks.{own_blind}
use Rattle.ga_ports.specs.declared.side.Side.TheVariants.{Right, Down, Left, Up}
use Rattle.ga_grid.specs.Grid.{neighbour_number}
use Rattle.ga_node.specs.declared.kind.EventRefusal.{EventRefusal}
use Rattle.ga_grid.specs.Chip.{default_node, node_record_at}
use Rattle.ga_grid.specs.declared.node_id.NodeId.{NodeId}
use Rattle.ga_event.specs.declared.event.Event.{Event}
use Rattle.ga_event.specs.declared.event.EventWithLook.{EventWithLook}
use Rattle.ga_event.specs.declared.event.Event.TheVariants.{Own, Pass}
use Rattle.ga_event.specs.Touches.{event_nodes, touches, prepend_some, neighbours_of_node, looked_at_nodes, nodes_observed_by_event, observes_marked_node}
use Rattle.ga_event.specs.Apply.{MadeEventOutcome, shown_wait_state, shown_neighbour_state, neighbour_states, is_transfer_ready, refusal_unless_matched, event_refusal, chip_after_own_event, chip_after_pass, some_if_allowed, event_result, apply, is_look, event_with_look_on_chip, AgreeOutsideMarks, AreEventResultsAlike}

pub any-append : (marks : ℕ → Bool) (a b : List ℕ) → list_any marks a ≡ true → list_any marks (a ++ b) ≡ true
any-append marks [] b t = absurd (both_ways false refl t)
any-append marks (n ∷ a) b t = ⊎_elim (λ u. or_left (marks n) (list_any marks (a ++ b)) u) (λ u. or_right (marks n) (list_any marks (a ++ b)) (any-append marks a b u)) (or_cases (marks n) (list_any marks a) t)

any-free : (marks : ℕ → Bool) (a b : List ℕ) → list_any marks (a ++ b) ≡ false → (list_any marks a ≡ false) × (list_any marks b ≡ false)
any-free marks [] b f = (refl, f)
any-free marks (n ∷ a) b f =
    let p : (marks n ≡ false) × (list_any marks (a ++ b) ≡ false) = or_parts (marks n) (list_any marks (a ++ b)) f in
    let q = any-free marks a b p.1 in
    (or_from (marks n) (list_any marks a) p.0 q.0, q.1)

-- an event sees the nodes that it touches
pub observes_marked_node-touched : (marks : ℕ → Bool) (cause : EventWithLook) → list_any marks (event_nodes cause.event) ≡ true → observes_marked_node marks cause ≡ true
unfolding nodes_observed_by_event
observes_marked_node-touched marks cause t = any-append marks (event_nodes cause.event) (looked_at_nodes cause.event cause.look) t

pub touched_free : (marks : ℕ → Bool) (cause : EventWithLook) → observes_marked_node marks cause ≡ false → list_any marks (event_nodes cause.event) ≡ false
touched_free marks cause free = false_from_ne_true (list_any marks (event_nodes cause.event)) (λ t. both_ways (observes_marked_node marks cause) free (observes_marked_node-touched marks cause t))

-- and those at which it looks
looked_free : (marks : ℕ → Bool) (cause : EventWithLook) → observes_marked_node marks cause ≡ false → list_any marks (looked_at_nodes cause.event cause.look) ≡ false
unfolding nodes_observed_by_event
looked_free marks cause free = (any-free marks (event_nodes cause.event) (looked_at_nodes cause.event cause.look) free).1

looked_none : (event : Event) → looked_at_nodes event false ≡ []
looked_none (Own node) = refl
looked_none (Pass writer reader side) = refl

-- one that does not look sees no other node
pub touched-has_common_node : (marks : ℕ → Bool) (cause : EventWithLook) → cause.look ≡ false → observes_marked_node marks cause ≡ true → list_any marks (event_nodes cause.event) ≡ true
unfolding nodes_observed_by_event
touched-has_common_node marks cause blind t =
    subst (λ z. list_any marks z ≡ true) (ap (λ z. event_nodes cause.event ++ z) (looked_none cause.event) ∙ append-nil (event_nodes cause.event))
    (subst (λ b. list_any marks (event_nodes cause.event ++ looked_at_nodes cause.event b) ≡ true) blind t)

pub AgreeOutsideMarks-set : (marks : ℕ → Bool) (c d : List NodeRecord) (n : ℕ) (x : NodeRecord) → AgreeOutsideMarks marks c d → AgreeOutsideMarks marks (set c n x) (set d n x)
AgreeOutsideMarks-set marks c d n x a = record {
  size = length-set c n x ∙ a.size ∙ sym (length-set d n x);
  same = λ m free. elim (cases_eq m n) [ inl e ↦ here m e free | inr ne ↦ get_or-set_other c n m x (record_of_node default_node) ne ∙ a.same m free ∙ sym (get_or-set_other d n m x (record_of_node default_node) ne) ];
}
  where
    within : (m : ℕ) → m ≡ n → marks m ≡ false → n < length c → node_record_at (set c n x) m ≡ node_record_at (set d n x) m
    within m e free h =
        let k : n < length d = omega (arith, a.size) in
        subst (λ z. node_record_at (set c n x) z ≡ node_record_at (set d n x) z) (sym e) (get_or-set_same c n x (record_of_node default_node) h ∙ sym (get_or-set_same d n x (record_of_node default_node) k))

    past : (m : ℕ) → m ≡ n → marks m ≡ false → length c ≤ n → node_record_at (set c n x) m ≡ node_record_at (set d n x) m
    past m e free h =
        let k : length d ≤ n = omega (arith, a.size) in
        rw (set_past c n x h, set_past d n x k) (a.same m free)

    here : (m : ℕ) → m ≡ n → marks m ≡ false → node_record_at (set c n x) m ≡ node_record_at (set d n x) m
    here m e free = elim (cases_lt n (length c)) [ inl h ↦ within m e free h | inr h ↦ past m e free h ]

-- an event that sees no marked node finds the nodes that it touches alike
seen_same : (marks : ℕ → Bool) (c d : List NodeRecord) (node : NodeId) → AgreeOutsideMarks marks c d → list_any marks (event_nodes (Own node)) ≡ false → node_record_at c node.number ≡ node_record_at d node.number
seen_same marks c d node a free = a.same node.number ((or_parts (marks node.number) false free).0)

seen_both : (marks : ℕ → Bool) (c d : List NodeRecord) (w r : NodeId) (side : Side) → AgreeOutsideMarks marks c d → list_any marks (event_nodes (Pass w r side)) ≡ false → (node_record_at c w.number ≡ node_record_at d w.number) × (node_record_at c r.number ≡ node_record_at d r.number)
seen_both marks c d w r side a free =
    let p : (marks w.number ≡ false) × ((marks r.number || false) ≡ false) = or_parts (marks w.number) (marks r.number || false) free in
    (a.same w.number p.0, a.same r.number ((or_parts (marks r.number) false p.1).0))

-- and the neighbours at which it looks
record SideAlike (marks : ℕ → Bool) (c d : List NodeRecord) (side : Side) (at : Option ℕ) (ns : List ℕ) : Type 0 where
  here : shown_neighbour_state c side at ≡ shown_neighbour_state d side at
  others : list_any marks ns ≡ false

side_alike : (marks : ℕ → Bool) (c d : List NodeRecord) (side : Side) (at : Option ℕ) (ns : List ℕ) → AgreeOutsideMarks marks c d → list_any marks (prepend_some at ns) ≡ false → SideAlike marks c d side at ns
side_alike marks c d side None ns a free = record { here = refl; others = free }
side_alike marks c d side (Some n) ns a free =
    let p : (marks n ≡ false) × (list_any marks ns ≡ false) = or_parts (marks n) (list_any marks ns) free in
    record { here = ap (λ (z : NodeRecord). shown_wait_state z.wait side) (a.same n p.0); others = p.1 }

sides_alike : (marks : ℕ → Bool) (c d : List NodeRecord) (n : ℕ) → AgreeOutsideMarks marks c d → list_any marks (neighbours_of_node n) ≡ false → neighbour_states c n ≡ neighbour_states d n
unfolding neighbours_of_node neighbour_states
sides_alike marks c d n a free =
    let right = side_alike marks c d Right (neighbour_number n Right) _ a free in
    let down = side_alike marks c d Down (neighbour_number n Down) _ a right.others in
    let left = side_alike marks c d Left (neighbour_number n Left) _ a down.others in
    let up = side_alike marks c d Up (neighbour_number n Up) [] a left.others in
    rw (right.here, down.here, left.here, up.here) refl

-- what a node does is the same where it sees no marked node
own_alike : (marks : ℕ → Bool) (c d : List NodeRecord) (node : NodeId) (at : NodeRecord) (look : Bool) → AgreeOutsideMarks marks c d → reads_io_next at ≡ look → list_any marks (looked_at_nodes (Own node) look) ≡ false → own (neighbour_states c node.number) at ≡ own (neighbour_states d node.number) at
own_alike marks c d node at true a is free = ap (λ z. own z at) (sides_alike marks c d node.number a free)
own_alike marks c d node at false a is free = own_blind (neighbour_states c node.number) (neighbour_states d node.number) at is

touch_alike : (marks : ℕ → Bool) (c d : List NodeRecord) (event : Event) → AgreeOutsideMarks marks c d → list_any marks (event_nodes event) ≡ false → event_refusal c event ≡ event_refusal d event
touch_alike marks c d (Own node) a free = ap (λ z. refusal_of_own_event z) (seen_same marks c d node a free)
touch_alike marks c d (Pass w r side) a free =
    let e : (node_record_at c w.number ≡ node_record_at d w.number) × (node_record_at c r.number ≡ node_record_at d r.number) = seen_both marks c d w r side a free in
    ap (λ z. refusal_unless_matched (is_transfer_ready w.number r.number side z.wait (node_record_at c r.number).wait)) e.0
    ∙ ap (λ z. refusal_unless_matched (is_transfer_ready w.number r.number side (node_record_at d w.number).wait z.wait)) e.1

pub refusal_alike : (marks : ℕ → Bool) (c d : List NodeRecord) (event : Event) → AgreeOutsideMarks marks c d → observes_marked_node marks (event_with_look_on_chip c event) ≡ false → event_refusal c event ≡ event_refusal d event
refusal_alike marks c d event a free = touch_alike marks c d event a (touched_free marks (event_with_look_on_chip c event) free)

-- its effect if it is enabled
abbrev DoneAlike : (ℕ → Bool) → List NodeRecord × MadeEventOutcome → List NodeRecord × MadeEventOutcome → Type 0
DoneAlike marks here there = AgreeOutsideMarks marks here.0 there.0 × (here.1 ≡ there.1)

after_alike : (marks : ℕ → Bool) (c d : List NodeRecord) (event : Event) → AgreeOutsideMarks marks c d → observes_marked_node marks (event_with_look_on_chip c event) ≡ false → DoneAlike marks (event_result c event) (event_result d event)
after_alike marks c d (Own node) a free =
    let n = node.number in
    let cause = event_with_look_on_chip c (Own node) in
    let e : node_record_at c n ≡ node_record_at d n = seen_same marks c d node a (touched_free marks cause free) in
    let s : own (neighbour_states c n) (node_record_at c n) ≡ own (neighbour_states d n) (node_record_at c n) = own_alike marks c d node (node_record_at c n) (reads_io_next (node_record_at c n)) a refl (looked_free marks cause free) in
    subst (λ z. DoneAlike marks (chip_after_own_event c n (own (neighbour_states c n) (node_record_at c n))) (chip_after_own_event d n (own (neighbour_states d n) z))) e
    (subst (λ z. DoneAlike marks (chip_after_own_event c n (own (neighbour_states c n) (node_record_at c n))) (chip_after_own_event d n z)) s
    (AgreeOutsideMarks-set marks c d n (own (neighbour_states c n) (node_record_at c n)).1 a, refl))
after_alike marks c d (Pass writer reader side) a free =
    let w = writer.number in
    let r = reader.number in
    let e : (node_record_at c w ≡ node_record_at d w) × (node_record_at c r ≡ node_record_at d r) = seen_both marks c d writer reader side a (touched_free marks (event_with_look_on_chip c (Pass writer reader side)) free) in
    let x = node_record_at c w in
    let y = node_record_at c r in
    subst (λ z. DoneAlike marks (chip_after_pass c w r x y) (chip_after_pass d w r z (node_record_at d r))) e.0
    (subst (λ z. DoneAlike marks (chip_after_pass c w r x y) (chip_after_pass d w r x z)) e.1
    (AgreeOutsideMarks-set marks (set c w _) (set d w _) r _ (AgreeOutsideMarks-set marks c d w _ a), refl))

-- an event that sees no marked node does the same to two chips that agree elsewhere
pub apply_alike : (marks : ℕ → Bool) (c d : List NodeRecord) (event : Event) → AgreeOutsideMarks marks c d → observes_marked_node marks (event_with_look_on_chip c event) ≡ false → AreEventResultsAlike marks (apply c event) (apply d event)
apply_alike marks c d event a free =
    subst (λ z. AreEventResultsAlike marks (some_if_allowed (event_refusal c event) (event_result c event)) (some_if_allowed z (event_result d event))) (refusal_alike marks c d event a free) (go (event_refusal c event))
  where
    go : (o : Option EventRefusal) → AreEventResultsAlike marks (some_if_allowed o (event_result c event)) (some_if_allowed o (event_result d event))
    go None = after_alike marks c d event a free
    go (Some why) = tt

-- and it looks at both or at neither
look_alike : (marks : ℕ → Bool) (c d : List NodeRecord) (event : Event) → AgreeOutsideMarks marks c d → list_any marks (event_nodes event) ≡ false → is_look c event ≡ is_look d event
look_alike marks c d (Own node) a free = ap (λ z. reads_io_next z) (seen_same marks c d node a free)
look_alike marks c d (Pass w r side) a free = refl

pub cause_alike : (marks : ℕ → Bool) (c d : List NodeRecord) (event : Event) → AgreeOutsideMarks marks c d → observes_marked_node marks (event_with_look_on_chip c event) ≡ false → event_with_look_on_chip c event ≡ event_with_look_on_chip d event
cause_alike marks c d event a free = ap (λ (b : Bool). named event b) (look_alike marks c d event a (touched_free marks (event_with_look_on_chip c event) free))
  where
    named : Event → Bool → EventWithLook
    named e b = record { event = e; look = b }

AgreeOutsideMarks-refl : (marks : ℕ → Bool) (c : List NodeRecord) → AgreeOutsideMarks marks c c
AgreeOutsideMarks-refl marks c = record { size = refl; same = λ n free. refl }

pub AgreeOutsideMarks-sym : (marks : ℕ → Bool) (c d : List NodeRecord) → AgreeOutsideMarks marks c d → AgreeOutsideMarks marks d c
AgreeOutsideMarks-sym marks c d a = record { size = sym a.size; same = λ n free. sym (a.same n free) }

-- a write to a marked node
AgreeOutsideMarks-write : (marks : ℕ → Bool) (c d : List NodeRecord) (n : ℕ) (x : NodeRecord) → marks n ≡ true → AgreeOutsideMarks marks c d → AgreeOutsideMarks marks c (set d n x)
AgreeOutsideMarks-write marks c d n x m a = record {
  size = a.size ∙ sym (length-set d n x);
  same = λ k free. a.same k free ∙ sym (get_or-set_other d n k x (record_of_node default_node) (λ e. both_ways (marks k) free (subst (λ z. marks z ≡ true) (sym e) m)));
}

after_keeps : (c : List NodeRecord) (event : Event) → AgreeOutsideMarks (touches event) c (event_result c event).0
after_keeps c (Own node) = AgreeOutsideMarks-write (touches (Own node)) c c node.number _ (grind (arith, eq-eqb)) (AgreeOutsideMarks-refl (touches (Own node)) c)
after_keeps c (Pass w r side) =
    let m = touches (Pass w r side) in
    AgreeOutsideMarks-write m c (set c w.number _) r.number _ (grind (arith, eq-eqb)) (AgreeOutsideMarks-write m c c w.number _ (grind (arith, eq-eqb)) (AgreeOutsideMarks-refl m c))

-- an event changes only what it touches
pub apply_keeps : (c : List NodeRecord) (event : Event) → IfSome (apply c event) (λ done. AgreeOutsideMarks (touches event) c done.0)
apply_keeps c event = go (event_refusal c event)
  where
    go : (o : Option EventRefusal) → IfSome (some_if_allowed o (event_result c event)) (λ done. AgreeOutsideMarks (touches event) c done.0)
    go None = after_keeps c event
    go (Some why) = tt
