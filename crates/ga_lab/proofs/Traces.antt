-- If no event of the history looks, the nodes' histories determine it.
use Rattle.std.proofs.Common.{◌≡◌, ℕ, ◌+◌, Bool, true, false, cond, List, [], ◌∷◌, ◌++◌, map, Some, None, refl, sym, ◌∙◌, ap, subst, arith, append-nil, eqb-true}
use Rattle.std.specs.Prelude.{Option}
use Rattle.std.specs.List.{filter, flat_map}
use Rattle.std.proofs.lemmas.Bool.{cond-true, cond-false, and_parts, false_from_ne_true}
use Rattle.std.proofs.lemmas.Option.{same_Some}
use Rattle.ga_ports.specs.declared.side.Side.{Side}
use Rattle.ga_ports.specs.declared.side.Side.TheVariants.{Right, Down, Left, Up}
use Rattle.ga_node.specs.declared.kind.EventRefusal.{EventRefusal}
use Rattle.ga_node.specs.Record.{NodeRecord}
use Rattle.ga_node.specs.declared.wait.Wait.{Wait}
use Rattle.ga_node.specs.Table.{register_t, own}
use Rattle.ga_grid.specs.Chip.{node_record_at}
use Rattle.ga_grid.specs.Grid.{neighbour_number}
use Rattle.ga_grid.specs.declared.node_id.NodeId.{NodeId}
use Rattle.ga_event.specs.declared.event.Event.{Event}
use Rattle.ga_event.specs.declared.event.Event.TheVariants as event
use Rattle.ga_event.specs.declared.event.EventWithLook.{EventWithLook}
use Rattle.ga_event.specs.Touches.{looked_at_nodes, nodes_observed_by_event, event_nodes as nodes_of_event}
use Rattle.ga_event.specs.Apply.{MadeEventOutcome, ExecutedOwn, PassedWord, neighbour_states, equals_optional_number, is_transfer_ready, waits_to_read_side, refusal_unless_matched, event_refusal, apply, event_result, some_if_allowed, event_with_look_on_chip, run_events}
use Rattle.ga_causal.specs.Dependence.{event_with_look_touches_node, HasNoLooks}
use Rattle.ga_causal.specs.Equivalence.{AreEquivalentLists, local_history, local_history_with_outcomes}
use Rattle.ga_causal.specs.Steps.{step_counts_after_event}
use Rattle.ga_causal.proofs.Runs.{causes, first_of_run}
use Rattle.ga_causal.proofs.Equivalences.{numbers, entries}
use Rattle.ga_causal.proofs.Consistent.{told_after}
use Rattle.ga_event.specs.declared.made.MadeEvent.{MadeEvent}
use Rattle.ga_event.specs.declared.made.MadeEvent.TheVariants as made
use Rattle.ga_event.specs.Told.{made_events_of_node}
use Rattle.ga_lab.specs.Machine.{MachineState, initial_state, chip_of_machine, machine_events_with_looks, history_of_node}
use Rattle.ga_lab.specs.Calls.{MachineCall, state_after_machine_calls}
use Rattle.ga_lab.proofs.Told.{made_of, history_accounted}
use Rattle.ga_lab.proofs.Called.{Runs, told_is, causes_is, first_runs, calls_load}
use Rattle.ga_lab.proofs.Alike.{consistent}
use Rattle.ga_lab.proofs.Heard.{none_looks}

-- the side on which a neighbour is
side_of : ℕ → ℕ → Side
side_of w r = cond (equals_optional_number (neighbour_number w Right) r) Right (cond (equals_optional_number (neighbour_number w Down) r) Down (cond (equals_optional_number (neighbour_number w Left) r) Left Up))

number_is : (o : Option ℕ) (r : ℕ) → equals_optional_number o r ≡ true → o ≡ Some r
number_is None r h = absurd (cc)
number_is (Some m) r h = ap Some (eqb-true m r h)

right_down : (w r : ℕ) → neighbour_number w Right ≡ Some r → neighbour_number w Down ≡ Some r → ⊥
right_down w r h k = grind arith

right_left : (w r : ℕ) → neighbour_number w Right ≡ Some r → neighbour_number w Left ≡ Some r → ⊥
right_left w r h k = grind arith

right_up : (w r : ℕ) → neighbour_number w Right ≡ Some r → neighbour_number w Up ≡ Some r → ⊥
right_up w r h k = grind arith

down_left : (w r : ℕ) → neighbour_number w Down ≡ Some r → neighbour_number w Left ≡ Some r → ⊥
down_left w r h k = grind arith

down_up : (w r : ℕ) → neighbour_number w Down ≡ Some r → neighbour_number w Up ≡ Some r → ⊥
down_up w r h k = grind arith

left_up : (w r : ℕ) → neighbour_number w Left ≡ Some r → neighbour_number w Up ≡ Some r → ⊥
left_up w r h k = grind arith

no_number : (o p : Option ℕ) (r : ℕ) → (o ≡ Some r → p ≡ Some r → ⊥) → equals_optional_number p r ≡ true → equals_optional_number o r ≡ false
no_number o p r h register_t = false_from_ne_true (equals_optional_number o r) (λ u. h (number_is o r u) (number_is p r register_t))

side_is : (w r : ℕ) (side : Side) → equals_optional_number (neighbour_number w side) r ≡ true → side_of w r ≡ side
unfolding side_of
side_is w r Right h = cond-true (equals_optional_number (neighbour_number w Right) r) Right _ h
side_is w r Down h =
    cond-false (equals_optional_number (neighbour_number w Right) r) Right _ (no_number (neighbour_number w Right) (neighbour_number w Down) r (right_down w r) h)
    ∙ cond-true (equals_optional_number (neighbour_number w Down) r) Down _ h
side_is w r Left h =
    cond-false (equals_optional_number (neighbour_number w Right) r) Right _ (no_number (neighbour_number w Right) (neighbour_number w Left) r (right_left w r) h)
    ∙ cond-false (equals_optional_number (neighbour_number w Down) r) Down _ (no_number (neighbour_number w Down) (neighbour_number w Left) r (down_left w r) h)
    ∙ cond-true (equals_optional_number (neighbour_number w Left) r) Left Up h
side_is w r Up h =
    cond-false (equals_optional_number (neighbour_number w Right) r) Right _ (no_number (neighbour_number w Right) (neighbour_number w Up) r (right_up w r) h)
    ∙ cond-false (equals_optional_number (neighbour_number w Down) r) Down _ (no_number (neighbour_number w Down) (neighbour_number w Up) r (down_up w r) h)
    ∙ cond-false (equals_optional_number (neighbour_number w Left) r) Left Up (no_number (neighbour_number w Left) (neighbour_number w Up) r (left_up w r) h)

-- an event that doesn't look
blind : Event → EventWithLook
blind e = record { event = e; look = false }

-- the event and outcome of an event as made
decoded : MadeEvent → (EventWithLook × List ℕ) × MadeEventOutcome
decoded (made.Own node k kind) = ((blind (event.Own node), k ∷ []), ExecutedOwn kind)
decoded (made.Pass w k r j word) = ((blind (event.Pass w r (side_of w.number r.number)), k ∷ j ∷ []), PassedWord word)

-- it can be decoded from its form as made
IsTellable : (EventWithLook × List ℕ) × MadeEventOutcome → Type 0
IsTellable x = (m : MadeEvent) × (made_of x ≡ m ∷ []) × (decoded m ≡ x)

abbrev AreTellable : List ((EventWithLook × List ℕ) × MadeEventOutcome) → Type 0
AreTellable [] = Unit {0}
AreTellable (x ∷ xs) = IsTellable x × AreTellable xs

seen_blind : (e : Event) → nodes_observed_by_event (blind e) ≡ nodes_of_event e
unfolding nodes_observed_by_event blind
seen_blind e = ap (λ z. nodes_of_event e ++ z) (none e) ∙ append-nil (nodes_of_event e)
  where
    none : (e : Event) → looked_at_nodes e false ≡ []
    none (event.Own node) = refl
    none (event.Pass w r side) = refl

own_tellable : (s : ℕ → ℕ) (node : NodeId) (kind : _) → IsTellable ((blind (event.Own node), (s node.number + 1) ∷ []), ExecutedOwn kind)
unfolding IsTellable decoded blind
own_tellable s node kind = (made.Own node (s node.number + 1) kind, refl, refl)

pass_tellable : (s : ℕ → ℕ) (w r : NodeId) (side : Side) (word : ℕ) → equals_optional_number (neighbour_number w.number side) r.number ≡ true → IsTellable ((blind (event.Pass w r side), (s w.number + 1) ∷ (s r.number + 1) ∷ []), PassedWord word)
unfolding IsTellable decoded blind
pass_tellable s w r side word h =
    (made.Pass w (s w.number + 1) r (s r.number + 1) word, refl, ap (λ z. ((blind (event.Pass w r z), (s w.number + 1) ∷ (s r.number + 1) ∷ []), PassedWord word)) (side_is w.number r.number side h))

-- an event that was made
record CanBe (c : List NodeRecord) (e : Event) (told : MadeEventOutcome) : Type 0 where
  free : event_refusal c e ≡ None
  is : (event_result c e).1 ≡ told

can_be : (c d : List NodeRecord) (e : Event) (told : MadeEventOutcome) → apply c e ≡ Some (d, told) → CanBe c e told
can_be c d e told h = go (event_refusal c e) refl h
  where
    go : (o : Option EventRefusal) → event_refusal c e ≡ o → some_if_allowed o (event_result c e) ≡ Some (d, told) → CanBe c e told
    go None q k = record { free = q; is = ap (λ (z : List NodeRecord × MadeEventOutcome). z.1) (same_Some (event_result c e) (d, told) k) }
    go (Some why) q k = absurd (cc)

number_open : (w r : ℕ) (side : Side) (posted awaited : Wait) → is_transfer_ready w r side posted awaited ≡ true → equals_optional_number (neighbour_number w side) r ≡ true
number_open w r side posted awaited h = (and_parts (equals_optional_number (neighbour_number w side) r) _ ((and_parts _ (waits_to_read_side awaited side) h).0)).0

open_from : (b : Bool) → refusal_unless_matched b ≡ None → b ≡ true
open_from true h = refl
open_from false h = absurd (cc)

numbers_blind : (s : ℕ → ℕ) (e : Event) → numbers s (blind e) ≡ map (λ n. s n + 1) (nodes_of_event e)
numbers_blind s e = ap (map (λ n. s n + 1)) (seen_blind e)

made_tellable : (c : List NodeRecord) (e : Event) (told : MadeEventOutcome) (s : ℕ → ℕ) → CanBe c e told → IsTellable ((blind e, numbers s (blind e)), told)
made_tellable c (event.Own node) told s h =
    subst (λ z. IsTellable ((blind (event.Own node), numbers s (blind (event.Own node))), z)) h.is
    (subst (λ z. IsTellable ((blind (event.Own node), z), (event_result c (event.Own node)).1)) (sym (numbers_blind s (event.Own node)))
    (own_tellable s node (own (neighbour_states c node.number) (node_record_at c node.number)).0))
made_tellable c (event.Pass w r side) told s h =
    let here : is_transfer_ready w.number r.number side (node_record_at c w.number).wait (node_record_at c r.number).wait ≡ true = open_from (is_transfer_ready w.number r.number side (node_record_at c w.number).wait (node_record_at c r.number).wait) h.free in
    subst (λ z. IsTellable ((blind (event.Pass w r side), numbers s (blind (event.Pass w r side))), z)) h.is
    (subst (λ z. IsTellable ((blind (event.Pass w r side), z), (event_result c (event.Pass w r side)).1)) (sym (numbers_blind s (event.Pass w r side)))
    (pass_tellable s w r side (register_t (node_record_at c w.number)) (number_open w.number r.number side (node_record_at c w.number).wait (node_record_at c r.number).wait here)))

cause_blind : (c : List NodeRecord) (e : Event) → (event_with_look_on_chip c e).look ≡ false → blind e ≡ event_with_look_on_chip c e
unfolding blind
cause_blind c e h = ap (named e) (sym h)
  where
    named : Event → Bool → EventWithLook
    named x b = record { event = x; look = b }

all_tellable : (c last : List NodeRecord) (es : List Event) (ts : List (EventWithLook × MadeEventOutcome)) (s : ℕ → ℕ) → run_events c es ≡ Some (last, ts) → HasNoLooks (causes ts) → AreTellable (told_after s ts)
all_tellable c last [] ts s is none = subst (λ (z : List NodeRecord × List (EventWithLook × MadeEventOutcome)). AreTellable (told_after s z.1)) (same_Some (c, []) (last, ts) is) tt
all_tellable c last (e ∷ es) ts s is none =
    let m = first_of_run c e es last ts is in
    let look : HasNoLooks (event_with_look_on_chip c e ∷ causes m.others) = subst (λ (z : List (EventWithLook × MadeEventOutcome)). HasNoLooks (causes z)) m.all none in
    subst (λ (z : List (EventWithLook × MadeEventOutcome)). AreTellable (told_after s z)) (sym m.all) (
      subst (λ z. IsTellable ((z, numbers s z), m.told)) (cause_blind c e look.0) (made_tellable c e m.told s (can_be c m.mid e m.told m.first)),
      all_tellable m.mid last es m.others (step_counts_after_event s (event_with_look_on_chip c e)) m.then look.1,
    )

some_tellable : (test : (EventWithLook × List ℕ) × MadeEventOutcome → Bool) (xs : List ((EventWithLook × List ℕ) × MadeEventOutcome)) → AreTellable xs → AreTellable (filter test xs)
some_tellable test [] h = tt
some_tellable test (x ∷ xs) h = go (test x) (some_tellable test xs h.1)
  where
    go : (b : Bool) → AreTellable (filter test xs) → AreTellable (cond b (x ∷ filter test xs) (filter test xs))
    go true k = (h.0, k)
    go false k = k

told_back : (xs : List ((EventWithLook × List ℕ) × MadeEventOutcome)) → AreTellable xs → map decoded (flat_map made_of xs) ≡ xs
unfolding IsTellable
told_back [] h = refl
told_back (x ∷ xs) h = one h.0 (told_back xs h.1)
  where
    one : IsTellable x → map decoded (flat_map made_of xs) ≡ xs → map decoded (made_of x ++ flat_map made_of xs) ≡ x ∷ xs
    one (m, p, q) k = ap (λ z. map decoded (z ++ flat_map made_of xs)) p ∙ ap (λ z. z ∷ map decoded (flat_map made_of xs)) q ∙ ap (λ z. x ∷ z) k

-- the local history of a node, out of the one with outcomes
untold : (n : ℕ) (s : ℕ → ℕ) (ts : List (EventWithLook × MadeEventOutcome)) → filter (λ (x : EventWithLook × List ℕ). event_with_look_touches_node x.0 n) (entries s (causes ts)) ≡ map (λ x. x.0) (filter (λ (x : (EventWithLook × List ℕ) × MadeEventOutcome). event_with_look_touches_node x.0.0 n) (told_after s ts))
untold n s [] = refl
untold n s (x ∷ ts) = go (event_with_look_touches_node x.0 n) _ _ (untold n (step_counts_after_event s x.0) ts)
  where
    go : (b : Bool) (xs : List (EventWithLook × List ℕ)) (ys : List ((EventWithLook × List ℕ) × MadeEventOutcome)) → xs ≡ map (λ x. x.0) ys → cond b ((x.0, numbers s x.0) ∷ xs) xs ≡ map (λ x. x.0) (cond b (((x.0, numbers s x.0), x.1) ∷ ys) ys)
    go true xs ys k = ap (λ z. (x.0, numbers s x.0) ∷ z) k
    go false xs ys k = k

account_told_back : (s : MachineState) (n : ℕ) (r : Runs s) → HasNoLooks (machine_events_with_looks s) → local_history n (machine_events_with_looks s) ≡ map (λ x. x.0) (map decoded (history_of_node s n))
account_told_back s n r none =
    let all : AreTellable (told_after (λ i. 0) r.told) = all_tellable s.load r.last s.kept r.told (λ i. 0) r.run_is (subst HasNoLooks (causes_is s r) none) in
    ap (local_history n) (causes_is s r) ∙ untold n (λ i. 0) r.told
    ∙ ap (map (λ x. x.0)) (sym (told_back (local_history_with_outcomes n r.told) (some_tellable (λ x. event_with_look_touches_node x.0.0 n) (told_after (λ i. 0) r.told) all)))
    ∙ ap (λ z. map (λ x. x.0) (map decoded z)) (sym (ap (λ z. made_events_of_node z n) (told_is s r) ∙ history_accounted r.told n))

pub traces_determine_chip : (load : List NodeRecord) (limit bound : ℕ) (calls others : List MachineCall)
    → HasNoLooks (machine_events_with_looks (state_after_machine_calls (initial_state load limit) calls))
    → ((n : ℕ) → history_of_node (state_after_machine_calls (initial_state load limit) calls) n ≡ history_of_node (state_after_machine_calls (initial_state load bound) others) n)
    → AreEquivalentLists load (state_after_machine_calls (initial_state load limit) calls).kept (state_after_machine_calls (initial_state load bound) others).kept × (chip_of_machine (state_after_machine_calls (initial_state load limit) calls) ≡ chip_of_machine (state_after_machine_calls (initial_state load bound) others))
traces_determine_chip load limit bound calls others none h =
    let s = state_after_machine_calls (initial_state load limit) calls in
    let z = state_after_machine_calls (initial_state load bound) others in
    let r = first_runs load limit calls in
    let q = first_runs load bound others in
    let nor : HasNoLooks (machine_events_with_looks z) = none_looks s z r q (calls_load (initial_state load limit) calls ∙ sym (calls_load (initial_state load bound) others)) none h in
    let k = consistent load limit bound calls others (λ n. account_told_back s n r none ∙ ap (λ x. map (λ y. y.0) (map decoded x)) (h n) ∙ sym (account_told_back z n q nor)) in
    (k.0, k.1)
