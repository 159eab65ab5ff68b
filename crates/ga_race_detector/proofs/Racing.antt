-- Races put one after another.
use Rattle.std.proofs.Common.{◌≡◌, ◌≢◌, ℕ, zero, suc, ◌+◌, ◌<◌, ◌≤◌, ◌%◌, ◌^◌, ◌==◌, cond, Bool, true, false, ◌||◌, List, [], ◌∷◌, ◌++◌, length, drop, get_or, Option, Some, None, refl, sym, ◌∙◌, ap, append_assoc, eq-eqb, arith, true≢false, inl, inr, is_none}
use Rattle.std.specs.Prelude.{IfSome, is_ok}
use Rattle.std.specs.List.{slice_get}
use Rattle.std.proofs.lemmas.Bool.{eqb-true, cases_eq}
use Rattle.std.proofs.lemmas.Option.{same_Some}
use Rattle.std.proofs.lemmas.List.{append-nil, drop_more, drop_all}
use Rattle.std.proofs.Math.Nat.{mod-eq_of_lt}
use Rattle.ga_node.specs.Record.{NodeRecord}
use Rattle.ga_grid.specs.declared.node_id.NodeId.{NodeId}
use Rattle.ga_grid.specs.Grid.{node_id, neighbour_number}
use Rattle.ga_grid.proofs.NodeIds.{node_id-number}
use Rattle.ga_event.specs.declared.event.EventWithLook.{EventWithLook}
use Rattle.ga_event.specs.declared.made.MadeEvent.{MadeEvent}
use Rattle.ga_ports.specs.declared.side.Side.{Side}
use Rattle.ga_lab.specs.Machine.{MachineState, chip_of_machine, history_of_node, state_after_rewind}
use Rattle.ga_race_detector.specs.Races.{alternative_word, race_with_offer, races_on_side, races_of_event, races_of_first_steps, races_of_node, races_of_nodes_below, has_look_event, is_next_event_look, has_next_look_event, first_ready_node}
use Rattle.ga_race_detector.specs.declared.races.Race.{Race}
use Rattle.ga_event.specs.Next.{next_event_of_node}
use Rattle.ga_races.specs.Orders.{node_has_event}
use Rattle.ga_races.proofs.Ready.{can_go_is, none_of}

pub added : (r : NodeId) (k : ℕ) (w : NodeId) (word : ℕ) (other : NodeId) (offer : Option ℕ) (o cut : ℕ) → offer ≡ Some o → other.number ≢ w.number → cut ≡ o % (2 ^ 18)
    → IfSome offer (λ z. z < 2 ^ 18) → race_with_offer r k w word (Some other.number) offer ≡ record { reader = r; step = k; writer = w; word = word; other = other; offered = cut } ∷ []
added r k w word other (Some x) o cut is ne c small =
    go (other.number == w.number) refl
  where
    go : (b : Bool) → (other.number == w.number) ≡ b
        → cond {A = List Race} b [] (record { reader = r; step = k; writer = w; word = word; other = node_id other.number; offered = x } ∷ [])
        ≡ record { reader = r; step = k; writer = w; word = word; other = other; offered = cut } ∷ []
    go true q = absurd (ne (eqb-true other.number w.number q))
    go false q =
        ap (λ (z : NodeId). record { reader = r; step = k; writer = w; word = word; other = z; offered = x } ∷ []) (node_id-number other)
        ∙ ap (λ (z : ℕ). record { reader = r; step = k; writer = w; word = word; other = other; offered = z } ∷ []) (same_Some x o is ∙ sym (c ∙ mod-eq_of_lt (subst_small small)))
      where
        subst_small : x < 2 ^ 18 → o < 2 ^ 18
        subst_small l = (let e : x ≡ o = same_Some x o is in omega (arith, e, l))
added r k w word other None o cut is ne c small = absurd (cc)

-- over the side of the writer of a step nothing else came
none_from : (r : NodeId) (k : ℕ) (w : NodeId) (word n : ℕ) (offer : Option ℕ) → n ≡ w.number → race_with_offer r k w word (Some n) offer ≡ []
none_from r k w word n None q = refl
none_from r k w word n (Some x) q =
    ap (λ (b : Bool). cond {A = List Race} b [] (record { reader = r; step = k; writer = w; word = word; other = node_id n; offered = x } ∷ [])) (eq-eqb n w.number q)

pub own_side : (s : MachineState) (r : NodeId) (k : ℕ) (w : NodeId) (word : ℕ) (side : Side) (old : List Race) → neighbour_number r.number side ≡ Some w.number
    → old ≡ old ++ races_on_side s r k w word side
own_side s r k w word side old is =
    sym (append-nil old) ∙ ap (λ (z : List Race). old ++ z) (sym (ap (λ (o : Option ℕ). race_with_offer r k w word o (alternative_word (chip_of_machine (state_after_rewind s r.number k)) r.number side)) is
    ∙ none_from r k w word w.number (alternative_word (chip_of_machine (state_after_rewind s r.number k)) r.number side) refl))

pub one_more : (s : MachineState) (node : NodeId) (p : ℕ) (m : MadeEvent) (old xs ys : List Race) → xs ≡ old ++ races_of_first_steps s node p → Some m ≡ slice_get (history_of_node s node.number) p
    → ys ≡ xs ++ races_of_event s node (p + 1) (Some m) → ys ≡ old ++ races_of_first_steps s node (p + 1)
unfolding races_of_first_steps
one_more s node p m old xs ys h is g =
    g ∙ ap (λ (z : List Race). z ++ races_of_event s node (p + 1) (Some m)) h ∙ append_assoc old (races_of_first_steps s node p) (races_of_event s node (p + 1) (Some m))
    ∙ ap (λ (o : Option MadeEvent). old ++ (races_of_first_steps s node p ++ races_of_event s node (p + 1) o)) is
    ∙ ap (λ (z : ℕ). old ++ races_of_first_steps s node z) (let q : suc p ≡ p + 1 = omega arith in q)

pub none_before : (s : MachineState) (node : NodeId) (old : List Race) → old ≡ old ++ races_of_first_steps s node 0
unfolding races_of_first_steps
none_before s node old = sym (append-nil old)

pub node_more : (s : MachineState) (n : ℕ) (node : NodeId) (old xs ys : List Race) → n < 144 → node.number ≡ n → xs ≡ old ++ races_of_nodes_below s n → ys ≡ xs ++ races_of_node s node → ys ≡ old ++ races_of_nodes_below s (n + 1)
unfolding races_of_nodes_below
node_more s n node old xs ys l e h g =
    g ∙ ap (λ (z : List Race). z ++ races_of_node s node) h ∙ append_assoc old (races_of_nodes_below s n) (races_of_node s node)
    ∙ ap (λ (z : NodeId). old ++ (races_of_nodes_below s n ++ races_of_node s z)) (sym (node_id-number node) ∙ ap node_id e)
    ∙ ap (λ (z : ℕ). old ++ races_of_nodes_below s z) (let q : suc n ≡ n + 1 = omega arith in q)

pub none_below : (s : MachineState) (old : List Race) → old ≡ old ++ races_of_nodes_below s 0
unfolding races_of_nodes_below
none_below s old = sym (append-nil old)

-- looks
pub look_at : (cs : List EventWithLook) (i : ℕ) (x : EventWithLook) → i < length cs → x ≡ get_or cs i x → has_look_event (drop i cs) ≡ (x.look || has_look_event (drop (i + 1) cs))
unfolding has_look_event
look_at cs i x l is = ap has_look_event (drop_more cs i x l) ∙ ap (λ (z : EventWithLook). z.look || has_look_event (drop (i + 1) cs)) (sym is)

pub look_none : (cs : List EventWithLook) (i : ℕ) → length cs ≤ i → has_look_event (drop i cs) ≡ false
unfolding has_look_event
look_none cs i l = ap has_look_event (drop_all i cs l)

pub next_more : (chip : List NodeRecord) (n : ℕ) (looks here : Bool) → looks ≡ has_next_look_event chip n → here ≡ is_next_event_look chip n → (here || looks) ≡ has_next_look_event chip (n + 1)
unfolding has_next_look_event
next_more chip n looks here h g =
    ap (λ (b : Bool). here || b) h ∙ ap (λ (b : Bool). b || has_next_look_event chip n) g ∙ ap (has_next_look_event chip) (let q : suc n ≡ n + 1 = omega arith in q)

pub next_none : (chip : List NodeRecord) → false ≡ has_next_look_event chip 0
unfolding has_next_look_event
next_none chip = refl

pub told_there : (xs : List MadeEvent) (i : ℕ) → i < length xs → slice_get xs i ≡ None → ⊥
told_there [] i l h = omega (arith, l)
told_there (x ∷ xs) zero l h = cc
told_there (x ∷ xs) (suc i) l h = told_there xs i (omega (arith, l)) h

-- one node more has no event
pub idle_more : (chip : List NodeRecord) (number : ℕ) (node : NodeId) → node.number ≡ number → is_ok (next_event_of_node chip node) ≡ false → ((n : ℕ) → n < number → node_has_event chip n ≡ false)
    → (n : ℕ) → n < number + 1 → node_has_event chip n ≡ false
idle_more chip number node at none before n l = elim (cases_eq n number) [
  | inl q ↦ ap (node_has_event chip) (q ∙ sym at) ∙ can_go_is chip node ∙ none
  | inr ne ↦ before n (omega (arith, l, ne))
]

-- some node has one
pub ready_some : (chip : List NodeRecord) (node : NodeId) → is_ok (next_event_of_node chip node) ≡ true → is_none (first_ready_node chip) ≡ false
ready_some chip node is = go (first_ready_node chip) refl
  where
    go : (o : Option NodeId) → first_ready_node chip ≡ o → is_none o ≡ false
    go (Some it) q = refl
    go None q =
        let l : node.number < 144 = node.in_range in
        let at : node.number ≡ (0 + node.number) % 144 = omega (arith, l) in
        absurd (true≢false (sym is ∙ sym (can_go_is chip node) ∙ ap (node_has_event chip) at ∙ none_of (node_has_event chip) 0 144 node.number q l))
