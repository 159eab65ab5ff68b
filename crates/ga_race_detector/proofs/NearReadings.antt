-- No look is left out that could have read another word where a change that is near to it comes on its other side.
use Rattle.std.proofs.Common.{◌≡◌, ◌≢◌, ℕ, zero, suc, ◌+◌, ◌/◌, ◌%◌, ◌<◌, ◌≤◌, ◌⊎◌, cond, Bool, true, false, ◌||◌, ◌&&◌, inl, inr, List, [], ◌∷◌, ◌++◌, length, take, get_or, Contains, Option, Some, None, IsSome, refl, sym, ◌∙◌, ap, subst, arith, true≢false, eq-eqb}
use Rattle.std.specs.Prelude.{is_some, Err, IfSome}
use Rattle.std.proofs.lemmas.Bool.{cases_Bool, cases_eq, cases_lt, or_cases, or_left, or_right}
use Rattle.std.proofs.lemmas.List.{take_all, take_more, get_or_default, length-map}
use Rattle.std.proofs.lemmas.List.Elements.{Contains-push_cases}
use Rattle.ga_ports.specs.declared.side.Side.{Side}
use Rattle.ga_ports.specs.declared.side.Side.TheVariants.{Right, Down, Left, Up}
use Rattle.ga_node.specs.Record.{NodeRecord}
use Rattle.ga_node.specs.Io.{io_word}
use Rattle.ga_grid.specs.declared.node_id.NodeId.{NodeId}
use Rattle.ga_grid.specs.Grid.{neighbour_number}
use Rattle.ga_grid.proofs.NodeIds.{NodeId-same}
use Rattle.ga_event.specs.declared.event.Event.{Event}
use Rattle.ga_event.specs.declared.event.Event.TheVariants.{Own, Pass}
use Rattle.ga_event.specs.declared.event.EventWithLook.{EventWithLook}
use Rattle.ga_event.specs.Touches.{touches}
use Rattle.ga_event.specs.Apply.{equals_optional_number, neighbour_states, replay}
use Rattle.ga_event.specs.Told.{count_steps, events_of_causes}
use Rattle.ga_causal.specs.Dependence.{event_at, position_of_step}
use Rattle.ga_causal.specs.Steps.{count_touching_events, IsKthStep}
use Rattle.ga_causal.proofs.Places.{touching_before, touching_in}
use Rattle.ga_races.specs.Orders.{IsEnabled}
use Rattle.ga_races.specs.declared.act.EventAccess.{EventAccess}
use Rattle.ga_races.specs.declared.racing_pairs.RacingPair.{RacingPair}
use Rattle.ga_races.specs.HappensBefore.{trace_action_at, trace_actions_of_events, AreRacingActions, are_neighbours}
use Rattle.ga_races.specs.Acts.{trace_action_of_event_access, trace_actions_of_accesses, is_node_own_event, IsRacingLook}
use Rattle.ga_races.specs.inner.{AreActionListsAlike}
use Rattle.ga_races.proofs.Conflicts.{alike-sym, near_alike, open_of, number_of, at_node, at_two}
use Rattle.ga_lab.specs.Machine.{MachineState, chip_of_machine, machine_events_with_looks, count_removed_events, rewind_answer, earlier_state, state_after_rewind, has_step}
use Rattle.ga_lab.specs.declared.fault.LabFault.{LabFault}
use Rattle.ga_lab.proofs.Called.{Runs, runs_of, causes_is, events_run}
use Rattle.ga_lab.proofs.Explaining.{step_has_position}
use Rattle.ga_lab.proofs.Reasoned.{replayed}
use Rattle.ga_race_detector.specs.Races.{is_next_event_look, has_look_event}
use Rattle.ga_race_detector.specs.Readings.{step_removed_for_look, IsRealizableLookRace, IsNearLookRace, IsReportedLookRace}
use Rattle.ga_race_detector.specs.inner.Glances.{neighbour_node_of_event, IsLookRaceAtPositions, IsLookChangeAtPositions, AreReportedPairsListed, IsRacingPairListed, AreAllLookRacesFound}
use Rattle.ga_race_detector.specs.declared.readings.LookRace.{LookRace}
use Rattle.ga_race_detector.specs.declared.look_changes.LookChange.{LookChange}
use Rattle.ga_race_detector.proofs.Acting.{Made, made_at, causes_long, causes_are, cause_there}
use Rattle.ga_race_detector.proofs.Behind.{stands_within}

-- ---- steps and places

-- a step has one place
pub one_place : (es : List EventWithLook) (n k p q : ℕ) → IsKthStep es n k p → IsKthStep es n k q → p ≡ q
one_place es n k p q a b = elim (cases_lt p q) [
  | inl l ↦ absurd (let u = touching_before es n p q l a.within a.touched in let x : count_touching_events n (take p es) + 1 ≡ k = a.before in let y : count_touching_events n (take q es) + 1 ≡ k = b.before in omega (arith, u, x, y))
  | inr g ↦ elim (cases_lt q p) [
    | inl l ↦ absurd (let u = touching_before es n q p l b.within b.touched in let x : count_touching_events n (take p es) + 1 ≡ k = a.before in let y : count_touching_events n (take q es) + 1 ≡ k = b.before in omega (arith, u, x, y))
    | inr h ↦ omega (arith, g, h)
  ]
]

-- and exists
step_stands : (s : MachineState) (n k p : ℕ) → events_of_causes (machine_events_with_looks s) ≡ s.kept → IsKthStep (machine_events_with_looks s) n k p → has_step s n k ≡ true
step_stands s n k p caused a =
    let es = machine_events_with_looks s in
    let l : p < length es = a.within in
    let x : count_touching_events n (take p es) + 1 ≡ k = a.before in
    let u = touching_before es n p (length es) l l a.touched in
    let all : count_touching_events n (take (length es) es) ≡ count_steps n s.kept = ap (count_touching_events n) (take_all (length es) es (omega arith)) ∙ touching_in n es ∙ ap (count_steps n) caused in
    stands_within s n k (omega (arith, x)) (omega (arith, x, u, all))

pub answered : (s : MachineState) (n k : ℕ) (why : LabFault) → IsSome (replay s.load s.kept) → has_step s n k ≡ true → rewind_answer s n k ≡ Err why → ⊥
answered s n k why some on = go (position_of_step (machine_events_with_looks s) n k) (step_has_position s n k (replayed s some) ∙ on)
  where
    go : (o : Option ℕ) → is_some o ≡ true → count_removed_events (machine_events_with_looks s) o ≡ Err why → ⊥
    go None is h = true≢false (sym is)
    go (Some i) is h = absurd (cc)

pub kept_caused : (s : MachineState) → IsSome (replay s.load s.kept) → events_of_causes (machine_events_with_looks s) ≡ s.kept
kept_caused s some = let r : Runs s = runs_of s some in ap events_of_causes (causes_is s r) ∙ events_run s.load r.last s.kept r.told r.run_is

pub some_none : {A : Type 0} (x : A) → Some x ≡ None → ⊥
some_none x h = absurd (cc)

pub no_some : (o : Option ℕ) → o ≡ None → IsSome o → ⊥
no_some None h k = true≢false (sym k)
no_some (Some x) h k = absurd (cc)

-- ---- the node of an event that is a neighbour of another

-- neighbours have different colours, as on a chessboard
abbrev colour : ℕ → ℕ
colour n = (n / 18 + n % 18) % 2

colours : (n m : ℕ) (side : Side) → neighbour_number n side ≡ Some m → colour m ≢ colour n
colours n m Right h = grind arith
colours n m Down h = grind arith
colours n m Left h = grind arith
colours n m Up h = grind arith

two_colours : (a b c : ℕ) → b % 2 ≢ a % 2 → c % 2 ≢ a % 2 → c % 2 ≢ b % 2 → ⊥
two_colours a b c x y z = omega (arith, x, y, z)

linked_by : (n m : ℕ) (side : Side) → neighbour_number n side ≡ Some m → are_neighbours n m ≡ true
linked_by n m side h = go side here
  where
    here : equals_optional_number (neighbour_number n side) m ≡ true
    here = ap (λ (o : Option ℕ). equals_optional_number o m) h ∙ eq-eqb m m refl

    go : (side : Side) → equals_optional_number (neighbour_number n side) m ≡ true → are_neighbours n m ≡ true
    go Right t = or_left (equals_optional_number (neighbour_number n Right) m) _ t
    go Down t = or_right (equals_optional_number (neighbour_number n Right) m) _ (or_left (equals_optional_number (neighbour_number n Down) m) _ t)
    go Left t = or_right (equals_optional_number (neighbour_number n Right) m) _ (or_right (equals_optional_number (neighbour_number n Down) m) _ (or_left (equals_optional_number (neighbour_number n Left) m) _ t))
    go Up t = or_right (equals_optional_number (neighbour_number n Right) m) _ (or_right (equals_optional_number (neighbour_number n Down) m) _ (or_right (equals_optional_number (neighbour_number n Left) m) (equals_optional_number (neighbour_number n Up) m) t))

linked_over : (n m : ℕ) → are_neighbours n m ≡ true → (side : Side) × (neighbour_number n side ≡ Some m)
linked_over n m t = elim (or_cases (equals_optional_number (neighbour_number n Right) m) (equals_optional_number (neighbour_number n Down) m || (equals_optional_number (neighbour_number n Left) m || equals_optional_number (neighbour_number n Up) m)) t) [
  | inl a ↦ (Right, number_of (neighbour_number n Right) m a)
  | inr u ↦ elim (or_cases (equals_optional_number (neighbour_number n Down) m) (equals_optional_number (neighbour_number n Left) m || equals_optional_number (neighbour_number n Up) m) u) [
    | inl a ↦ (Down, number_of (neighbour_number n Down) m a)
    | inr v ↦ elim (or_cases (equals_optional_number (neighbour_number n Left) m) (equals_optional_number (neighbour_number n Up) m) v) [
      | inl a ↦ (Left, number_of (neighbour_number n Left) m a)
      | inr a ↦ (Up, number_of (neighbour_number n Up) m a)
    ]
  ]
]

-- of two linked nodes only one is a neighbour of a third
the_part : (c : List NodeRecord) (e : Event) (n m : NodeId) (side : Side) → IsEnabled c e → touches e m.number ≡ true → neighbour_number n.number side ≡ Some m.number → neighbour_node_of_event e n.number ≡ m
the_part c (Own a) n m side can touch beside = NodeId-same a m (at_node a.number m.number touch)
the_part c (Pass w r s) n m side can touch beside = elim (at_two w.number r.number m.number touch) [
  | inl from ↦ ap (λ (b : Bool). cond {A = NodeId} b w r) (linked_by n.number w.number side (beside ∙ ap Some (sym from))) ∙ NodeId-same w m from
  | inr to ↦ elim (cases_Bool (are_neighbours n.number w.number)) [
    | inl on ↦ (
        let o = linked_over n.number w.number on in
        let near : neighbour_number w.number s ≡ Some r.number = number_of (neighbour_number w.number s) r.number (open_of c w r s can).near in
        absurd (two_colours (n.number / 18 + n.number % 18) (w.number / 18 + w.number % 18) (r.number / 18 + r.number % 18)
        (colours n.number w.number o.0 o.1) (colours n.number r.number side (beside ∙ ap Some (sym to))) (colours w.number r.number s near)))
    | inr off ↦ ap (λ (b : Bool). cond {A = NodeId} b w r) off ∙ NodeId-same r m to
  ]
]

-- ---- the look and the change at their places

-- the parts of the look and of the change are those of the reading
pub record IsSaidOf (reading : LookRace) (who : NodeId) (at : ℕ) (beside : NodeId) (by : ℕ) (first : Bool) : Type 0 where
  pub node : who ≡ reading.node
  pub step : at ≡ reading.step
  pub neighbour : beside ≡ reading.neighbour
  pub change : by ≡ reading.change
  pub is_look_first : first ≡ reading.is_look_first

-- the event of the look
looked_there : (s : MachineState) (near : RacingPair) (reading : LookRace) → IsRealizableLookRace s reading → IsLookRaceAtPositions s near reading → event_at (machine_events_with_looks s) near.look ≡ record { event = Own reading.node; look = true }
looked_there s near reading o a = ap (event_at (machine_events_with_looks s)) (sym (one_place (machine_events_with_looks s) reading.node.number reading.step o.place near.look o.stands a.looks)) ∙ o.looked

pub said_of : (s : MachineState) (near : RacingPair) (glance : LookChange) (reading : LookRace) → replay s.load s.kept ≡ Some (chip_of_machine s) → IsLookChangeAtPositions s near glance → IsRealizableLookRace s reading → IsLookRaceAtPositions s near reading
    → IsSaidOf reading glance.node glance.step glance.neighbour glance.change glance.is_look_first
said_of s near glance reading led g o a = record {
  node = node_is;
  step = g.step ∙ ap (λ (x : NodeId). count_touching_events x.number (take near.look (machine_events_with_looks s)) + 1) node_is ∙ a.looks.before;
  neighbour = beside_is;
  change = g.change ∙ ap (λ (x : NodeId). count_touching_events x.number (take near.change (machine_events_with_looks s)) + 1) beside_is ∙ a.changes.before;
  is_look_first = g.is_look_first ∙ sym a.order;
}
  where
    node_of : Event → NodeId → NodeId
    node_of (Own x) other = x
    node_of (Pass w r side) other = other

    node_is : glance.node ≡ reading.node
    node_is = ap (λ (z : EventWithLook). node_of z.event glance.node) (sym g.looked ∙ looked_there s near reading o a)

    f : EventWithLook
    f = event_at (machine_events_with_looks s) near.change

    within : near.change < length s.kept
    within = (let l : near.change < length (machine_events_with_looks s) = g.change_at in let long = causes_long s (chip_of_machine s) led in omega (arith, l, long))

    made : Made s near.change f.event
    made = made_at s (chip_of_machine s) near.change f led (record { within = within; is = refl })

    beside_is : glance.neighbour ≡ reading.neighbour
    beside_is = g.neighbour ∙ ap (λ (x : NodeId). neighbour_node_of_event f.event x.number) node_is ∙ the_part _ f.event reading.node reading.neighbour a.side made.can a.changes.touched a.beside

pub back_stands : (s : MachineState) (near : RacingPair) (reading : LookRace) → events_of_causes (machine_events_with_looks s) ≡ s.kept → IsLookRaceAtPositions s near reading → (is_look_first : Bool)
    → (let back : NodeId × ℕ = cond is_look_first (reading.node, reading.step) (reading.neighbour, reading.change) in has_step s back.0.number back.1 ≡ true)
back_stands s near reading caused a true = step_stands s reading.node.number reading.step near.look caused a.looks
back_stands s near reading caused a false = step_stands s reading.neighbour.number reading.change near.change caused a.changes

back_is : (reading : LookRace) (node : NodeId) (step : ℕ) (neighbour : NodeId) (change : ℕ) (is_look_first : Bool) → IsSaidOf reading node step neighbour change is_look_first
    → cond {A = NodeId × ℕ} is_look_first (node, step) (neighbour, change) ≡ step_removed_for_look reading
back_is reading node step neighbour change is_look_first said =
    ap (λ (z : NodeId). cond {A = NodeId × ℕ} is_look_first (z, step) (neighbour, change)) said.node
    ∙ ap (λ (z : ℕ). cond {A = NodeId × ℕ} is_look_first (reading.node, z) (neighbour, change)) said.step
    ∙ ap (λ (z : NodeId). cond {A = NodeId × ℕ} is_look_first (reading.node, reading.step) (z, change)) said.neighbour
    ∙ ap (λ (z : ℕ). cond {A = NodeId × ℕ} is_look_first (reading.node, reading.step) (reading.neighbour, z)) said.change
    ∙ ap (λ (z : Bool). cond {A = NodeId × ℕ} z (reading.node, reading.step) (reading.neighbour, reading.change)) said.is_look_first

-- the removed step exists, and after its rollback the node looks again and reads the other word
pub record IsReadAgain (s : MachineState) (reading : LookRace) (back : NodeId × ℕ) (node : NodeId) (number : ℕ) : Type 0 where
  pub stands : has_step s back.0.number back.1 ≡ true
  pub next : is_next_event_look (chip_of_machine (state_after_rewind s back.0.number back.1)) node.number ≡ true
  pub step : count_steps node.number (state_after_rewind s back.0.number back.1).kept + 1 ≡ number
  pub other : reading.other ≡ io_word (neighbour_states (chip_of_machine (state_after_rewind s back.0.number back.1)) node.number)

pub read_again : (s : MachineState) (near : RacingPair) (reading : LookRace) (node : NodeId) (step : ℕ) (neighbour : NodeId) (change : ℕ) (is_look_first : Bool) → events_of_causes (machine_events_with_looks s) ≡ s.kept
    → IsSaidOf reading node step neighbour change is_look_first → IsRealizableLookRace s reading → IsLookRaceAtPositions s near reading
    → IsReadAgain s reading (cond {A = NodeId × ℕ} is_look_first (node, step) (neighbour, change)) node step
read_again s near reading node step neighbour change is_look_first caused said o a =
    subst (λ (z : NodeId × ℕ). IsReadAgain s reading z node step) (sym (back_is reading node step neighbour change is_look_first said))
    (subst (λ (z : NodeId). IsReadAgain s reading (step_removed_for_look reading) z step) (sym said.node)
    (subst (λ (z : ℕ). IsReadAgain s reading (step_removed_for_look reading) reading.node z) (sym said.step)
    (record { stands = back_stands s near reading caused a reading.is_look_first; next = o.next; step = o.step; other = o.other })))

-- the word that it read
pub word_there : (s : MachineState) (near : RacingPair) (reading : LookRace) (node : NodeId) → node ≡ reading.node → IsRealizableLookRace s reading → IsLookRaceAtPositions s near reading
    → io_word (neighbour_states (chip_of_machine (earlier_state s near.look)) node.number) ≡ reading.word
word_there s near reading node is o a =
    let same : o.place ≡ near.look = one_place (machine_events_with_looks s) reading.node.number reading.step o.place near.look o.stands a.looks in
    ap (λ (z : NodeId). io_word (neighbour_states (chip_of_machine (earlier_state s near.look)) z.number)) is
    ∙ ap (λ (z : ℕ). io_word (neighbour_states (chip_of_machine (earlier_state s z)) reading.node.number)) (sym same) ∙ sym o.read

pub same_reading : (reading : LookRace) (node : NodeId) (step word : ℕ) (neighbour : NodeId) (change : ℕ) (is_look_first : Bool) (other : ℕ) → IsSaidOf reading node step neighbour change is_look_first
    → word ≡ reading.word → other ≡ reading.other
    → record { node = node; step = step; word = word; neighbour = neighbour; change = change; is_look_first = is_look_first; other = other } ≡ reading
same_reading reading node step word neighbour change is_look_first other said w u =
    ap (λ (z : NodeId). let r : LookRace = record { node = z; step = step; word = word; neighbour = neighbour; change = change; is_look_first = is_look_first; other = other } in r) said.node
    ∙ ap (λ (z : ℕ). let r : LookRace = record { node = reading.node; step = z; word = word; neighbour = neighbour; change = change; is_look_first = is_look_first; other = other } in r) said.step
    ∙ ap (λ (z : ℕ). let r : LookRace = record { node = reading.node; step = reading.step; word = z; neighbour = neighbour; change = change; is_look_first = is_look_first; other = other } in r) w
    ∙ ap (λ (z : NodeId). let r : LookRace = record { node = reading.node; step = reading.step; word = reading.word; neighbour = z; change = change; is_look_first = is_look_first; other = other } in r) said.neighbour
    ∙ ap (λ (z : ℕ). let r : LookRace = record { node = reading.node; step = reading.step; word = reading.word; neighbour = reading.neighbour; change = z; is_look_first = is_look_first; other = other } in r) said.change
    ∙ ap (λ (z : Bool). let r : LookRace = record { node = reading.node; step = reading.step; word = reading.word; neighbour = reading.neighbour; change = reading.change; is_look_first = z; other = other } in r) said.is_look_first
    ∙ ap (λ (z : ℕ). let r : LookRace = record { node = reading.node; step = reading.step; word = reading.word; neighbour = reading.neighbour; change = reading.change; is_look_first = reading.is_look_first; other = z } in r) u

-- ---- what is near in the list of acts

look_found : (cs : List EventWithLook) (p : ℕ) → p < length cs → (event_at cs p).look ≡ true → has_look_event cs ≡ true
unfolding has_look_event
look_found [] p l h = absurd (omega (arith, l))
look_found (c ∷ cs) zero l h = or_left c.look (has_look_event cs) h
look_found (c ∷ cs) (suc p) l h = or_right c.look (has_look_event cs) (look_found cs p (omega (arith, l)) h)

pub none_without_looks : (s : MachineState) (reading : LookRace) → has_look_event (machine_events_with_looks s) ≡ false → IsRealizableLookRace s reading → ⊥
none_without_looks s reading none o =
    true≢false (sym (look_found (machine_events_with_looks s) o.place o.stands.within (ap (λ (z : EventWithLook). z.look) o.looked)) ∙ none)

pub is_near : (s : MachineState) (acts : List EventAccess) (causes : List EventWithLook) (reading : LookRace) → replay s.load s.kept ≡ Some (chip_of_machine s) → causes ≡ machine_events_with_looks s → length acts ≡ length causes
    → AreActionListsAlike (trace_actions_of_accesses acts) (trace_actions_of_events s.load s.kept) → IsRealizableLookRace s reading → (n : IsNearLookRace s reading) → IsRacingLook acts (record { look = n.look; change = n.change })
is_near s acts causes reading led all size alike o n = record {
  node = reading.node.number;
  look = ap (λ (z : EventWithLook). z.look && is_node_own_event z.event reading.node.number) (cause_is n.look look_within ∙ looked)
      ∙ eq-eqb reading.node.number reading.node.number refl;
  change = alike.changes n.change reading.node.number change_within reading.node.in_range ∙ n.shown;
  order = order n.near;
}
  where
    long : length (trace_actions_of_accesses acts) ≡ length (machine_events_with_looks s)
    long = length-map acts trace_action_of_event_access ∙ size ∙ ap length all

    look_within : n.look < length (trace_actions_of_accesses acts)
    look_within = (let l : n.look < length (machine_events_with_looks s) = n.looks.within in let q = long in omega (arith, l, q))

    change_within : n.change < length (trace_actions_of_accesses acts)
    change_within = (let l : n.change < length (machine_events_with_looks s) = n.changes.within in let q = long in omega (arith, l, q))

    cause_is : (i : ℕ) → i < length (trace_actions_of_accesses acts) → (trace_action_at (trace_actions_of_accesses acts) i).cause ≡ event_at (machine_events_with_looks s) i
    cause_is i l =
        alike.cause i l ∙ sym (cause_there (trace_actions_of_events s.load s.kept) i (let q : length (trace_actions_of_accesses acts) ≡ length (trace_actions_of_events s.load s.kept) = alike.size in omega (arith, l, q)))
        ∙ ap (λ z. event_at z i) (causes_are s (chip_of_machine s) led)

    looked : event_at (machine_events_with_looks s) n.look ≡ record { event = Own reading.node; look = true }
    looked = ap (event_at (machine_events_with_looks s)) (sym (one_place (machine_events_with_looks s) reading.node.number reading.step o.place n.look o.stands n.looks)) ∙ o.looked

    back_alike : AreActionListsAlike (trace_actions_of_events s.load s.kept) (trace_actions_of_accesses acts)
    back_alike = alike-sym (trace_actions_of_accesses acts) (trace_actions_of_events s.load s.kept) alike

    order : AreRacingActions (trace_actions_of_events s.load s.kept) n.look n.change ⊎ AreRacingActions (trace_actions_of_events s.load s.kept) n.change n.look
        → AreRacingActions (trace_actions_of_accesses acts) n.look n.change ⊎ AreRacingActions (trace_actions_of_accesses acts) n.change n.look
    order (inl near) = inl (near_alike (trace_actions_of_events s.load s.kept) (trace_actions_of_accesses acts) n.look n.change back_alike near)
    order (inr near) = inr (near_alike (trace_actions_of_events s.load s.kept) (trace_actions_of_accesses acts) n.change n.look back_alike near)

pub at_near : (s : MachineState) (reading : LookRace) (n : IsNearLookRace s reading) → IsLookRaceAtPositions s (record { look = n.look; change = n.change }) reading
at_near s reading n = record { looks = n.looks; changes = n.changes; side = n.side; beside = n.beside; order = n.order }

-- ---- one of the list more

-- the look is at its place
pub look_there : (s : MachineState) (near : RacingPair) (reading : LookRace) → IsRealizableLookRace s reading → IsLookRaceAtPositions s near reading → event_at (machine_events_with_looks s) near.look ≡ record { event = Own reading.node; look = true }
look_there s near reading o a = looked_there s near reading o a

-- it is of the requested node
pub asked_of : (s : MachineState) (only : Option NodeId) (near : RacingPair) (glance : LookChange) (reading : LookRace) → replay s.load s.kept ≡ Some (chip_of_machine s) → IsLookChangeAtPositions s near glance → IsReportedLookRace s only reading → IsLookRaceAtPositions s near reading
    → IfSome only (λ it. glance.node ≡ it)
asked_of s only near glance reading led g t a = subst (λ (z : NodeId). IfSome only (λ it. z ≡ it)) (sym (said_of s near glance reading led g t.0 a).node) t.1

pub glanced_first : (s : MachineState) (only : Option NodeId) (list : List LookChange) → AreReportedPairsListed s only [] list
glanced_first s only list reading near h told at = absurd (let l : h.0 < 0 = h.1 in omega (arith, l))

pub glanced_next : (s : MachineState) (only : Option NodeId) (nears : List RacingPair) (i : ℕ) (one : RacingPair) (old new : List LookChange) → i < length nears → one ≡ get_or nears i one
    → ((glance : LookChange) → Contains old glance → Contains new glance) → ((reading : LookRace) → IsReportedLookRace s only reading → IsLookRaceAtPositions s one reading → IsRacingPairListed s one new)
    → AreReportedPairsListed s only (take i nears) old → AreReportedPairsListed s only (take (i + 1) nears) new
glanced_next s only nears i one old new l is kept here before reading near h told at =
    elim (Contains-push_cases (take i nears) one near (subst (λ (z : List RacingPair). Contains z near) (take_more nears i one l ∙ ap (λ (z : RacingPair). take i nears ++ z ∷ []) (sym is)) h)) [
      | inl u ↦ (let g = before reading near u told at in (g.0, kept g.0 g.1, g.2))
      | inr q ↦ subst (λ (z : RacingPair). IsRacingPairListed s z new) q (here reading told (subst (λ (z : RacingPair). IsLookRaceAtPositions s z reading) (sym q) at))
    ]

-- none of the first `place` looks is left out
abbrev pub AreReadUpto : MachineState → Option NodeId → List LookChange → ℕ → List LookRace → Type 0
AreReadUpto s only glances place list = (near : RacingPair) (i : ℕ) (glance : LookChange) (reading : LookRace) → i < place → glance ≡ get_or glances i glance → IsLookChangeAtPositions s near glance → IsReportedLookRace s only reading → IsLookRaceAtPositions s near reading
    → Contains list reading

pub read_first : (s : MachineState) (only : Option NodeId) (glances : List LookChange) (list : List LookRace) → AreReadUpto s only glances 0 list
read_first s only glances list near i glance reading l is g told at = absurd (omega (arith, l))

pub read_next : (s : MachineState) (only : Option NodeId) (glances : List LookChange) (place : ℕ) (one : LookChange) (old new : List LookRace) → place < length glances → one ≡ get_or glances place one
    → ((reading : LookRace) → Contains old reading → Contains new reading) → ((near : RacingPair) (reading : LookRace) → IsLookChangeAtPositions s near one → IsReportedLookRace s only reading → IsLookRaceAtPositions s near reading → Contains new reading)
    → AreReadUpto s only glances place old → AreReadUpto s only glances (place + 1) new
read_next s only glances place one old new within there kept here before near i glance reading l is g told at = elim (cases_eq i place) [
  | inl q ↦ here near reading (subst (IsLookChangeAtPositions s near) (is ∙ ap (λ (z : ℕ). get_or glances z glance) q ∙ get_or_default glances place glance one within ∙ sym there) g) told at
  | inr ne ↦ kept reading (before near i glance reading (omega (arith, l, ne)) is g told at)
]

pub read_all : (s : MachineState) (only : Option NodeId) (glances : List LookChange) (place : ℕ) (list : List LookRace) → length glances ≤ place → AreReadUpto s only glances place list → AreAllLookRacesFound s only glances list
read_all s only glances place list past upto near glance reading has g told at =
    let l : has.0 < length glances = has.1 in
    upto near has.0 glance reading (omega (arith, l, past)) (sym has.2) g told at
