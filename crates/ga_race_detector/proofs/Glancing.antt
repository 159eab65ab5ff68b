-- The look and the change at two places.
use Rattle.std.proofs.Common.{◌≡◌, ℕ, zero, suc, List, [], ◌∷◌, take, refl, ◌∙◌, ap, ◌≢◌, ◌+◌, ◌<◌, ◌≤◌, cond, Bool, true, false, inl, inr, length, get_or, Option, Some, None, IsSome, sym, subst, arith, true≢false}
use Rattle.ga_event.specs.declared.event.Event.{Event}
use Rattle.ga_event.specs.declared.event.EventWithLook.{EventWithLook}
use Rattle.ga_event.specs.Told.{count_steps, events_of_causes}
use Rattle.ga_causal.specs.Steps.{count_touching_events}
use Rattle.ga_causal.proofs.Places.{touching_in, touching_before}
use Rattle.std.specs.Prelude.{nat_lt, is_some, is_none, ◌&&◌}
use Rattle.std.proofs.lemmas.Bool.{cases_Bool}
use Rattle.std.specs.List.{All}
use Rattle.std.proofs.lemmas.List.{take_all}
use Rattle.std.proofs.lemmas.List.Elements.{All-weaker}
use Rattle.ga_ports.specs.declared.side.Side.{Side}
use Rattle.ga_node.specs.Record.{NodeRecord}
use Rattle.ga_node.specs.Table.{refusal_of_own_event, reads_io_next}
use Rattle.ga_node.specs.declared.kind.EventRefusal.{EventRefusal}
use Rattle.ga_grid.specs.Chip.{node_record_at}
use Rattle.ga_grid.specs.declared.node_id.NodeId.{NodeId}
use Rattle.ga_event.specs.declared.event.Event.TheVariants.{Own, Pass}
use Rattle.ga_event.specs.Touches.{touches}
use Rattle.ga_event.specs.Apply.{replay, event_with_look_on_chip}
use Rattle.ga_causal.specs.Dependence.{event_with_look_touches_node, event_at}
use Rattle.ga_races.specs.HappensBefore.{TraceAction, trace_actions_of_events, are_neighbours}
use Rattle.ga_races.specs.declared.racing_pairs.RacingPair.{RacingPair}
use Rattle.ga_races.proofs.Independence.{touches_own, touches_writer, touches_reader}
use Rattle.ga_races.proofs.Before.{actions_length}
use Rattle.ga_lab.specs.Machine.{MachineState, chip_of_machine, machine_events_with_looks, earlier_state, state_after_rewind}
use Rattle.ga_race_detector.specs.Races.{is_next_event_look}
use Rattle.ga_race_detector.specs.Readings.{IsRealizableLookRace}
use Rattle.ga_race_detector.specs.inner.Glances.{AreEventStepCounts, AreEventsStepCounts, event_node_or_writer, event_node_or_reader, zero_step_counts, neighbour_node_of_event, IsLookChangeAtPositions, IsRequestedLookChange, IsOtherReadWord, IsRemovedStepMade}
use Rattle.ga_race_detector.specs.declared.moments.StepCounts.{StepCounts}
use Rattle.ga_race_detector.specs.declared.look_changes.LookChange.{LookChange}
use Rattle.ga_race_detector.proofs.Acting.{Made, made_at, cause_at, cause_there, causes_are, causes_long}
use Rattle.ga_race_detector.proofs.NearReadings.{kept_caused}
use Rattle.ga_race_detector.proofs.Posted.{stood_alike}
use Rattle.ga_race_detector.proofs.Standing.{Stands, stands_somewhere}

-- ---- how many steps of a node come before a place, by the causes and by the history

take_events : (causes : List EventWithLook) (place : ℕ) → events_of_causes (take place causes) ≡ take place (events_of_causes causes)
take_events causes zero = refl
take_events [] (suc place) = refl
take_events (cause ∷ causes) (suc place) = ap (λ (z : List Event). cause.event ∷ z) (take_events causes place)

pub steps_at : (causes : List EventWithLook) (kept : List Event) (place m : ℕ) → events_of_causes causes ≡ kept → count_touching_events m (take place causes) ≡ count_steps m (take place kept)
steps_at causes kept place m is =
    touching_in m (take place causes) ∙ ap (count_steps m) (take_events causes place) ∙ ap (λ (z : List Event). count_steps m (take place z)) is

some_led : (s : MachineState) (last : List NodeRecord) → replay s.load s.kept ≡ Some last → IsSome (replay s.load s.kept)
some_led s last led = ap is_some led

moment_is : (s : MachineState) (causes : List EventWithLook) (moments : List StepCounts) (p : ℕ) (e : EventWithLook) (at : StepCounts) → AreEventsStepCounts s causes moments → p < length causes → e ≡ get_or causes p e → at ≡ get_or moments p zero_step_counts → AreEventStepCounts s p e at
moment_is s causes moments p e at known l is told =
    let size : length moments ≡ length causes = known.size in
    subst (λ (z : EventWithLook). AreEventStepCounts s p z at) (sym (cause_at causes p e l is))
    (subst (AreEventStepCounts s p (event_at causes p)) (sym told) (known.each p (omega arith) (omega (arith, l, size))))

-- the neighbour of a node in a pass is its writer, if that is linked to the node, and else its reader
pub beside_first : {e : Event} {w r : NodeId} {side : Side} (n : ℕ) → e ≡ Pass w r side → are_neighbours n w.number ≡ true → event_node_or_writer e ≡ neighbour_node_of_event e n
beside_first {w} {r} n is on = ap event_node_or_writer is ∙ sym (ap (λ (b : Bool). cond {A = NodeId} b w r) on) ∙ sym (ap (λ (z : Event). neighbour_node_of_event z n) is)

pub beside_last : {e : Event} {w r : NodeId} {side : Side} (n : ℕ) → e ≡ Pass w r side → are_neighbours n w.number ≡ false → event_node_or_reader e ≡ neighbour_node_of_event e n
beside_last {w} {r} n is off = ap event_node_or_reader is ∙ sym (ap (λ (b : Bool). cond {A = NodeId} b w r) off) ∙ sym (ap (λ (z : Event). neighbour_node_of_event z n) is)

-- as the code reads them
pub glanced : (s : MachineState) (last : List NodeRecord) (causes : List EventWithLook) (moments : List StepCounts) (near : RacingPair) (e f : EventWithLook) (at by : StepCounts) (node neighbour : NodeId) (before : ℕ)
    → replay s.load s.kept ≡ Some last → causes ≡ machine_events_with_looks s → AreEventsStepCounts s causes moments → near.look < length causes → near.change < length causes
    → e ≡ get_or causes near.look e → f ≡ get_or causes near.change f → at ≡ get_or moments near.look zero_step_counts → by ≡ get_or moments near.change zero_step_counts
    → e ≡ record { event = Own node; look = true } → neighbour ≡ neighbour_node_of_event f.event node.number
    → ((s : MachineState) (p : ℕ) → AreEventStepCounts s p f by → before ≡ count_steps (neighbour_node_of_event f.event node.number).number (take p s.kept))
    → IsLookChangeAtPositions s near (record { node = node; step = at.first + 1; word = at.word; neighbour = neighbour; change = before + 1; is_look_first = nat_lt near.look near.change })
glanced s last causes moments near e f at by node neighbour before led all known l m ise isf isat isby own part count = record {
  look = subst (λ (z : List EventWithLook). near.look < length z) all l;
  change_at = subst (λ (z : List EventWithLook). near.change < length z) all m;
  looked = there_e ∙ own;
  step = ap (λ (z : ℕ). z + 1) (moment.first ∙ sym (steps_at (machine_events_with_looks s) s.kept near.look node.number kept));
  word = moment.word refl;
  neighbour = part ∙ ap (λ (z : EventWithLook). neighbour_node_of_event z.event node.number) (sym there_f);
  change = ap (λ (z : ℕ). z + 1) (count s near.change (moment_is s causes moments near.change f by known m isf isby) ∙ ap (λ (z : NodeId). count_steps z.number (take near.change s.kept)) (sym part) ∙ sym (steps_at (machine_events_with_looks s) s.kept near.change neighbour.number kept));
  is_look_first = refl;
}
  where
    kept : events_of_causes (machine_events_with_looks s) ≡ s.kept
    kept = kept_caused s (some_led s last led)

    there_e : event_at (machine_events_with_looks s) near.look ≡ e
    there_e = ap (λ (z : List EventWithLook). event_at z near.look) (sym all) ∙ sym (cause_at causes near.look e l ise)

    there_f : event_at (machine_events_with_looks s) near.change ≡ f
    there_f = ap (λ (z : List EventWithLook). event_at z near.change) (sym all) ∙ sym (cause_at causes near.change f m isf)

    moment : AreEventStepCounts s near.look (record { event = Own node; look = true }) at
    moment = subst (λ (z : EventWithLook). AreEventStepCounts s near.look z at) own (moment_is s causes moments near.look e at known l ise isat)

record IsOneOf (es : List EventWithLook) (step : NodeId × ℕ) : Type 0 where
  first : 0 < step.1
  within : step.1 ≤ count_touching_events step.0.number es

part_touched : (e : Event) (n : ℕ) → touches e (neighbour_node_of_event e n).number ≡ true
part_touched (Own a) n = touches_own a
part_touched (Pass w r side) n = elim (cases_Bool (are_neighbours n w.number)) [
  | inl t ↦ subst (λ (b : Bool). touches (Pass w r side) (cond {A = NodeId} b w r).number ≡ true) (sym t) (touches_writer w r side)
  | inr f ↦ subst (λ (b : Bool). touches (Pass w r side) (cond {A = NodeId} b w r).number ≡ true) (sym f) (touches_reader w r side)
]

-- the removed step is one of the list
pub has_step : (s : MachineState) (last : List NodeRecord) (near : RacingPair) (glance : LookChange) → replay s.load s.kept ≡ Some last → IsLookChangeAtPositions s near glance → IsRemovedStepMade (machine_events_with_looks s) glance
has_step s last near glance led g = (let one = go glance.is_look_first in record { first = one.first; within = one.within })
  where
    es : List EventWithLook
    es = machine_events_with_looks s

    within : (n k p : ℕ) → p < length es → event_with_look_touches_node (event_at es p) n ≡ true → k ≡ count_touching_events n (take p es) + 1 → k ≤ count_touching_events n es
    within n k p l touch is =
        let more = touching_before es n p (length es) l l touch in
        let whole : count_touching_events n (take (length es) es) ≡ count_touching_events n es = ap (count_touching_events n) (take_all (length es) es (omega arith)) in
        omega (arith, is, more, whole)

    look_touched : event_with_look_touches_node (event_at es near.look) glance.node.number ≡ true
    look_touched = ap (λ (z : EventWithLook). event_with_look_touches_node z glance.node.number) g.looked ∙ touches_own glance.node

    change_touched : event_with_look_touches_node (event_at es near.change) glance.neighbour.number ≡ true
    change_touched = ap (λ (z : NodeId). event_with_look_touches_node (event_at es near.change) z.number) g.neighbour ∙ part_touched (event_at es near.change).event glance.node.number

    go : (b : Bool) → IsOneOf es (cond {A = NodeId × ℕ} b (glance.node, glance.step) (glance.neighbour, glance.change))
    go true = record { first = (let q : glance.step ≡ count_touching_events glance.node.number (take near.look es) + 1 = g.step in omega (arith, q)); within = within glance.node.number glance.step near.look g.look look_touched g.step }
    go false = record { first = (let q : glance.change ≡ count_touching_events glance.neighbour.number (take near.change es) + 1 = g.change in omega (arith, q)); within = within glance.neighbour.number glance.change near.change g.change_at change_touched g.change }

-- the look comes next if as many steps of its node are left as came before it
pub looks_again : (s : MachineState) (last : List NodeRecord) (near : RacingPair) (glance : LookChange) (b k : ℕ) → replay s.load s.kept ≡ Some last → IsLookChangeAtPositions s near glance
    → count_steps glance.node.number (state_after_rewind s b k).kept + 1 ≡ glance.step → is_next_event_look (chip_of_machine (state_after_rewind s b k)) glance.node.number ≡ true
looks_again s last near glance b k led g one =
    subst (λ (z : NodeRecord). (is_none (refusal_of_own_event z) && reads_io_next z) ≡ true) (sym (a.same ∙ stood_alike s last n a.place near.look led count)) here
  where
    n : ℕ
    n = glance.node.number

    a : Stands s b k n
    a = stands_somewhere s b k n (some_led s last led)

    kept : events_of_causes (machine_events_with_looks s) ≡ s.kept
    kept = kept_caused s (some_led s last led)

    count : count_steps n (take a.place s.kept) ≡ count_steps n (take near.look s.kept)
    count =
        let x : count_steps n (take a.place s.kept) ≡ count_steps n (state_after_rewind s b k).kept = a.count in
        let y : glance.step ≡ count_touching_events n (take near.look (machine_events_with_looks s)) + 1 = g.step in
        let z : count_touching_events n (take near.look (machine_events_with_looks s)) ≡ count_steps n (take near.look s.kept) = steps_at (machine_events_with_looks s) s.kept near.look n kept in
        omega (arith, one, x, y, z)

    before : List NodeRecord
    before = chip_of_machine (earlier_state s near.look)

    within : near.look < length s.kept
    within = (let l : near.look < length (machine_events_with_looks s) = g.look in let long = causes_long s last led in omega (arith, l, long))

    made : Made s near.look (Own glance.node)
    made = made_at s last near.look (record { event = Own glance.node; look = true }) led (record { within = within; is = g.looked })

    look : reads_io_next (node_record_at before n) ≡ true
    look =
        let long : length (trace_actions_of_events s.load s.kept) ≡ length s.kept = actions_length s.load s.kept in
        let there : event_at (machine_events_with_looks s) near.look ≡ event_with_look_on_chip before (Own glance.node) =
        ap (λ (z : List EventWithLook). event_at z near.look) (sym (causes_are s last led)) ∙ cause_there (trace_actions_of_events s.load s.kept) near.look (let l = within in omega (arith, l, long)) ∙ ap (λ (z : TraceAction). z.cause) made.action in
        ap (λ (z : EventWithLook). z.look) (sym there ∙ g.looked)

    here : (is_none (refusal_of_own_event (node_record_at before n)) && reads_io_next (node_record_at before n)) ≡ true
    here = ap (λ (z : Option EventRefusal). is_none z && reads_io_next (node_record_at before n)) made.can ∙ look

-- a look that reads another word is a reading
pub otherwise : (s : MachineState) (near : RacingPair) (glance : LookChange) (word : ℕ) → IsLookChangeAtPositions s near glance → IsOtherReadWord s glance word → word ≢ glance.word
    → IsRealizableLookRace s (record { node = glance.node; step = glance.step; word = glance.word; neighbour = glance.neighbour; change = glance.change; is_look_first = glance.is_look_first; other = word })
otherwise s near glance word g o ne = record {
  place = near.look;
  stands = record { within = g.look; touched = ap (λ (z : EventWithLook). event_with_look_touches_node z glance.node.number) g.looked ∙ touches_own glance.node; before = sym g.step };
  looked = g.looked;
  read = g.word;
  next = o.next;
  step = o.step;
  other = o.is;
  differ = ne;
}

pub not_shown : (o : Option LookChange) → o ≡ None → IsSome o → ⊥
not_shown None h k = true≢false (sym k)
not_shown (Some x) h k = absurd (cc)

-- each of these is in the list
pub all_steps : (s : MachineState) (causes : List EventWithLook) (only : Option NodeId) (glances : List LookChange) → replay s.load s.kept ≡ Some (chip_of_machine s) → causes ≡ machine_events_with_looks s → All (IsRequestedLookChange s only) glances → All (IsRemovedStepMade causes) glances
all_steps s causes only glances led all glanced =
    All-weaker (IsRequestedLookChange s only) (IsRemovedStepMade causes) (λ glance g. subst (λ (z : List EventWithLook). IsRemovedStepMade z glance) (sym all) (has_step s (chip_of_machine s) g.0.0 glance led g.0.1)) glances glanced
