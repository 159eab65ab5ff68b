use Rattle.std.proofs.Common.{◌≡◌, ◌∙◌, ◌+◌, ◌-◌, ap, sym, subst, arith, length, take, ℕ, max, Some}
use Rattle.std.specs.Prelude.{is_some, IsSome}
use Rattle.ga_grid.specs.declared.node_id.NodeId.{NodeId}
use Rattle.ga_event.specs.Apply.{replay}
use Rattle.ga_event.specs.Told.{count_steps, made_event_at_place}
use Rattle.ga_lab.specs.Machine.{MachineState, NodeAtStep, earlier_state, machine_events_with_outcomes, BackwardState, backward_state}
use Rattle.ga_scheduler.specs.inner.{condition_transfer_count, condition_transfers_added, condition_node_or_zero, newest_held_prefix_length, holds_at_considered_event}
use Rattle.ga_scheduler.proofs.Newest.{whole_earlier, fewer_before, counted_back}
use Rattle.ga_scheduler.proofs.Backing.{back_before, told_before, below, found, ended, steps_whole, stands_now}
use Rattle.ga_scheduler.proofs.reverse_search.search_back.Goals as goal

pub loop-place-init : goal.loop-place-init
loop-place-init c =
    let s : MachineState = c.args.lab.now in
    let n : NodeId = condition_node_or_zero c.args.until.now in
    let e : c.counts-place.result.kept ≡ length s.kept = c.counts-place.ensures.kept in
    let w : c.walk_node_from_step-walk.result.step ≡ c.steps.result = ap (λ (z : NodeAtStep). z.step) c.walk_node_from_step-walk.ensures in
    let all : count_steps n.number (take c.counts-place.result.kept s.kept) ≡ count_steps n.number s.kept = steps_whole s n.number c.counts-place.result.kept e in
    let same : count_steps c.node_of-node.result.number s.kept ≡ count_steps n.number s.kept = ap (λ (z : NodeId). count_steps z.number s.kept) c.node_of-node.ensures in
    record {
      within = omega (arith, e);
      events = c.backward_reader-events.ensures ∙ ap (backward_state s) (sym e);
      machine = ap (λ (z : NodeAtStep). z.machine) c.walk_node_from_step-walk.ensures;
      node = ap (λ (z : NodeAtStep). z.node) c.walk_node_from_step-walk.ensures ∙ c.node_of-node.ensures;
      steps = omega (arith, w, all, same, c.steps.ensures.steps);
      words = ap (λ (z : ℕ). condition_transfer_count c.args.until.now (earlier_state s z)) e ∙ ap (condition_transfer_count c.args.until.now) (whole_earlier s) ∙ sym c.count-words.ensures;
      same = ap (λ (z : ℕ). max c.args.least (newest_held_prefix_length c.args.until.now c.args.only s z)) e;
    }

pub loop-place-preserved : goal.loop-place-preserved
loop-place-preserved c =
    let s : MachineState = c.args.lab.now in
    let u = c.args.until.now in
    let n : NodeId = condition_node_or_zero u in
    let m : ℕ = c.loop-place.place - 1 in
    let e : m + 1 ≡ c.loop-place.place = omega (arith, c.loop-place-test.true) in
    let et : c.back.new.self ≡ backward_state s m = back_before s c.loop-place.place _ _ c.loop-place.invariant.events c.in-Some.ensures.left in
    let some : IsSome (replay s.load s.kept) = ap is_some c.chip.ensures.replays in
    let told : made_event_at_place (machine_events_with_outcomes s) m ≡ Some c.in-Some.made =
    told_before s c.loop-place.place c.in-Some.made _ (omega (arith, c.loop-place-test.true)) c.loop-place.invariant.events c.in-Some.ensures.told in
    let behind : c.steps-in-loop-place.result ≡ count_steps n.number (take c.loop-place.place s.kept) =
    c.steps-in-loop-place.ensures ∙ ap (λ (z : BackwardState). count_steps c.node_of-node.result.number (take z.place z.machine.kept)) c.loop-place.invariant.events
    ∙ ap (λ (z : NodeId). count_steps z.number (take c.loop-place.place s.kept)) c.node_of-node.ensures in
    let step : c.walk_back_to.new.self.step ≡ c.steps-in-loop-place.result = ap (λ (z : NodeAtStep). z.step) c.walk_back_to.ensures in
    let more : condition_transfer_count u (earlier_state s (m + 1)) ≡ condition_transfer_count u (earlier_state s m) + condition_transfers_added u c.in-Some.made = counted_back u s m c.in-Some.made some told in
    let here : condition_transfer_count u (earlier_state s (m + 1)) ≡ c.loop-place.words = ap (λ (z : ℕ). condition_transfer_count u (earlier_state s z)) e ∙ c.loop-place.invariant.words in
    let held : holds_at_considered_event u c.args.only s m ≡ c.holds_at_considered_event.result = sym (c.holds_at_considered_event.ensures ∙ ap (λ (z : BackwardState). holds_at_considered_event u c.args.only z.machine z.place) et) in
    let few = fewer_before s n.number m c.in-Some.made some told in
    let same_steps : count_steps n.number (take (m + 1) s.kept) ≡ count_steps n.number (take c.loop-place.place s.kept) = ap (λ (z : ℕ). count_steps n.number (take z s.kept)) e in
    record {
      within = omega (arith, c.loop-place.invariant.within);
      events = et;
      machine = ap (λ (z : NodeAtStep). z.machine) c.walk_back_to.ensures ∙ c.loop-place.invariant.machine;
      node = ap (λ (z : NodeAtStep). z.node) c.walk_back_to.ensures ∙ c.loop-place.invariant.node;
      steps = omega (arith, behind, step, few, same_steps);
      words = omega (arith, more, here, c.count_back-words.ensures);
      same = below u c.args.only s c.args.least c.loop-place.place m (newest_held_prefix_length u c.args.only s (length s.kept)) e (held ∙ c.if-holds_at_considered_event.false) c.loop-place.invariant.same;
    }

pub holds_at_considered_event-requires-clause-replays : goal.holds_at_considered_event-requires-clause-replays
holds_at_considered_event-requires-clause-replays c =
    let s : MachineState = c.args.lab.now in
    let m : ℕ = c.loop-place.place - 1 in
    let et : c.back.new.self ≡ backward_state s m = back_before s c.loop-place.place _ _ c.loop-place.invariant.events c.in-Some.ensures.left in
    let some : IsSome (replay s.load s.kept) = ap is_some c.chip.ensures.replays in
    subst (λ (z : BackwardState). IsSome (replay z.machine.load z.machine.kept)) (sym et) some

pub holds_at_considered_event-requires-clause-told : goal.holds_at_considered_event-requires-clause-told
holds_at_considered_event-requires-clause-told c =
    let s : MachineState = c.args.lab.now in
    let m : ℕ = c.loop-place.place - 1 in
    let et : c.back.new.self ≡ backward_state s m = back_before s c.loop-place.place _ _ c.loop-place.invariant.events c.in-Some.ensures.left in
    let told : made_event_at_place (machine_events_with_outcomes s) m ≡ Some c.in-Some.made =
    told_before s c.loop-place.place c.in-Some.made _ (omega (arith, c.loop-place-test.true)) c.loop-place.invariant.events c.in-Some.ensures.told in
    subst (λ (z : BackwardState). made_event_at_place (machine_events_with_outcomes z.machine) z.place ≡ Some c.in-Some.made) (sym et) told

pub holds_at_considered_event-requires-clause-stands : goal.holds_at_considered_event-requires-clause-stands
holds_at_considered_event-requires-clause-stands c =
    let s : MachineState = c.args.lab.now in
    let n : NodeId = condition_node_or_zero c.args.until.now in
    let m : ℕ = c.loop-place.place - 1 in
    let e : m + 1 ≡ c.loop-place.place = omega (arith, c.loop-place-test.true) in
    let et : c.back.new.self ≡ backward_state s m = back_before s c.loop-place.place _ _ c.loop-place.invariant.events c.in-Some.ensures.left in
    let behind : c.steps-in-loop-place.result ≡ count_steps n.number (take c.loop-place.place s.kept) =
    c.steps-in-loop-place.ensures ∙ ap (λ (z : BackwardState). count_steps c.node_of-node.result.number (take z.place z.machine.kept)) c.loop-place.invariant.events
    ∙ ap (λ (z : NodeId). count_steps z.number (take c.loop-place.place s.kept)) c.node_of-node.ensures in
    let step : c.walk_back_to.new.self.step ≡ c.steps-in-loop-place.result = ap (λ (z : NodeAtStep). z.step) c.walk_back_to.ensures in
    stands_now c.walk_back_to.new.self c.back.new.self s n c.steps-in-loop-place.result c.loop-place.place m
    (ap (λ (z : NodeAtStep). z.machine) c.walk_back_to.ensures ∙ c.loop-place.invariant.machine) (ap (λ (z : NodeAtStep). z.node) c.walk_back_to.ensures ∙ c.loop-place.invariant.node)
    step behind et e

pub holds_at_considered_event-requires-clause-counted : goal.holds_at_considered_event-requires-clause-counted
holds_at_considered_event-requires-clause-counted c =
    let s : MachineState = c.args.lab.now in
    let u = c.args.until.now in
    let m : ℕ = c.loop-place.place - 1 in
    let e : m + 1 ≡ c.loop-place.place = omega (arith, c.loop-place-test.true) in
    let et : c.back.new.self ≡ backward_state s m = back_before s c.loop-place.place _ _ c.loop-place.invariant.events c.in-Some.ensures.left in
    subst (λ (z : BackwardState). condition_transfer_count u (earlier_state z.machine (z.place + 1)) ≡ c.loop-place.words) (sym et) (ap (λ (z : ℕ). condition_transfer_count u (earlier_state s z)) e ∙ c.loop-place.invariant.words)

pub walk_back_to-requires : goal.walk_back_to-requires
walk_back_to-requires c =
    let s : MachineState = c.args.lab.now in
    let n : NodeId = condition_node_or_zero c.args.until.now in
    let behind : c.steps-in-loop-place.result ≡ count_steps n.number (take c.loop-place.place s.kept) =
    c.steps-in-loop-place.ensures ∙ ap (λ (z : BackwardState). count_steps c.node_of-node.result.number (take z.place z.machine.kept)) c.loop-place.invariant.events
    ∙ ap (λ (z : NodeId). count_steps z.number (take c.loop-place.place s.kept)) c.node_of-node.ensures in
    omega (arith, behind, c.loop-place.invariant.steps)

pub count_back-words-requires : goal.count_back-words-requires
count_back-words-requires c =
    let s : MachineState = c.args.lab.now in
    let u = c.args.until.now in
    let m : ℕ = c.loop-place.place - 1 in
    let e : m + 1 ≡ c.loop-place.place = omega (arith, c.loop-place-test.true) in
    let some : IsSome (replay s.load s.kept) = ap is_some c.chip.ensures.replays in
    let told : made_event_at_place (machine_events_with_outcomes s) m ≡ Some c.in-Some.made =
    told_before s c.loop-place.place c.in-Some.made _ (omega (arith, c.loop-place-test.true)) c.loop-place.invariant.events c.in-Some.ensures.told in
    let more : condition_transfer_count u (earlier_state s (m + 1)) ≡ condition_transfer_count u (earlier_state s m) + condition_transfers_added u c.in-Some.made = counted_back u s m c.in-Some.made some told in
    let here : condition_transfer_count u (earlier_state s (m + 1)) ≡ c.loop-place.words = ap (λ (z : ℕ). condition_transfer_count u (earlier_state s z)) e ∙ c.loop-place.invariant.words in
    omega (arith, more, here)

pub returns-then-holds_at_considered_event-clause-value : goal.returns-then-holds_at_considered_event-clause-value
returns-then-holds_at_considered_event-clause-value c =
    let s : MachineState = c.args.lab.now in
    let u = c.args.until.now in
    let m : ℕ = c.loop-place.place - 1 in
    let e : m + 1 ≡ c.loop-place.place = omega (arith, c.loop-place-test.true) in
    let et : c.back.new.self ≡ backward_state s m = back_before s c.loop-place.place _ _ c.loop-place.invariant.events c.in-Some.ensures.left in
    let held : holds_at_considered_event u c.args.only s m ≡ c.holds_at_considered_event.result = sym (c.holds_at_considered_event.ensures ∙ ap (λ (z : BackwardState). holds_at_considered_event u c.args.only z.machine z.place) et) in
    found u c.args.only s c.args.least c.loop-place.place m (newest_held_prefix_length u c.args.only s (length s.kept)) e c.loop-place-test.true (held ∙ c.if-holds_at_considered_event.true) c.loop-place.invariant.same

pub returns-clause-value : goal.returns-clause-value
returns-clause-value c =
    ended c.args.until.now c.args.only c.args.lab.now c.args.least c.loop-place.place (newest_held_prefix_length c.args.until.now c.args.only c.args.lab.now (length c.args.lab.now.kept)) c.loop-place-test.false c.loop-place.invariant.same
