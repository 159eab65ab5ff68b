use Rattle.std.proofs.Common.{◌≡◌, ◌∙◌, ◌+◌, ◌-◌, ap, sym, subst, arith, length, take, ℕ, Some}
use Rattle.std.specs.Prelude.{is_some, IsSome}
use Rattle.ga_grid.specs.declared.node_id.NodeId.{NodeId}
use Rattle.ga_event.specs.Apply.{replay}
use Rattle.ga_event.specs.Told.{count_steps, made_event_at_place}
use Rattle.ga_lab.specs.Machine.{MachineState, NodeAtStep, earlier_state, machine_events_with_outcomes, BackwardState, backward_state}
use Rattle.ga_scheduler.specs.Conditions.{holds_after_made_event}
use Rattle.ga_scheduler.specs.Oldest.{has_held_at, oldest_holding_event}
use Rattle.ga_scheduler.specs.inner.{condition_transfer_count, condition_transfers_added, condition_node_or_zero}
use Rattle.ga_scheduler.proofs.Newest.{whole_earlier, fewer_before, counted_back}
use Rattle.ga_scheduler.proofs.Backing.{back_before, told_before, steps_whole, stands_now}
use Rattle.ga_scheduler.proofs.OldestEvents.{earlier_none, held_at, one_back, none_left_back}
use Rattle.ga_scheduler.proofs.oldest.find_oldest_holding_event.Goals as goal

pub loop-place-init : goal.loop-place-init
loop-place-init c =
    let s : MachineState = c.args.lab.now in
    let n : NodeId = condition_node_or_zero c.args.until.now in
    let e : c.counts-place.result.kept ≡ length s.kept = c.counts-place.ensures.kept in
    let w : c.walk_node_from_step-walk.result.step ≡ c.steps.result = ap (λ (z : NodeAtStep). z.step) c.walk_node_from_step-walk.ensures in
    let all : count_steps n.number (take c.counts-place.result.kept s.kept) ≡ count_steps n.number s.kept = steps_whole s n.number c.counts-place.result.kept e in
    let same : count_steps c.node_of-node.result.number s.kept ≡ count_steps n.number s.kept = ap (λ (z : NodeId). count_steps z.number s.kept) c.node_of-node.ensures in
    record {
      within = omega (arith, e);
      events = c.backward_reader-events.ensures ∙ ap (backward_state s) (sym e);
      machine = ap (λ (z : NodeAtStep). z.machine) c.walk_node_from_step-walk.ensures;
      node = ap (λ (z : NodeAtStep). z.node) c.walk_node_from_step-walk.ensures ∙ c.node_of-node.ensures;
      steps = omega (arith, w, all, same, c.steps.ensures.steps);
      words = ap (λ (z : ℕ). condition_transfer_count c.args.until.now (earlier_state s z)) e ∙ ap (condition_transfer_count c.args.until.now) (whole_earlier s) ∙ sym c.count-words.ensures;
      same = earlier_none (oldest_holding_event c.args.until.now s c.counts-place.result.kept) ∙ ap (oldest_holding_event c.args.until.now s) e;
    }

pub loop-place-preserved : goal.loop-place-preserved
loop-place-preserved c =
    let s : MachineState = c.args.lab.now in
    let u = c.args.until.now in
    let n : NodeId = condition_node_or_zero u in
    let m : ℕ = c.loop-place.place - 1 in
    let e : m + 1 ≡ c.loop-place.place = omega (arith, c.loop-place-test.true) in
    let et : c.back.new.self ≡ backward_state s m = back_before s c.loop-place.place _ _ c.loop-place.invariant.events c.in-Some.ensures.left in
    let some : IsSome (replay s.load s.kept) = ap is_some c.chip.ensures.replays in
    let told : made_event_at_place (machine_events_with_outcomes s) m ≡ Some c.in-Some.made =
    told_before s c.loop-place.place c.in-Some.made _ (omega (arith, c.loop-place-test.true)) c.loop-place.invariant.events c.in-Some.ensures.told in
    let behind : c.steps-in-loop-place.result ≡ count_steps n.number (take c.loop-place.place s.kept) =
    c.steps-in-loop-place.ensures ∙ ap (λ (z : BackwardState). count_steps c.node_of-node.result.number (take z.place z.machine.kept)) c.loop-place.invariant.events
    ∙ ap (λ (z : NodeId). count_steps z.number (take c.loop-place.place s.kept)) c.node_of-node.ensures in
    let step : c.walk_back_to.new.self.step ≡ c.steps-in-loop-place.result = ap (λ (z : NodeAtStep). z.step) c.walk_back_to.ensures in
    let more : condition_transfer_count u (earlier_state s (m + 1)) ≡ condition_transfer_count u (earlier_state s m) + condition_transfers_added u c.in-Some.made = counted_back u s m c.in-Some.made some told in
    let here : condition_transfer_count u (earlier_state s (m + 1)) ≡ c.loop-place.words = ap (λ (z : ℕ). condition_transfer_count u (earlier_state s z)) e ∙ c.loop-place.invariant.words in
    let held : has_held_at u s m ≡ c.held.result =
    held_at u s m c.in-Some.made c.held.result told (c.held.ensures ∙ ap (λ (z : BackwardState). holds_after_made_event u c.in-Some.made (earlier_state z.machine (z.place + 1))) et) in
    let few = fewer_before s n.number m c.in-Some.made some told in
    let same_steps : count_steps n.number (take (m + 1) s.kept) ≡ count_steps n.number (take c.loop-place.place s.kept) = ap (λ (z : ℕ). count_steps n.number (take z s.kept)) e in
    record {
      within = omega (arith, c.loop-place.invariant.within);
      events = et;
      machine = ap (λ (z : NodeAtStep). z.machine) c.walk_back_to.ensures ∙ c.loop-place.invariant.machine;
      node = ap (λ (z : NodeAtStep). z.node) c.walk_back_to.ensures ∙ c.loop-place.invariant.node;
      steps = omega (arith, behind, step, few, same_steps);
      words = omega (arith, more, here, c.count_back-words.ensures);
      same = rw c.earlier_place-oldest.ensures (one_back u s c.loop-place.place m c.held.result c.place_if-here.result c.loop-place.oldest (oldest_holding_event u s (length s.kept)) e held c.place_if-here.ensures c.loop-place.invariant.same);
    }

pub held-requires-clause-replays : goal.held-requires-clause-replays
held-requires-clause-replays c =
    let s : MachineState = c.args.lab.now in
    let m : ℕ = c.loop-place.place - 1 in
    let et : c.back.new.self ≡ backward_state s m = back_before s c.loop-place.place _ _ c.loop-place.invariant.events c.in-Some.ensures.left in
    let some : IsSome (replay s.load s.kept) = ap is_some c.chip.ensures.replays in
    subst (λ (z : BackwardState). IsSome (replay z.machine.load z.machine.kept)) (sym et) some

pub held-requires-clause-told : goal.held-requires-clause-told
held-requires-clause-told c =
    let s : MachineState = c.args.lab.now in
    let m : ℕ = c.loop-place.place - 1 in
    let et : c.back.new.self ≡ backward_state s m = back_before s c.loop-place.place _ _ c.loop-place.invariant.events c.in-Some.ensures.left in
    let told : made_event_at_place (machine_events_with_outcomes s) m ≡ Some c.in-Some.made =
    told_before s c.loop-place.place c.in-Some.made _ (omega (arith, c.loop-place-test.true)) c.loop-place.invariant.events c.in-Some.ensures.told in
    subst (λ (z : BackwardState). made_event_at_place (machine_events_with_outcomes z.machine) z.place ≡ Some c.in-Some.made) (sym et) told

pub held-requires-clause-stands : goal.held-requires-clause-stands
held-requires-clause-stands c =
    let s : MachineState = c.args.lab.now in
    let n : NodeId = condition_node_or_zero c.args.until.now in
    let m : ℕ = c.loop-place.place - 1 in
    let e : m + 1 ≡ c.loop-place.place = omega (arith, c.loop-place-test.true) in
    let et : c.back.new.self ≡ backward_state s m = back_before s c.loop-place.place _ _ c.loop-place.invariant.events c.in-Some.ensures.left in
    let behind : c.steps-in-loop-place.result ≡ count_steps n.number (take c.loop-place.place s.kept) =
    c.steps-in-loop-place.ensures ∙ ap (λ (z : BackwardState). count_steps c.node_of-node.result.number (take z.place z.machine.kept)) c.loop-place.invariant.events
    ∙ ap (λ (z : NodeId). count_steps z.number (take c.loop-place.place s.kept)) c.node_of-node.ensures in
    let step : c.walk_back_to.new.self.step ≡ c.steps-in-loop-place.result = ap (λ (z : NodeAtStep). z.step) c.walk_back_to.ensures in
    stands_now c.walk_back_to.new.self c.back.new.self s n c.steps-in-loop-place.result c.loop-place.place m
    (ap (λ (z : NodeAtStep). z.machine) c.walk_back_to.ensures ∙ c.loop-place.invariant.machine) (ap (λ (z : NodeAtStep). z.node) c.walk_back_to.ensures ∙ c.loop-place.invariant.node)
    step behind et e

pub held-requires-clause-counted : goal.held-requires-clause-counted
held-requires-clause-counted c =
    let s : MachineState = c.args.lab.now in
    let u = c.args.until.now in
    let m : ℕ = c.loop-place.place - 1 in
    let e : m + 1 ≡ c.loop-place.place = omega (arith, c.loop-place-test.true) in
    let et : c.back.new.self ≡ backward_state s m = back_before s c.loop-place.place _ _ c.loop-place.invariant.events c.in-Some.ensures.left in
    subst (λ (z : BackwardState). condition_transfer_count u (earlier_state z.machine (z.place + 1)) ≡ c.loop-place.words) (sym et) (ap (λ (z : ℕ). condition_transfer_count u (earlier_state s z)) e ∙ c.loop-place.invariant.words)

pub walk_back_to-requires : goal.walk_back_to-requires
walk_back_to-requires c =
    let s : MachineState = c.args.lab.now in
    let n : NodeId = condition_node_or_zero c.args.until.now in
    let behind : c.steps-in-loop-place.result ≡ count_steps n.number (take c.loop-place.place s.kept) =
    c.steps-in-loop-place.ensures ∙ ap (λ (z : BackwardState). count_steps c.node_of-node.result.number (take z.place z.machine.kept)) c.loop-place.invariant.events
    ∙ ap (λ (z : NodeId). count_steps z.number (take c.loop-place.place s.kept)) c.node_of-node.ensures in
    omega (arith, behind, c.loop-place.invariant.steps)

pub count_back-words-requires : goal.count_back-words-requires
count_back-words-requires c =
    let s : MachineState = c.args.lab.now in
    let u = c.args.until.now in
    let m : ℕ = c.loop-place.place - 1 in
    let e : m + 1 ≡ c.loop-place.place = omega (arith, c.loop-place-test.true) in
    let some : IsSome (replay s.load s.kept) = ap is_some c.chip.ensures.replays in
    let told : made_event_at_place (machine_events_with_outcomes s) m ≡ Some c.in-Some.made =
    told_before s c.loop-place.place c.in-Some.made _ (omega (arith, c.loop-place-test.true)) c.loop-place.invariant.events c.in-Some.ensures.told in
    let more : condition_transfer_count u (earlier_state s (m + 1)) ≡ condition_transfer_count u (earlier_state s m) + condition_transfers_added u c.in-Some.made = counted_back u s m c.in-Some.made some told in
    let here : condition_transfer_count u (earlier_state s (m + 1)) ≡ c.loop-place.words = ap (λ (z : ℕ). condition_transfer_count u (earlier_state s z)) e ∙ c.loop-place.invariant.words in
    omega (arith, more, here)

pub returns : goal.returns
returns c =
    none_left_back c.args.until.now c.args.lab.now c.loop-place.place c.loop-place.oldest (oldest_holding_event c.args.until.now c.args.lab.now (length c.args.lab.now.kept)) c.loop-place-test.false c.loop-place.invariant.same
