-- Where a value was made.
use Rattle.std.proofs.Common.{◌≡◌, ℕ, zero, suc, ◌+◌, ◌-◌, ◌<◌, ◌≤◌, Bool, true, false, cond, List, [], ◌∷◌, length, take, Some, None, refl, sym, subst, ◌∙◌, ap, arith}
use Rattle.std.specs.Prelude.{Option, option_map, unwrap_or}
use Rattle.std.specs.List.{slice_get}
use Rattle.std.proofs.lemmas.List.Sums.{sum_by-cons}
use Rattle.ga_grid.specs.declared.node_id.NodeId.{NodeId}
use Rattle.ga_node.specs.Record.{NodeRecord}
use Rattle.ga_event.specs.declared.event.Event.{Event}
use Rattle.ga_event.specs.declared.made.MadeEvent.{MadeEvent}
use Rattle.ga_event.specs.Touches.{touches}
use Rattle.ga_event.specs.Told.{count_steps}
use Rattle.ga_grid.specs.Chip.{node_record_at}
use Rattle.ga_lab.specs.Machine.{MachineState, NodeAtStep, node_at_step, chip_of_machine, earlier_state, history_of_node}
use Rattle.ga_event.specs.declared.flow.part.NodePart.{NodePart}
use Rattle.ga_event.specs.declared.flow.part.NodePart.TheVariants.{Data, Return, Ram, Rom, A, B, P, I, Io, Carry, Slot, Wait, Stop, OutsideWord}
use Rattle.ga_event.specs.Flow.{ValueFlow, CopiedFromPart, IsNodePartInRange, IsPartInRangeOrOutsideWord}
use Rattle.ga_provenance.specs.declared.value.PartValue.{PartValue}
use Rattle.ga_provenance.specs.Origins.{event_count_through_steps, node_after_steps, part_flow_by_event, optional_event_part_flow, value_flow_at_step, moved_source_part, moved_source_part_at, part_to_list_for_value_flow, value_made_by_step, origin_after_steps, origin_of_value}
use Rattle.std.proofs.lemmas.Option.{none-some}

steps-cons : (n : ℕ) (e : Event) (es : List Event) → count_steps n (e ∷ es) ≡ cond (touches e n) 1 0 + count_steps n es
steps-cons n e es = sum_by-cons (λ (x : Event). cond (touches x n) 1 0) e es

-- the first events that contain k steps of a node contain exactly k
pub place_holds : (events : List Event) (n k : ℕ) → k ≤ count_steps n events → count_steps n (take (event_count_through_steps events n k) events) ≡ k
place_holds [] n k l = omega (arith, l)
place_holds (e ∷ es) n zero l = refl
place_holds (e ∷ es) n (suc k) l = go (touches e n) (place_holds es n) (steps-cons n e)
  where
    go : (b : Bool) → ((j : ℕ) → j ≤ count_steps n es → count_steps n (take (event_count_through_steps es n j) es) ≡ j) → ((xs : List Event) → count_steps n (e ∷ xs) ≡ cond b 1 0 + count_steps n xs)
        → count_steps n (e ∷ take (event_count_through_steps es n (cond b k (suc k))) es) ≡ suc k
    go true holds cons =
        let all = cons es in
        let held = holds k (omega (arith, l, all)) in
        let front = cons (take (event_count_through_steps es n k) es) in omega (arith, held, front)
    go false holds cons =
        let all = cons es in
        let held = holds (suc k) (omega (arith, l, all)) in
        let front = cons (take (event_count_through_steps es n (suc k)) es) in omega (arith, held, front)

-- what is read past the end
pub none_past : (list : List MadeEvent) (i : ℕ) → length list ≤ i → slice_get list i ≡ None
none_past [] zero l = refl
none_past [] (suc i) l = refl
none_past (x ∷ xs) zero l = absurd (omega arith)
none_past (x ∷ xs) (suc i) l = none_past xs i (omega (arith, l))

pub some_within : (list : List MadeEvent) (i : ℕ) → i < length list → None ≡ slice_get list i → ⊥
some_within [] i l h = omega (arith, l)
some_within (x ∷ xs) zero l h = none-some _ h
some_within (x ∷ xs) (suc i) l h = some_within xs i (omega (arith, l)) h

-- a part of a node is a source
pub is_source : (at : NodePart) → IsNodePartInRange at → IsPartInRangeOrOutsideWord at
is_source (Data k) is = is
is_source (Return k) is = is
is_source (Ram k) is = is
is_source (Rom k) is = is
is_source A is = is
is_source B is = is
is_source P is = is
is_source I is = is
is_source Io is = is
is_source Carry is = is
is_source Slot is = is
is_source Wait is = is
is_source Stop is = is
is_source OutsideWord is = absurd is

-- past the steps of a node its parts stay
pub flow_past : (s : MachineState) (n k : ℕ) (at : NodePart) → length (history_of_node s n) ≤ k → CopiedFromPart at ≡ value_flow_at_step s n k at
flow_past s n k at l = sym (ap (λ told. optional_event_part_flow told (node_after_steps s n k) n at) (none_past (history_of_node s n) k l))

-- the flow at a step that exists
pub flow_within : (s : MachineState) (n k : ℕ) (at : NodePart) (told : MadeEvent) (before : NodeRecord) (flow : ValueFlow) → Some told ≡ slice_get (history_of_node s n) k → before ≡ node_after_steps s n k
    → flow ≡ part_flow_by_event told before n at → flow ≡ value_flow_at_step s n k at
flow_within s n k at told before flow is node e =
    e ∙ ap (λ (z : NodeRecord). part_flow_by_event told z n at) node ∙ ap (λ o. optional_event_part_flow o (node_after_steps s n k) n at) is

-- a step that moved the value, and one that made it
pub moved_on : (s : MachineState) (node : NodeId) (k : ℕ) (at from : NodePart) → moved_source_part_at s node.number k at ≡ Some from → origin_after_steps s node (suc k) at ≡ origin_after_steps s node k from
moved_on s node k at from e = ap (λ o. unwrap_or (option_map (origin_after_steps s node k) o) (value_made_by_step node (suc k) (part_to_list_for_value_flow (value_flow_at_step s node.number k at) at))) e

pub made_there : (s : MachineState) (node : NodeId) (k : ℕ) (at : NodePart) → moved_source_part_at s node.number k at ≡ None → origin_after_steps s node (suc k) at ≡ value_made_by_step node (suc k) (part_to_list_for_value_flow (value_flow_at_step s node.number k at) at)
made_there s node k at e = ap (λ o. unwrap_or (option_map (origin_after_steps s node k) o) (value_made_by_step node (suc k) (part_to_list_for_value_flow (value_flow_at_step s node.number k at) at))) e

pub moved_so : (s : MachineState) (n k : ℕ) (at : NodePart) (flow : ValueFlow) (o : Option NodePart) → flow ≡ value_flow_at_step s n k at → o ≡ moved_source_part flow at → moved_source_part_at s n k at ≡ o
moved_so s n k at flow o is e = ap (λ (z : ValueFlow). moved_source_part z at) (sym is) ∙ sym e

-- the walk back continues, and ends at the step or at the load
pub back_on : (s : MachineState) (node : NodeId) (step k : ℕ) (at from : NodePart) (value : PartValue) → suc k ≡ step → Some from ≡ moved_source_part_at s node.number k at
    → origin_after_steps s node step at ≡ value → origin_after_steps s node k from ≡ value
back_on s node step k at from value is moved same = sym (moved_on s node k at from (sym moved)) ∙ ap (λ (z : ℕ). origin_after_steps s node z at) is ∙ same

pub back_end : (s : MachineState) (node : NodeId) (step k : ℕ) (at told : NodePart) (flow : ValueFlow) (value : PartValue) → suc k ≡ step → flow ≡ value_flow_at_step s node.number k at → None ≡ moved_source_part_at s node.number k at
    → told ≡ part_to_list_for_value_flow flow at → origin_after_steps s node step at ≡ value → value_made_by_step node step told ≡ value
back_end s node step k at told flow value is e moved part same =
    ap (λ (z : ℕ). value_made_by_step node z told) (sym is)
    ∙ ap (value_made_by_step node (suc k)) (part ∙ ap (λ (z : ValueFlow). part_to_list_for_value_flow z at) e)
    ∙ sym (made_there s node k at (sym moved))
    ∙ ap (λ (z : ℕ). origin_after_steps s node z at) is ∙ same

pub told_so : (s : MachineState) (node : NodeId) (value told made : PartValue) → value.node ≡ node → told.node ≡ value.node → origin_of_value s told ≡ origin_of_value s value → origin_after_steps s node value.step value.part ≡ made
    → origin_after_steps s node told.step told.part ≡ made
told_so s node value told made is same e there =
    ap (λ (m : NodeId). origin_after_steps s m told.step told.part) (sym (same ∙ is)) ∙ e ∙ ap (λ (m : NodeId). origin_after_steps s m value.step value.part) is ∙ there

-- a node that is walked back to a number of its steps
pub has_step_so : (s : MachineState) (node : NodeId) (step : ℕ) (walk : NodeAtStep) → walk ≡ node_at_step s node step → walk ≡ node_at_step s node walk.step
has_step_so s node step walk e = e ∙ ap (node_at_step s node) (sym (ap (λ (z : NodeAtStep). z.step) e))

-- and one that was not walked on
pub stays_so : (s : MachineState) (node : NodeId) (old new : NodeAtStep) → old ≡ node_at_step s node old.step → new ≡ old → new ≡ node_at_step s node new.step
stays_so s node old new e same = same ∙ e ∙ ap (λ (z : NodeAtStep). node_at_step s node z.step) (sym same)

pub within_so : (s : MachineState) (node : NodeId) (walk : NodeAtStep) (k : ℕ) → walk ≡ node_at_step s node walk.step → k ≤ count_steps walk.node.number walk.machine.kept
    → k ≤ count_steps node.number s.kept
within_so s node walk k e within = subst (λ (z : NodeAtStep). k ≤ count_steps z.node.number z.machine.kept) e within

pub back_so : (s : MachineState) (node : NodeId) (old new : NodeAtStep) → old ≡ node_at_step s node old.step → new ≡ record old { step = old.step - 1 } → new ≡ node_at_step s node (old.step - 1)
back_so s node old new e f = f ∙ ap (λ (z : NodeAtStep). record z { step = old.step - 1 }) e

pub then_of : (s : MachineState) (node : NodeId) (walk : NodeAtStep) (behind : NodeRecord) → walk ≡ node_at_step s node walk.step → walk.step ≤ count_steps walk.node.number walk.machine.kept
    → ((place : ℕ) → count_steps walk.node.number (take place walk.machine.kept) ≡ walk.step → behind ≡ node_record_at (chip_of_machine (earlier_state walk.machine place)) walk.node.number)
    → behind ≡ node_after_steps s node.number walk.step
then_of s node walk behind e within h =
    h (event_count_through_steps walk.machine.kept walk.node.number walk.step) (place_holds walk.machine.kept walk.node.number walk.step within)
    ∙ ap (λ (z : NodeAtStep). node_after_steps z.machine z.node.number walk.step) e

-- the same for a walk at this step
pub stood_of : (s : MachineState) (node : NodeId) (walk : NodeAtStep) (step : ℕ) (behind : NodeRecord) → walk ≡ node_at_step s node step → step ≤ count_steps node.number s.kept
    → ((place : ℕ) → count_steps walk.node.number (take place walk.machine.kept) ≡ walk.step → behind ≡ node_record_at (chip_of_machine (earlier_state walk.machine place)) walk.node.number)
    → behind ≡ node_after_steps s node.number step
stood_of s node walk step behind e within h =
    subst (λ (z : NodeAtStep). (place : ℕ) → count_steps z.node.number (take place z.machine.kept) ≡ z.step → behind ≡ node_record_at (chip_of_machine (earlier_state z.machine place)) z.node.number) e h
    (event_count_through_steps s.kept node.number step) (place_holds s.kept node.number step within)

pub flow_none : (s : MachineState) (n k j : ℕ) (at : NodePart) → None ≡ slice_get (history_of_node s n) j → j ≡ k → CopiedFromPart at ≡ value_flow_at_step s n k at
flow_none s n k j at h e = ap (λ told. optional_event_part_flow told (node_after_steps s n k) n at) (h ∙ ap (slice_get (history_of_node s n)) e)

-- what stays is passed over, and so is all past the steps of a node
stays : (at : NodePart) → IsNodePartInRange at → Some at ≡ moved_source_part (CopiedFromPart at) at
stays (Data k) is = refl
stays (Return k) is = refl
stays (Ram k) is = refl
stays (Rom k) is = refl
stays A is = refl
stays B is = refl
stays P is = refl
stays I is = refl
stays Io is = refl
stays Carry is = refl
stays Slot is = refl
stays Wait is = refl
stays Stop is = refl
stays OutsideWord is = absurd is

origin_past : (s : MachineState) (node : NodeId) (steps : ℕ) (at : NodePart) → IsNodePartInRange at → steps ≡ length (history_of_node s node.number) → (more : ℕ)
    → origin_after_steps s node steps at ≡ origin_after_steps s node (more + steps) at
origin_past s node steps at is e zero = ap (λ (z : ℕ). origin_after_steps s node z at) (let f : steps ≡ 0 + steps = omega arith in f)
origin_past s node steps at is e (suc more) =
    origin_past s node steps at is e more
    ∙ sym (moved_on s node (more + steps) at at (moved_so s node.number (more + steps) at (CopiedFromPart at) (Some at) (flow_past s node.number (more + steps) at (omega (arith, e))) (stays at is)))
    ∙ ap (λ (z : ℕ). origin_after_steps s node z at) (let f : suc (more + steps) ≡ suc more + steps = omega arith in f)

pub origin_last : (s : MachineState) (node : NodeId) (step steps : ℕ) (at : NodePart) → IsNodePartInRange at → steps ≡ length (history_of_node s node.number) → steps ≤ step
    → origin_after_steps s node steps at ≡ origin_after_steps s node step at
origin_last s node step steps at is e l =
    origin_past s node steps at is e (step - steps)
    ∙ ap (λ (z : ℕ). origin_after_steps s node z at) (let f : (step - steps) + steps ≡ step = omega (arith, l) in f)
