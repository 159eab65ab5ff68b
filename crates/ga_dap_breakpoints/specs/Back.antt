-- What the requests leave that go back (Debug Adapter Protocol, "StepBackRequest", "ReverseContinueRequest"; Danos and Krivine 2004 for what is taken back).
use Rattle.std.specs.Prelude.{ℕ, ◌+◌, ◌-◌, ◌==◌, nat_lt, Bool, true, false, ◌&&◌, if◌then◌else◌, Option, Some, None}
use Rattle.std.specs.List.{slice_get}
use Rattle.ga_node.specs.declared.kind.OwnEventKind.{OwnEventKind}
use Rattle.ga_node.specs.declared.kind.OwnEventKind.TheVariants as kind
use Rattle.ga_grid.specs.declared.node_id.NodeId.{NodeId}
use Rattle.ga_event.specs.declared.made.MadeEvent.{MadeEvent}
use Rattle.ga_event.specs.declared.made.MadeEvent.TheVariants as made
use Rattle.ga_event.specs.Told.{count_steps}
use Rattle.ga_lab.specs.Machine.{MachineState, history_of_node, state_after_rewind}
use Rattle.ga_dap_views.specs.declared.spots.SlotAddress.{SlotAddress}
use Rattle.ga_dap_views.specs.Spots.{slot_address_after_steps}

-- The machine in which a node keeps `n` of its steps: the next one is rolled back with all its dependents, and nothing else.
abbrev pub state_rolled_back_past_steps : MachineState → NodeId → ℕ → MachineState
state_rolled_back_past_steps s node keeps = if nat_lt keeps (count_steps node.number s.kept) then state_after_rewind s node.number (keeps + 1) else s

-- `stepBack` by an instruction: the node's last step
abbrev pub state_after_step_back : MachineState → NodeId → MachineState
state_after_step_back s node = state_rolled_back_past_steps s node (count_steps node.number s.kept - 1)

-- ---- what is watched of a node: that it comes to a slot, or writes a cell of RAM, of which each has two addresses. Each is something that a step does, and no state that lasts.

-- A step by which a node can arrive at a slot: not a wait or a stop, which leave it at its slot, and not the fetch of the
-- slot's own word, since it arrived before that fetch. The first step is an exception: no step brought a node to its slot at
-- load.
abbrev pub is_arrival_event_kind : ℕ → OwnEventKind → Bool
is_arrival_event_kind step (kind.Run code) = true
is_arrival_event_kind step kind.Fetch = step == 1
is_arrival_event_kind step _ = false

abbrev pub can_event_reach_slot : Option MadeEvent → Bool
can_event_reach_slot (Some (made.Own node step kind)) = is_arrival_event_kind step kind
can_event_reach_slot (Some (made.Pass writer i reader j word)) = true
can_event_reach_slot None = false

abbrev pub is_at_slot_address : SlotAddress → Option SlotAddress → Bool
is_at_slot_address at None = false
is_at_slot_address at (Some found) = found.cell == at.cell && found.slot == at.slot

-- the step after the node's first `n` steps arrives at the slot
abbrev pub reaches_slot : MachineState → NodeId → SlotAddress → ℕ → Bool
reaches_slot s node at k = can_event_reach_slot (slice_get (history_of_node s node.number) k) && is_at_slot_address at (slot_address_after_steps s node (k + 1))
