-- The open calls of a node, from which it has not returned (F18A Technology Reference DB001, return stack and opcodes;
-- Flow.antt of ga_event has for each step where the words come from that it leaves).
use Rattle.std.specs.Prelude.{ℕ, zero, suc, ◌-◌, ◌%◌, ◌==◌, Bool, true, false, ◌&&◌, if◌then◌else◌, List, map, filter, Option, Some, None, option_map, unwrap_or}
use Rattle.std.specs.List.{range_with_len, slice_get}
use Rattle.ga_slots.specs.declared.op.Op.{Op}
use Rattle.ga_slots.specs.declared.op.Op.TheVariants.{Call}
use Rattle.ga_slots.specs.Codes.{opcode_of_code}
use Rattle.ga_node.specs.declared.kind.OwnEventKind.TheVariants as kind
use Rattle.ga_grid.specs.declared.node_id.NodeId.{NodeId}
use Rattle.ga_event.specs.declared.made.MadeEvent.{MadeEvent}
use Rattle.ga_event.specs.declared.made.MadeEvent.TheVariants as made
use Rattle.ga_event.specs.Told.{count_steps}
use Rattle.ga_lab.specs.Machine.{MachineState, history_of_node}
use Rattle.ga_event.specs.declared.flow.part.NodePart.TheVariants as part
use Rattle.ga_event.specs.Flow.{ValueFlow, CopiedFromPart}
use Rattle.ga_provenance.specs.Origins.{value_flow_at_step}
use Rattle.ga_dap_views.specs.declared.calls.OpenCall.{OpenCall}
use Rattle.ga_dap_views.specs.Spots.{slot_address_after_steps}

-- The place of an entry on the return stack before a step, by its place after the step. The words are in a ring: a pop leaves a
-- copy of the second word in the last place, which is no entry. A word that was pushed, exchanged or counted down is a new one.
abbrev pub previous_return_entry_index : ValueFlow → ℕ → Option ℕ
previous_return_entry_index (CopiedFromPart (part.Return from)) place = if place == 8 && from == 1 then None else Some from
previous_return_entry_index _ place = None

-- for each place of the return stack, the place that its entry after a node's step k + 1 had before the step
abbrev pub previous_return_entry_indices : MachineState → NodeId → ℕ → List (Option ℕ)
previous_return_entry_indices s node k = map (λ place. previous_return_entry_index (value_flow_at_step s node.number k (part.Return place)) place) (range_with_len 0 9)

-- Which of a node's first steps put the entry that is at a place after them; 0 if it was there at load.
abbrev pub step_pushing_return_entry : MachineState → NodeId → ℕ → ℕ → ℕ
step_pushing_return_entry s node zero place = 0
step_pushing_return_entry s node (suc k) place =
    unwrap_or (option_map (step_pushing_return_entry s node k) (previous_return_entry_index (value_flow_at_step s node.number k (part.Return place)) place)) (suc k)

-- whether a step, as made, is a call
abbrev pub is_call_op : Op → Bool
is_call_op Call = true
is_call_op _ = false

abbrev pub is_call_event : Option MadeEvent → Bool
is_call_event (Some (made.Own node step (kind.Run code))) = is_call_op (opcode_of_code (code % 32))
is_call_event _ = false

abbrev pub is_call_step : MachineState → NodeId → ℕ → Bool
is_call_step s node zero = false
is_call_step s node (suc k) = is_call_event (slice_get (history_of_node s node.number) k)

-- A call is open while the address that it put on the return stack is there: the numbers of such steps, the newest first. The
-- stack has nine places.
abbrev pub open_call_steps : MachineState → NodeId → ℕ → List ℕ
open_call_steps s node step = filter (is_call_step s node) (map (step_pushing_return_entry s node step) (range_with_len 0 9))

-- an open call, with the node's position before its step
abbrev pub open_call : MachineState → NodeId → ℕ → OpenCall
open_call s node step = record { step = step; at = slot_address_after_steps s node (step - 1) }

abbrev pub open_calls : MachineState → NodeId → List OpenCall
open_calls s node = map (open_call s node) (open_call_steps s node (count_steps node.number s.kept))
