-- Which step made the value in a part of a node: the newest that didn't just move it from part to part (F18A Technology
-- Reference DB001, opcodes; Flow.antt of ga_event has for each where its values come from).
use Rattle.std.specs.Prelude.{◌≡◌, ℕ, zero, suc, ◌==◌, Bool, true, false, not, ◌||◌, if◌then◌else◌, List, [], ◌∷◌, Option, Some, None, option_map, unwrap_or}
use Rattle.std.specs.List.{slice_get}
use Rattle.ga_node.specs.Record.{NodeRecord}
use Rattle.ga_node.specs.declared.kind.OwnEventKind.{OwnEventKind}
use Rattle.ga_node.specs.declared.kind.OwnEventKind.TheVariants as kind
use Rattle.ga_grid.specs.declared.node_id.NodeId.{NodeId}
use Rattle.ga_grid.specs.Chip.{node_record_at}
use Rattle.ga_event.specs.declared.event.Event.{Event}
use Rattle.ga_event.specs.declared.made.MadeEvent.{MadeEvent}
use Rattle.ga_event.specs.declared.made.MadeEvent.TheVariants as made
use Rattle.ga_event.specs.Touches.{touches}
use Rattle.ga_lab.specs.Machine.{MachineState, chip_of_machine, earlier_state, history_of_node}
use Rattle.ga_event.specs.declared.flow.part.NodePart.{NodePart}
use Rattle.ga_event.specs.declared.flow.part.NodePart.TheVariants as part
use Rattle.ga_event.specs.Flow.{ValueFlow, CopiedFromPart, From, IsNodePartInRange, top_data_part, flow_of_own_event, flow_after_send, flow_after_take}
use Rattle.ga_provenance.specs.declared.value.PartValue.{PartValue}

-- the number of first events that contain k steps of a node, and the node after these
abbrev pub event_count_through_steps : List Event → ℕ → ℕ → ℕ
event_count_through_steps [] n k = 0
event_count_through_steps (e ∷ es) n zero = 0
event_count_through_steps (e ∷ es) n (suc k) = suc (event_count_through_steps es n (if touches e n then k else suc k))

abbrev pub node_after_steps : MachineState → ℕ → ℕ → NodeRecord
node_after_steps s n k = node_record_at (chip_of_machine (earlier_state s (event_count_through_steps s.kept n k))) n

-- the source of the value that an event, as made, leaves in a part of a node, by the node before
abbrev pub part_flow_by_event : MadeEvent → NodeRecord → ℕ → NodePart → ValueFlow
part_flow_by_event (made.Own node step kind) before n at = flow_of_own_event before at
part_flow_by_event (made.Pass writer i reader j word) before n at = if n == reader.number then flow_after_take before.wait at else flow_after_send at

abbrev pub optional_event_part_flow : Option MadeEvent → NodeRecord → ℕ → NodePart → ValueFlow
optional_event_part_flow None before n at = CopiedFromPart at
optional_event_part_flow (Some told) before n at = part_flow_by_event told before n at

-- the source of the value that the step after k steps of a node leaves in a part; past its steps each value stays
abbrev pub value_flow_at_step : MachineState → ℕ → ℕ → NodePart → ValueFlow
value_flow_at_step s n k at = optional_event_part_flow (slice_get (history_of_node s n) k) (node_after_steps s n k) n at

-- whether a part is a cell of memory; and whether a value that moves from a part to another is read from memory or stored there
abbrev pub is_memory_part : NodePart → Bool
is_memory_part (part.Ram k) = true
is_memory_part (part.Rom k) = true
is_memory_part _ = false

abbrev pub moves_into_or_out_of_memory : NodePart → NodePart → Bool
moves_into_or_out_of_memory from to = if is_memory_part from then not (is_memory_part to) else is_memory_part to

-- the part from which a value was moved to this one by a step that is passed over: it stays the value that it was, and neither comes
-- from outside nor was read from memory or stored there
abbrev pub moved_source_part : ValueFlow → NodePart → Option NodePart
moved_source_part (CopiedFromPart part.OutsideWord) to = None
moved_source_part (CopiedFromPart from) to = if moves_into_or_out_of_memory from to then None else Some from
moved_source_part (From parts) to = None

-- `+*` makes T and A of the same three parts, and an extended `+` T and the carry: either is listed as T.
abbrev pub is_three_part_flow : ValueFlow → Bool
is_three_part_flow (From (first ∷ (second ∷ (third ∷ [])))) = true
is_three_part_flow _ = false

abbrev pub part_to_list_for_value_flow : ValueFlow → NodePart → NodePart
part_to_list_for_value_flow flow part.A = if is_three_part_flow flow then top_data_part else part.A
part_to_list_for_value_flow flow part.Carry = if is_three_part_flow flow then top_data_part else part.Carry
part_to_list_for_value_flow flow at = at

-- whether a step, as made, may have made T with A or the carry: `+*`, and `+`
abbrev pub makes_t_with_a_or_carry : OwnEventKind → Bool
makes_t_with_a_or_carry (kind.Run code) = code == 16 || code == 20
makes_t_with_a_or_carry _ = false

abbrev pub is_made_with_a_or_carry : Option MadeEvent → Bool
is_made_with_a_or_carry None = false
is_made_with_a_or_carry (Some (made.Own node step kind)) = makes_t_with_a_or_carry kind
is_made_with_a_or_carry (Some (made.Pass writer i reader j word)) = false

-- the value that a step made, or one at load
abbrev pub value_made_by_step : NodeId → ℕ → NodePart → PartValue
value_made_by_step node step at = record { node = node; step = step; part = at }

abbrev pub moved_source_part_at : MachineState → ℕ → ℕ → NodePart → Option NodePart
moved_source_part_at s n k at = moved_source_part (value_flow_at_step s n k at) at

-- the origin of the value in a part after a number of steps of the node
abbrev pub origin_after_steps : MachineState → NodeId → ℕ → NodePart → PartValue
origin_after_steps s node zero at = value_made_by_step node 0 at
origin_after_steps s node (suc k) at =
    unwrap_or (option_map (origin_after_steps s node k) (moved_source_part_at s node.number k at))
    (value_made_by_step node (suc k) (part_to_list_for_value_flow (value_flow_at_step s node.number k at) at))

abbrev pub origin_of_value : MachineState → PartValue → PartValue
origin_of_value s value = origin_after_steps s value.node value.step value.part

-- a value was only moved between the step that made it and its use
abbrev pub IsMovedValue : MachineState → PartValue → PartValue → Type 0
IsMovedValue s value used = (origin_of_value s used ≡ value) × IsNodePartInRange used.part
