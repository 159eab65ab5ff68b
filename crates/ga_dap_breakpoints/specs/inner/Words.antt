-- The cell from which a node's instruction word came (Fetched.antt of ga_provenance), followed from step to step (F18A Technology Reference DB001, instruction
-- fetch and ports), and where a line begins by it.
use Rattle.std.specs.Prelude.{ℕ, ◌+◌, ◌-◌, ◌==◌, nat_lt, Bool, true, false, ◌&&◌, not, if◌then◌else◌, is_none, Option, Some, None}
use Rattle.std.specs.List.{slice_get}
use Rattle.ga_node.specs.Record.{NodeRecord}
use Rattle.ga_node.specs.declared.kind.OwnEventKind.{OwnEventKind}
use Rattle.ga_node.specs.declared.kind.OwnEventKind.TheVariants as kind
use Rattle.ga_node.specs.declared.wait.Wait.{Wait}
use Rattle.ga_node.specs.declared.wait.Wait.TheVariants as wait
use Rattle.ga_grid.specs.declared.node_id.NodeId.{NodeId}
use Rattle.ga_event.specs.declared.made.MadeEvent.{MadeEvent}
use Rattle.ga_event.specs.declared.made.MadeEvent.TheVariants as made
use Rattle.ga_event.specs.Told.{count_steps}
use Rattle.ga_lab.specs.Machine.{MachineState, history_of_node}
use Rattle.ga_debug_info.specs.declared.notes.DebugInfo.{DebugInfo}
use Rattle.ga_provenance.specs.Origins.{node_after_steps}
use Rattle.ga_provenance.specs.Fetched.{fetched_cell}
use Rattle.ga_scheduler.specs.Conditions.{is_step_of_node}
use Rattle.ga_dap_views.specs.declared.spots.SlotAddress.{SlotAddress}
use Rattle.ga_dap_views.specs.Spots.{slot_address_of_node_record, slot_address_after_steps}
use Rattle.ga_dap_breakpoints.specs.declared.stepping.Granularity.{Granularity}
use Rattle.ga_dap_breakpoints.specs.declared.stepping.Granularity.TheVariants.{Instruction, Line}
use Rattle.ga_dap_breakpoints.specs.declared.stepping.StepMove.{StepMove}
use Rattle.ga_dap_breakpoints.specs.Lines.{op_of_step, previous_step_count_over_calls, line_of_slot_address, enters_line}
use Rattle.ga_dap_breakpoints.specs.Stepping.{pending_call_after_step}

-- ---- a step that leaves the word: no fetch of the node's own, and no word that it takes as its code

abbrev pub event_kind_keeps_instruction_word : OwnEventKind → Bool
event_kind_keeps_instruction_word kind.Fetch = false
event_kind_keeps_instruction_word (kind.Run code) = nat_lt code 32
event_kind_keeps_instruction_word kind.Wait = true
event_kind_keeps_instruction_word (kind.Stop code) = true

abbrev pub is_wait_for_code : Wait → Bool
is_wait_for_code (wait.Fetch sides) = true
is_wait_for_code (wait.Read sides) = false
is_wait_for_code (wait.Write side) = false
is_wait_for_code wait.Nothing = false

abbrev pub event_keeps_instruction_word : Option MadeEvent → NodeRecord → ℕ → Bool
event_keeps_instruction_word None before n = false
event_keeps_instruction_word (Some (made.Own node step kind)) before n = event_kind_keeps_instruction_word kind
event_keeps_instruction_word (Some (made.Pass writer i reader j word)) before n = if n == reader.number then not (is_wait_for_code before.wait) else true

-- ---- the cell of the word after the step with this number, if the word before it came from this cell

abbrev pub instruction_cell_after_step : MachineState → NodeId → ℕ → Option ℕ → Option ℕ
instruction_cell_after_step s node k word =
    if event_keeps_instruction_word (slice_get (history_of_node s node.number) k) (node_after_steps s node.number k) node.number then word else fetched_cell s node (k + 1)

-- the cell of a node's word after this event, on the machine that it left
abbrev pub instruction_cell_after_event : NodeId → Option ℕ → MadeEvent → MachineState → Option ℕ
instruction_cell_after_event node word told s = if is_step_of_node node.number told then instruction_cell_after_step s node (count_steps node.number s.kept - 1) word else word

-- ---- where a line begins, by the cells of the words before and after the step

abbrev pub previous_slot_address_over_calls : ℕ → MachineState → NodeId → ℕ → Option ℕ → Option SlotAddress
previous_slot_address_over_calls began s node k word =
    if previous_step_count_over_calls began s node k == k then slot_address_of_node_record (node_after_steps s node.number k) word else slot_address_after_steps s node (previous_step_count_over_calls began s node k)

abbrev pub begins_line_by_cells : ℕ → DebugInfo → MachineState → NodeId → ℕ → Option ℕ → Option ℕ → Bool
begins_line_by_cells began notes s node k before behind =
    enters_line notes node (previous_slot_address_over_calls began s node k before) (slot_address_of_node_record (node_after_steps s node.number (k + 1)) behind) (op_of_step s node k)
    (line_of_slot_address notes node (slot_address_of_node_record (node_after_steps s node.number (k + 1)) behind))

abbrev pub reaches_move_end_by_cell : Granularity → ℕ → DebugInfo → NodeId → MachineState → ℕ → Option ℕ → Option ℕ → Bool
reaches_move_end_by_cell Instruction began notes node s k before behind = true
reaches_move_end_by_cell Line began notes node s k before behind = begins_line_by_cells began notes s node k before behind

abbrev pub completes_move_by_cell : DebugInfo → StepMove → Option ℕ → MadeEvent → MachineState → Bool
completes_move_by_cell notes by word told s =
    is_step_of_node by.node.number told
    && (is_none (pending_call_after_step s by.node by.over by.call)
    && reaches_move_end_by_cell by.grain by.began notes by.node s (count_steps by.node.number s.kept - 1) word (instruction_cell_after_event by.node word told s))
