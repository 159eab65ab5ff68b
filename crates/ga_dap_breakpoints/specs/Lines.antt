-- A node gone back by lines of its source (Debug Adapter Protocol, "StepBackRequest", "SteppingGranularity": `line`), over calls.
use Rattle.std.specs.Prelude.{ℕ, zero, suc, ◌+◌, ◌-◌, ◌%◌, ◌==◌, nat_lt, Bool, true, false, ◌&&◌, ◌||◌, not, if◌then◌else◌, Option, Some, None, option_and_then}
use Rattle.std.specs.List.{slice_get}
use Rattle.ga_slots.specs.declared.op.Op.{Op}
use Rattle.ga_slots.specs.declared.op.Op.TheVariants.{Return, Execute, Jump, Call, Next, If, MinusIf}
use Rattle.ga_slots.specs.Codes.{opcode_of_code}
use Rattle.ga_node.specs.declared.kind.OwnEventKind.TheVariants as kind
use Rattle.ga_grid.specs.declared.node_id.NodeId.{NodeId}
use Rattle.ga_event.specs.declared.made.MadeEvent.{MadeEvent}
use Rattle.ga_event.specs.declared.made.MadeEvent.TheVariants as made
use Rattle.ga_event.specs.Told.{count_steps}
use Rattle.ga_lab.specs.Machine.{MachineState, history_of_node}
use Rattle.ga_debug_info.specs.declared.notes.DebugInfo.{DebugInfo}
use Rattle.ga_debug_info.specs.declared.wording.SlotWord.{SlotWord}
use Rattle.ga_dap_views.specs.declared.spots.SlotAddress.{SlotAddress}
use Rattle.ga_dap_views.specs.Calls.{step_pushing_return_entry, is_call_step}
use Rattle.ga_dap_views.specs.Labels.{source_line_of_slot, first_code_word_of_line}
use Rattle.ga_dap_breakpoints.specs.Back.{state_rolled_back_past_steps}
use Rattle.ga_dap_views.specs.Spots.{slot_address_after_steps}

-- ---- places of a node: after `n` of its steps

-- the opcode that the step with this number executed, by its event
abbrev pub executed_op : Option MadeEvent → Option Op
executed_op (Some (made.Own node step (kind.Run code))) = Some (opcode_of_code (code % 32))
executed_op _ = None

abbrev pub is_return_op : Option Op → Bool
is_return_op (Some Return) = true
is_return_op _ = false

-- A jump. (`unext` stays in its cell.)
abbrev pub is_jump_op : Option Op → Bool
is_jump_op (Some Return) = true
is_jump_op (Some Execute) = true
is_jump_op (Some Jump) = true
is_jump_op (Some Call) = true
is_jump_op (Some Next) = true
is_jump_op (Some If) = true
is_jump_op (Some MinusIf) = true
is_jump_op _ = false

abbrev pub op_of_step : MachineState → NodeId → ℕ → Option Op
op_of_step s node k = executed_op (slice_get (history_of_node s node.number) k)

-- Of two places, the second one step after the first, the first; if that step returned from a call that the node made after its
-- first `n` steps, the place before the call, so that the call is stepped over.
abbrev pub step_count_before_step_or_call : ℕ → MachineState → NodeId → ℕ → ℕ → ℕ
step_count_before_step_or_call began s node k call = if nat_lt began call && is_call_step s node call then call - 1 else k

abbrev pub previous_step_count_over_calls : ℕ → MachineState → NodeId → ℕ → ℕ
previous_step_count_over_calls began s node k = if is_return_op (op_of_step s node k) then step_count_before_step_or_call began s node k (step_pushing_return_entry s node k 0) else k

-- ---- where a line begins

abbrev pub line_of_slot_address : DebugInfo → NodeId → Option SlotAddress → Option ℕ
line_of_slot_address notes node spot = option_and_then (source_line_of_slot notes node) spot

-- a slot is the first of a line
abbrev pub is_first_slot_of_optional_word : SlotAddress → Option SlotWord → Bool
is_first_slot_of_optional_word spot None = false
is_first_slot_of_optional_word spot (Some word) = word.cell == spot.cell && word.first == spot.slot

abbrev pub slot_starts_line : DebugInfo → NodeId → ℕ → SlotAddress → Bool
slot_starts_line notes node line spot = is_first_slot_of_optional_word spot (first_code_word_of_line notes node line)

abbrev pub optional_slot_starts_line : DebugInfo → NodeId → ℕ → Option SlotAddress → Bool
optional_slot_starts_line notes node line None = false
optional_slot_starts_line notes node line (Some spot) = slot_starts_line notes node line spot

abbrev pub is_other_line : ℕ → Option ℕ → Bool
is_other_line line None = true
is_other_line line (Some other) = not (other == line)

-- the node came to the line from another, or by a jump to its first slot
abbrev pub enters_line : DebugInfo → NodeId → Option SlotAddress → Option SlotAddress → Option Op → Option ℕ → Bool
enters_line notes node before spot op None = false
enters_line notes node before spot op (Some line) = is_other_line line (line_of_slot_address notes node before) || is_jump_op op && optional_slot_starts_line notes node line spot

-- a line begins after the step with this number; calls that the node made after its first `n` steps are stepped over
abbrev pub begins_line_after_step : ℕ → DebugInfo → MachineState → NodeId → ℕ → Bool
begins_line_after_step began notes s node k =
    enters_line notes node (slot_address_after_steps s node (previous_step_count_over_calls began s node k)) (slot_address_after_steps s node (k + 1)) (op_of_step s node k) (line_of_slot_address notes node (slot_address_after_steps s node (k + 1)))

-- the nearest beginning of a line at a place or before it, among at most `n` places; the load is one
unfoldable pub nearest_line_start : DebugInfo → MachineState → NodeId → ℕ → ℕ → ℕ
nearest_line_start notes s node zero left = 0
nearest_line_start notes s node (suc k) zero = 0
nearest_line_start notes s node (suc k) (suc left) =
    if begins_line_after_step 0 notes s node k then suc k else nearest_line_start notes s node (previous_step_count_over_calls 0 s node k) left

-- `stepBack` by a line: the node returns to the beginning of its line, or, if it is at the beginning of one, to that of the
-- line before
abbrev pub step_count_at_line_start : DebugInfo → MachineState → NodeId → ℕ → ℕ
step_count_at_line_start notes s node zero = 0
step_count_at_line_start notes s node (suc k) = nearest_line_start notes s node (previous_step_count_over_calls 0 s node k) (suc k)

abbrev pub state_after_line_rollback : DebugInfo → MachineState → NodeId → MachineState
state_after_line_rollback notes s node = state_rolled_back_past_steps s node (step_count_at_line_start notes s node (count_steps node.number s.kept))
