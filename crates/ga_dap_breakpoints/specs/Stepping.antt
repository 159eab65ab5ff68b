-- Steps of one node (Debug Adapter Protocol, "NextRequest", "StepInRequest", "StepOutRequest", "SteppingGranularity"). A line begins forward where it
-- does backward (`begins_line_after_step` of Lines.antt), but for where the node leaves a call that it was in.
use Rattle.std.specs.Prelude.{ℕ, zero, suc, ◌-◌, ◌==◌, Bool, true, false, ◌&&◌, if◌then◌else◌, is_none, position, Option, Some, None, option_map}
use Rattle.std.specs.List.{range_with_len}
use Rattle.ga_grid.specs.declared.node_id.NodeId.{NodeId}
use Rattle.ga_event.specs.declared.made.MadeEvent.{MadeEvent}
use Rattle.ga_event.specs.Told.{count_steps}
use Rattle.ga_lab.specs.Machine.{MachineState}
use Rattle.ga_debug_info.specs.declared.notes.DebugInfo.{DebugInfo}
use Rattle.ga_scheduler.specs.Conditions.{is_step_of_node}
use Rattle.ga_scheduler.specs.Running.{ScheduledMachine}
use Rattle.ga_scheduler.specs.Watched.{next_event_with_precedence, run_after_event_with_precedence, run_after_events_with_precedence}
use Rattle.ga_dap_views.specs.Calls.{step_pushing_return_entry, is_call_step, previous_return_entry_indices}
use Rattle.ga_dap_breakpoints.specs.Lines.{begins_line_after_step}
use Rattle.ga_dap_breakpoints.specs.declared.stepping.Granularity.{Granularity}
use Rattle.ga_dap_breakpoints.specs.declared.stepping.Granularity.TheVariants.{Instruction, Line}
use Rattle.ga_dap_breakpoints.specs.declared.stepping.StepMove.{StepMove}

-- ---- the call from which the node is to return first, by the place of its entry on the return stack

abbrev pub is_previous_return_entry_index : ℕ → Option ℕ → Bool
is_previous_return_entry_index place None = false
is_previous_return_entry_index place (Some from) = from == place

-- The place of the call from which the node is to return first, after its newest step. Its entry is followed; a call that the
-- node makes is such a call if calls are stepped over.
abbrev pub pending_call_after_step : MachineState → NodeId → Bool → Option ℕ → Option ℕ
pending_call_after_step s node over (Some place) = position (is_previous_return_entry_index place) (previous_return_entry_indices s node (count_steps node.number s.kept - 1))
pending_call_after_step s node over None = if over && is_call_step s node (count_steps node.number s.kept) then Some 0 else None

-- ---- the moves

-- a move of a node to its next step, or to where a line of its source begins
abbrev pub step_in : MachineState → NodeId → Granularity → StepMove
step_in s node grain = record { node = node; grain = grain; over = false; call = None; began = count_steps node.number s.kept }

-- a move of a node to its next step, or to where a line of its source begins, over the calls that it makes
abbrev pub step_over : MachineState → NodeId → Granularity → StepMove
step_over s node grain = record { node = node; grain = grain; over = true; call = None; began = count_steps node.number s.kept }

-- return from the newest open call: until its entry is no longer on the return stack
abbrev pub is_open_call_at : MachineState → NodeId → ℕ → Bool
is_open_call_at s node place = is_call_step s node (step_pushing_return_entry s node (count_steps node.number s.kept) place)

abbrev pub newest_open_call_entry_index : MachineState → NodeId → Option ℕ
newest_open_call_entry_index s node = position (is_open_call_at s node) (range_with_len 0 9)

abbrev pub step_out_from_call : MachineState → NodeId → ℕ → StepMove
step_out_from_call s node newest = record { node = node; grain = Instruction; over = false; call = Some newest; began = count_steps node.number s.kept }

abbrev pub step_out : MachineState → NodeId → Option StepMove
step_out s node = option_map (step_out_from_call s node) (newest_open_call_entry_index s node)

-- ---- one event

-- the move after this event, on the machine that it left
abbrev pub move_after_event : StepMove → MadeEvent → MachineState → StepMove
move_after_event by told s = if is_step_of_node by.node.number told then record by { call = pending_call_after_step s by.node by.over by.call } else by

-- The newest step of the node is one by which a move of this granularity, begun after `n` steps, can end. By lines, a call that
-- the node made since then is stepped over; a return from another call brings the node to the rest of the calling line.
abbrev pub reaches_move_end : Granularity → ℕ → DebugInfo → NodeId → MachineState → ℕ → Bool
reaches_move_end Instruction began notes node s k = true
reaches_move_end Line began notes node s k = begins_line_after_step began notes s node k

-- the move came to its end: the node made a step, and no call is to come back
abbrev pub completes_move : DebugInfo → StepMove → MadeEvent → MachineState → Bool
completes_move notes by told s =
    is_step_of_node by.node.number told
    && (is_none (pending_call_after_step s by.node by.over by.call) && reaches_move_end by.grain by.began notes by.node s (count_steps by.node.number s.kept - 1))

-- ---- the node's events, and others while it has none

abbrev pub move_after_optional_event : StepMove → Option MadeEvent → MachineState → StepMove
move_after_optional_event by None s = by
move_after_optional_event by (Some told) s = move_after_event by told s

-- the move after `n` events
abbrev pub move_after_events : StepMove → ScheduledMachine → ℕ → StepMove
move_after_events by r zero = by
move_after_events by r (suc events) =
    move_after_optional_event (move_after_events by r events) (next_event_with_precedence (Some by.node) (run_after_events_with_precedence (Some by.node) r events)) (run_after_event_with_precedence (Some by.node) (run_after_events_with_precedence (Some by.node) r events)).state
