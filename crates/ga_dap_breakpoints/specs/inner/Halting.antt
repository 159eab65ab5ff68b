-- What watches a move: what ends it early, with what it keeps of the events before; and why a move ended, by how its run did.
use Rattle.std.specs.Prelude.{ℕ, Bool, if◌then◌else◌, List, Option, Some, None, slice_index_or, ◌≡◌}
use Rattle.ga_grid.specs.declared.node_id.NodeId.{NodeId}
use Rattle.ga_event.specs.declared.made.MadeEvent.{MadeEvent}
use Rattle.ga_event.specs.Told.{count_steps}
use Rattle.ga_lab.specs.Machine.{MachineState}
use Rattle.ga_provenance.specs.Fetched.{fetched_cell}
use Rattle.ga_scheduler.specs.declared.watched.WatchedRunEnd.{WatchedRunEnd}
use Rattle.ga_scheduler.specs.declared.watched.WatchedRunEnd.TheVariants as the_end
use Rattle.ga_state_expectations.specs.declared.source.LineExpectation.{LineExpectation}
use Rattle.ga_state_expectations.specs.Breaking.{line_broken_by_newest_event}
use Rattle.ga_state_expectations.specs.Knowledge.{IsExpectationKnowledge}
use Rattle.ga_dap_breakpoints.specs.declared.halts.HaltConditions.{HaltConditions}
use Rattle.ga_dap_breakpoints.specs.declared.halts.HaltMonitor.{HaltMonitor}
use Rattle.ga_dap_breakpoints.specs.declared.going.HaltReason.{HaltReason}
use Rattle.ga_dap_breakpoints.specs.declared.going.HaltReason.TheVariants.{HitBreakpoint, NodeStopped, BrokeExpectation, CompletedMove, SliceEnded, Quiet, Refused}
use Rattle.ga_dap_breakpoints.specs.Breakpoints.{tally_after_event, is_move_ending_stop}
use Rattle.ga_dap_breakpoints.specs.inner.Cells.{InstructionCellsByNode}

-- ---- what is watched, after an event

-- the hits are counted
abbrev pub halt_conditions_after_event : HaltConditions → MadeEvent → MachineState → HaltConditions
halt_conditions_after_event halts told s = record halts { tally = tally_after_event halts.breakpoints.now told s halts.tally }

-- a cell is the one from which a node's word came
abbrev pub IsInstructionCell : MachineState → NodeId → Option ℕ → Type 0
IsInstructionCell s node cell = cell ≡ fetched_cell s node (count_steps node.number s.kept)

-- each cell that is known is
abbrev pub AreInstructionCells : MachineState → InstructionCellsByNode → Type 0
AreInstructionCells s cells = (node : NodeId) (cell : Option ℕ) → slice_index_or cells node.number None ≡ Some cell → IsInstructionCell s node cell

-- what is kept beside the conditions holds of this machine
pub record RemembersHalts (w : HaltMonitor) (s : MachineState) : Type 0 where
  pub cells : AreInstructionCells s w.cells
  pub known : IsExpectationKnowledge w.halts.expectations.now s w.known

-- ---- why a move ended, by how its run did

-- by this event, which hit no breakpoint and is no stop that ends the move, on the machine that it left
abbrev pub halt_reason_of_line : MadeEvent → Option ℕ → HaltReason
halt_reason_of_line told (Some line) = BrokeExpectation told line
halt_reason_of_line told None = CompletedMove told

abbrev pub halt_reason_without_hit : List LineExpectation → MadeEvent → MachineState → HaltReason
halt_reason_without_hit expectations told s = halt_reason_of_line told (line_broken_by_newest_event expectations s)

-- by this event, which hit this breakpoint and broke the expectation of this line
abbrev pub halt_reason_after_event : Bool → MadeEvent → Option ℕ → Option ℕ → HaltReason
halt_reason_after_event stopping told line (Some which) = HitBreakpoint told which
halt_reason_after_event stopping told line None = if stopping then NodeStopped told else halt_reason_of_line told line

abbrev pub halt_reason_of_event : Option ℕ → Bool → List LineExpectation → Option NodeId → MadeEvent → MachineState → HaltReason
halt_reason_of_event hit stops expectations node told s =
    halt_reason_after_event (is_move_ending_stop stops node told) told (line_broken_by_newest_event expectations s) hit

-- by this end of its run, where the newest event hit the breakpoint at this place
abbrev pub halt_reason_of_run : Option ℕ → Bool → List LineExpectation → Option NodeId → WatchedRunEnd → MachineState → HaltReason
halt_reason_of_run hit stops expectations first (the_end.EndedByWatch told) s = halt_reason_of_event hit stops expectations first told s
halt_reason_of_run hit stops expectations first the_end.Made s = SliceEnded
halt_reason_of_run hit stops expectations first the_end.Quiet s = Quiet
halt_reason_of_run hit stops expectations first (the_end.Refused why) s = Refused why
