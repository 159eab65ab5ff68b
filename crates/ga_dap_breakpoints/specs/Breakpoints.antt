-- Breakpoints: what a node is watched for, and after which event it did that (Debug Adapter Protocol, "SetBreakpointsRequest",
-- "SetDataBreakpointsRequest", "SetExceptionBreakpointsRequest"). Each is something that an event does, not a state that lasts.
use Rattle.std.specs.Prelude.{ℕ, ◌+◌, ◌-◌, ◌%◌, ◌^◌, nat_lt, Bool, false, ◌&&◌, ◌||◌, if◌then◌else◌, is_some, List, [], ◌∷◌, slice_set, slice_index_or, Option, Some, None, option_map}
use Rattle.std.specs.Option.{option_or}
use Rattle.ga_grid.specs.declared.node_id.NodeId.{NodeId}
use Rattle.ga_event.specs.declared.made.MadeEvent.{MadeEvent}
use Rattle.ga_event.specs.Told.{count_steps}
use Rattle.ga_grid.specs.Chip.{node_record_at}
use Rattle.ga_lab.specs.Machine.{MachineState, chip_of_machine}
use Rattle.ga_debug_info.specs.declared.notes.DebugInfo.{DebugInfo}
use Rattle.ga_debug_info.specs.declared.wording.SlotWord.{SlotWord}
use Rattle.ga_debug_info.specs.Notes.{slot_or_first_for_fetch, first_slot_word_from_line}
use Rattle.ga_debug_info.specs.Source.{cell_of_address}
use Rattle.ga_scheduler.specs.declared.condition.Condition.TheVariants as condition
use Rattle.ga_scheduler.specs.Conditions.{is_step_of_node, is_stop_event_kind, is_own_event_of_kind, is_node_own_event_of_kind, holds_after_made_event}
use Rattle.ga_dap_breakpoints.specs.declared.back.WatchedAction.{WatchedAction}
use Rattle.ga_dap_breakpoints.specs.declared.back.WatchedAction.TheVariants.{ArrivesAtSlot, WritesWatchedCell}
use Rattle.ga_dap_breakpoints.specs.Back.{reaches_slot}
use Rattle.ga_state_expectations.specs.declared.source.LineExpectation.{LineExpectation}
use Rattle.ga_state_expectations.specs.Breaking.{breaks_one_expectation}
use Rattle.ga_dap_views.specs.Spots.{slot_address}
use Rattle.ga_dap_breakpoints.specs.declared.breakpoint.Breakpoint.{Breakpoint}
use Rattle.ga_dap_breakpoints.specs.declared.breakpoint.LineBreakpoint.{LineBreakpoint}
use Rattle.ga_dap_breakpoints.specs.declared.condition.HitCondition.{HitCondition}
use Rattle.ga_dap_breakpoints.specs.declared.hits.HitTally.{HitTally}
use Rattle.ga_dap_breakpoints.specs.Conditions.{is_optional_value_test_passed, meets_hit_condition}

-- ---- where a breakpoint is

-- a breakpoint that a node hits by coming to a slot of a cell
abbrev pub slot_breakpoint : NodeId → ℕ → ℕ → Breakpoint
slot_breakpoint node cell slot = record { node = node; watched = ArrivesAtSlot (slot_address slot cell); condition = None; hits = None }

-- a breakpoint on the first slot of a word, with its line
abbrev pub source_word_breakpoint : SlotWord → LineBreakpoint
source_word_breakpoint word = record { breakpoint = slot_breakpoint word.node word.cell (slot_or_first_for_fetch word.first); line = word.line }

-- a breakpoint on the first word of a line, or of the next line that has one, from which a slot of an instruction word comes
abbrev pub breakpoint_of_line : DebugInfo → ℕ → Option LineBreakpoint
breakpoint_of_line notes line = option_map source_word_breakpoint (first_slot_word_from_line line None notes.words.items)

-- a breakpoint on the first slot of the cell at an address
abbrev pub breakpoint_of_address : NodeId → ℕ → Option Breakpoint
breakpoint_of_address node address = option_map (λ cell. slot_breakpoint node cell 0) (cell_of_address address)

-- ---- what an event hits

-- After this event, on the machine that it left: the node arrived at the slot by this step, or stored in the cell of RAM. Each
-- cell of RAM has two addresses.
abbrev pub is_watched_event : WatchedAction → NodeId → MadeEvent → MachineState → Bool
is_watched_event (ArrivesAtSlot at) node told s = is_step_of_node node.number told && reaches_slot s node at (count_steps node.number s.kept - 1)
is_watched_event (WritesWatchedCell address) node told s = holds_after_made_event (condition.WritesRamCell node (address % 64) None) told s

-- after this event, a node did what the breakpoint watches for, and meets its condition
abbrev pub is_breakpoint_hit : MadeEvent → MachineState → Breakpoint → Bool
is_breakpoint_hit told s one =
    is_watched_event one.watched one.node told s && is_optional_value_test_passed one.condition (node_record_at (chip_of_machine s) one.node.number) (count_steps one.node.number s.kept)

-- ---- how often each was hit, and which of those that the newest event hit asks for its number: the first

abbrev pub hit_count_at_index : List ℕ → ℕ → ℕ
hit_count_at_index counts place = slice_index_or counts place 0

abbrev pub incremented_hit_counts : ℕ → List ℕ → List ℕ
incremented_hit_counts place counts = if nat_lt place 64 then slice_set counts place ((hit_count_at_index counts place + 1) % 2 ^ 32) else counts

-- the place of a breakpoint, if this hit satisfies its hit condition
abbrev pub breakpoint_index_if_satisfied : Option HitCondition → ℕ → ℕ → Option ℕ
breakpoint_index_if_satisfied hits place number = if meets_hit_condition hits number then Some place else None

-- a breakpoint was hit at its place of the list
abbrev pub tally_with_hit : Breakpoint → ℕ → HitTally → HitTally
tally_with_hit one place tally =
    let counts = incremented_hit_counts place tally.counts in
    record { counts = counts; hit = option_or tally.hit (breakpoint_index_if_satisfied one.hits place (hit_count_at_index counts place)) }

abbrev pub tally_after_breakpoint : MadeEvent → MachineState → Breakpoint → ℕ → HitTally → HitTally
tally_after_breakpoint told s one place tally = if is_breakpoint_hit told s one then tally_with_hit one place tally else tally

-- the breakpoints of the list from a place on are counted, where what was made hits them
abbrev pub tally_after_breakpoints : MadeEvent → MachineState → ℕ → List Breakpoint → HitTally → HitTally
tally_after_breakpoints told s place [] tally = tally
tally_after_breakpoints told s place (one ∷ rest) tally = tally_after_breakpoints told s (place + 1) rest (tally_after_breakpoint told s one place tally)

-- the number of hits of each breakpoint after this event, on the machine that it left
abbrev pub tally_after_event : List Breakpoint → MadeEvent → MachineState → HitTally → HitTally
tally_after_event breakpoints told s tally = tally_after_breakpoints told s 0 breakpoints (record tally { hit = None })

-- ---- what ends a move early

-- the event is a stop: of any node if all stops are watched, and of the node that is moved
abbrev pub is_stop_event_of_node : Option NodeId → MadeEvent → Bool
is_stop_event_of_node None told = false
is_stop_event_of_node (Some node) told = is_node_own_event_of_kind node.number is_stop_event_kind told

abbrev pub is_move_ending_stop : Bool → Option NodeId → MadeEvent → Bool
is_move_ending_stop stops node told = stops && is_own_event_of_kind is_stop_event_kind told || is_stop_event_of_node node told

-- What was made ends a move early: it hits a breakpoint, with the hits so far, is a stop that ends the move, or broke an expectation.
abbrev pub ends_move_early : List Breakpoint → List LineExpectation → HitTally → Bool → Option NodeId → MadeEvent → MachineState → Bool
ends_move_early breakpoints expectations tally stops node told s =
    (is_some (tally_after_event breakpoints told s tally).hit || is_move_ending_stop stops node told) || breaks_one_expectation expectations s
