-- The cells from which the nodes' words came, as far as they were looked back for (F18A Technology Reference DB001, instruction fetch): each is kept until its
-- node may have taken another word. What is hit by them.
use Rattle.ga_event.specs.declared.made.MadeEvent.TheVariants as made
use Rattle.std.specs.Prelude.{ℕ, ◌+◌, ◌-◌, ◌==◌, Bool, ◌&&◌, not, if◌then◌else◌, List, [], ◌∷◌, slice_set, slice_index_or, Option, Some, None}
use Rattle.std.specs.List.{slice_get}
use Rattle.ga_node.specs.Record.{NodeRecord}
use Rattle.ga_grid.specs.declared.node_id.NodeId.{NodeId}
use Rattle.ga_grid.specs.Chip.{node_record_at}
use Rattle.ga_event.specs.declared.made.MadeEvent.{MadeEvent}
use Rattle.ga_event.specs.Told.{count_steps}
use Rattle.ga_lab.specs.Machine.{MachineState, chip_of_machine, history_of_node}
use Rattle.ga_provenance.specs.Fetched.{fetched_cell}
use Rattle.ga_scheduler.specs.Conditions.{is_step_of_node}
use Rattle.ga_dap_views.specs.declared.spots.SlotAddress.{SlotAddress}
use Rattle.ga_dap_views.specs.Spots.{slot_address_of_node_record}
use Rattle.ga_dap_breakpoints.specs.declared.back.WatchedAction.{WatchedAction}
use Rattle.ga_dap_breakpoints.specs.declared.back.WatchedAction.TheVariants.{ArrivesAtSlot, WritesWatchedCell}
use Rattle.ga_dap_breakpoints.specs.declared.breakpoint.Breakpoint.{Breakpoint}
use Rattle.ga_dap_breakpoints.specs.declared.hits.HitTally.{HitTally}
use Rattle.ga_dap_breakpoints.specs.Back.{can_event_reach_slot, is_at_slot_address}
use Rattle.ga_dap_breakpoints.specs.Breakpoints.{is_watched_event, tally_with_hit}
use Rattle.ga_dap_breakpoints.specs.Conditions.{is_optional_value_test_passed}
use Rattle.ga_dap_breakpoints.specs.inner.Words.{event_kind_keeps_instruction_word}

-- the cells of the nodes' words by the numbers of the nodes: known or not, and of a memory or not
abbrev pub InstructionCellsByNode : Type 0
InstructionCellsByNode = List (Option (Option ℕ))

-- after this event, a node that may have fetched another word is forgotten
abbrev pub instruction_cells_kept_after_event : MadeEvent → InstructionCellsByNode → InstructionCellsByNode
instruction_cells_kept_after_event (made.Own node step kind) cells = if event_kind_keeps_instruction_word kind then cells else slice_set cells node.number None
instruction_cells_kept_after_event (made.Pass writer i reader j word) cells = slice_set cells reader.number None

-- a node's cell, as it is known, or as the kept events say
abbrev pub known_or_fetched_cell : MachineState → NodeId → Option (Option ℕ) → Option ℕ
known_or_fetched_cell s node (Some cell) = cell
known_or_fetched_cell s node None = fetched_cell s node (count_steps node.number s.kept)

abbrev pub instruction_cell_of_node : MachineState → InstructionCellsByNode → NodeId → Option ℕ
instruction_cell_of_node s cells node = known_or_fetched_cell s node (slice_index_or cells node.number None)

-- a node's cell is needed if the node is in its word at the slot, and is known from then on
abbrev pub is_node_within_word_at_slot : SlotAddress → NodeRecord → Bool
is_node_within_word_at_slot at n = not (n.slot == 4) && n.slot == at.slot

abbrev pub instruction_cells_with_node_cell : ℕ → Option ℕ → InstructionCellsByNode → InstructionCellsByNode
instruction_cells_with_node_cell n cell cells = slice_set cells n (Some cell)

abbrev pub instruction_cells_with_needed_cell : Bool → MachineState → NodeId → InstructionCellsByNode → InstructionCellsByNode
instruction_cells_with_needed_cell asked s node cells = if asked then instruction_cells_with_node_cell node.number (instruction_cell_of_node s cells node) cells else cells

-- ---- what an event hits, by the cells

-- the node's newest step came to the slot, where its word came from this cell
abbrev pub newest_step_arrives_at_slot : MachineState → NodeId → SlotAddress → Option ℕ → Bool
newest_step_arrives_at_slot s node at cell =
    can_event_reach_slot (slice_get (history_of_node s node.number) (count_steps node.number s.kept - 1)) && is_at_slot_address at (slot_address_of_node_record (node_record_at (chip_of_machine s) node.number) cell)

abbrev pub is_watched_event_by_cells : WatchedAction → NodeId → MadeEvent → MachineState → InstructionCellsByNode → Bool
is_watched_event_by_cells (ArrivesAtSlot at) node told s cells = is_step_of_node node.number told && newest_step_arrives_at_slot s node at (instruction_cell_of_node s cells node)
is_watched_event_by_cells (WritesWatchedCell address) node told s cells = is_watched_event (WritesWatchedCell address) node told s

abbrev pub instruction_cells_after_watch : WatchedAction → NodeId → MadeEvent → MachineState → InstructionCellsByNode → InstructionCellsByNode
instruction_cells_after_watch (ArrivesAtSlot at) node told s cells = instruction_cells_with_needed_cell (is_step_of_node node.number told && is_node_within_word_at_slot at (node_record_at (chip_of_machine s) node.number)) s node cells
instruction_cells_after_watch (WritesWatchedCell address) node told s cells = cells

abbrev pub is_breakpoint_hit_by_cells : MadeEvent → MachineState → Breakpoint → InstructionCellsByNode → Bool
is_breakpoint_hit_by_cells told s one cells =
    is_watched_event_by_cells one.watched one.node told s cells && is_optional_value_test_passed one.condition (node_record_at (chip_of_machine s) one.node.number) (count_steps one.node.number s.kept)

abbrev pub tally_after_breakpoint_by_cells : MadeEvent → MachineState → Breakpoint → ℕ → InstructionCellsByNode → HitTally → HitTally
tally_after_breakpoint_by_cells told s one place cells tally = if is_breakpoint_hit_by_cells told s one cells then tally_with_hit one place tally else tally

-- the breakpoints of the list from a place on are counted if this event hits them by the cells; and the cells after them
abbrev pub tally_after_breakpoints_by_cells : MadeEvent → MachineState → ℕ → List Breakpoint → InstructionCellsByNode → HitTally → HitTally
tally_after_breakpoints_by_cells told s place [] cells tally = tally
tally_after_breakpoints_by_cells told s place (one ∷ rest) cells tally =
    tally_after_breakpoints_by_cells told s (place + 1) rest (instruction_cells_after_watch one.watched one.node told s cells) (tally_after_breakpoint_by_cells told s one place cells tally)

abbrev pub instruction_cells_after_breakpoints : MadeEvent → MachineState → List Breakpoint → InstructionCellsByNode → InstructionCellsByNode
instruction_cells_after_breakpoints told s [] cells = cells
instruction_cells_after_breakpoints told s (one ∷ rest) cells = instruction_cells_after_breakpoints told s rest (instruction_cells_after_watch one.watched one.node told s cells)

-- the number of hits of each breakpoint, and the cells, after this event, on the machine that it left
abbrev pub tally_after_event_by_cells : List Breakpoint → MadeEvent → MachineState → InstructionCellsByNode → HitTally → HitTally
tally_after_event_by_cells breakpoints told s cells tally = tally_after_breakpoints_by_cells told s 0 breakpoints (instruction_cells_kept_after_event told cells) (record tally { hit = None })

abbrev pub instruction_cells_after_event : List Breakpoint → MadeEvent → MachineState → InstructionCellsByNode → InstructionCellsByNode
instruction_cells_after_event breakpoints told s cells = instruction_cells_after_breakpoints told s breakpoints (instruction_cells_kept_after_event told cells)
