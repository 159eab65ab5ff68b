-- The steps of a node that wrote a cell of its RAM (F18A Technology Reference DB001, opcodes; Flow.antt of ga_event has for
-- each where the written word comes from).
use Rattle.std.specs.Prelude.{ℕ, zero, suc, ◌+◌, Bool, true, not, if◌then◌else◌, Option, Some, None, option_map, slice_index}
use Rattle.std.specs.List.{slice_get}
use Rattle.ga_event.specs.declared.made.MadeEvent.{MadeEvent}
use Rattle.ga_grid.specs.declared.node_id.NodeId.{NodeId}
use Rattle.ga_lab.specs.Machine.{MachineState, history_of_node}
use Rattle.ga_event.specs.declared.flow.part.NodePart.TheVariants as part
use Rattle.ga_event.specs.Flow.{ValueFlow, CopiedFromPart, From}
use Rattle.ga_provenance.specs.declared.writes.CellWrite.{CellWrite}
use Rattle.ga_provenance.specs.Origins.{is_memory_part, node_after_steps, value_flow_at_step}

-- the word in a cell comes from elsewhere: a cell that is not written keeps its own
abbrev pub is_cell_written_by_flow : ValueFlow → Bool
is_cell_written_by_flow (CopiedFromPart from) = not (is_memory_part from)
is_cell_written_by_flow (From parts) = true

abbrev pub cell_write_of_step : ℕ → ℕ → MadeEvent → CellWrite
cell_write_of_step step word made = record { step = step; made = made; word = word }

-- the step after k steps of a node, if it wrote the cell, with the cell's word after it
abbrev pub cell_write_at : MachineState → ℕ → ℕ → ℕ → Option CellWrite
cell_write_at s n cell k =
    if is_cell_written_by_flow (value_flow_at_step s n k (part.Ram cell))
    then option_map (cell_write_of_step (k + 1) (slice_index (node_after_steps s n (k + 1)).ram cell)) (slice_get (history_of_node s n) k)
    else None

-- what the first names, or else the second
abbrev pub newer_cell_write : Option CellWrite → Option CellWrite → Option CellWrite
newer_cell_write (Some written) other = Some written
newer_cell_write None other = other

-- the newest that wrote the cell among the first steps of a node
abbrev pub newest_cell_write : MachineState → ℕ → ℕ → ℕ → Option CellWrite
newest_cell_write s n cell zero = None
newest_cell_write s n cell (suc k) = newer_cell_write (cell_write_at s n cell k) (newest_cell_write s n cell k)

-- a search for the steps of a node that wrote a cell, among the first `step` of them
pub record CellWriteSearch : Type 0 where
  pub machine : MachineState
  pub node : NodeId
  pub cell : ℕ
  pub step : ℕ

abbrev pub cell_write_search : MachineState → NodeId → ℕ → ℕ → CellWriteSearch
cell_write_search s node cell step = record { machine = s; node = node; cell = cell; step = step }
