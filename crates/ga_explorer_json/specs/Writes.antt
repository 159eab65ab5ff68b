-- What `writes` answers, as a JSON value (docs/REFERENCE.md, "Exploring"; this project's own).
use Rattle.std.specs.Prelude.{ℕ, zero, suc, ◌%◌, nat_lt, if◌then◌else◌, pos, List, [], ◌∷◌, ◌++◌, codes, Option, Some, None}
use Rattle.ga_grid.specs.declared.node_id.NodeId.{NodeId}
use Rattle.ga_event.specs.Told.{count_steps}
use Rattle.ga_lab.specs.Machine.{MachineState}
use Rattle.ga_provenance.specs.Writes.{cell_write_at}
use Rattle.ga_provenance.specs.declared.writes.CellWrite.{CellWrite}
use Rattle.ga_text.specs.Digits.{name_of_node}
use Rattle.ga_json.specs.Values.{JsonValue, number, string, JsonItems, no_items, item}
use Rattle.ga_json.specs.Fields.{NamedValue, json_object, json_report}
use Rattle.ga_explorer_json.specs.Events.{event_action_fields}

-- a step that wrote: its number, what it did, and the word in the cell after it
abbrev pub cell_write_fields : CellWrite → List NamedValue
cell_write_fields written = ((codes "step", number (pos written.step)) ∷ event_action_fields written.made) ++ (codes "value", number (pos written.word)) ∷ []

abbrev pub cell_write_json : CellWrite → JsonValue
cell_write_json written = json_object (cell_write_fields written)

-- a step that wrote, before others
abbrev pub rows_with_cell_write : Option CellWrite → JsonItems → JsonItems
rows_with_cell_write None older = older
rows_with_cell_write (Some written) older = item (cell_write_json written) older

-- the steps that wrote the cell, among the first `k` steps of a node, the newest first
unfoldable pub cell_write_rows : MachineState → ℕ → ℕ → ℕ → JsonItems
cell_write_rows s n cell zero = no_items
cell_write_rows s n cell (suc k) = rows_with_cell_write (cell_write_at s n cell k) (cell_write_rows s n cell k)

abbrev pub cell_writes_head_fields : NodeId → ℕ → List NamedValue
cell_writes_head_fields node address =
    (codes "command", string (codes "writes")) ∷ (codes "node", string (name_of_node node)) ∷ (codes "address", number (pos address)) ∷ []

-- The steps that wrote at an address: each cell of RAM has two below 80 hexadecimal, and from there on is ROM, where no step writes.
abbrev pub cell_writes_answer_rows : MachineState → NodeId → ℕ → JsonItems
cell_writes_answer_rows s node address = if nat_lt address 128 then cell_write_rows s node.number (address % 64) (count_steps node.number s.kept) else no_items

abbrev pub cell_writes_answer_json : MachineState → NodeId → ℕ → JsonValue
cell_writes_answer_json s node address = json_report (cell_writes_head_fields node address) (cell_writes_answer_rows s node address)
