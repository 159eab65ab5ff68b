-- The texts of `writes`: the steps that wrote a cell (docs/REFERENCE.md, "Exploring"; this project's own).
use Rattle.std.specs.Prelude.{ℕ, zero, suc, ◌%◌, nat_lt, if◌then◌else◌, [], ◌++◌, codes, Option, Some, None}
use Rattle.ga_text.specs.Lines.{Text}
use Rattle.ga_word.specs.Word.{hex_digits_of_word}
use Rattle.ga_grid.specs.declared.node_id.NodeId.{NodeId}
use Rattle.ga_event.specs.Told.{count_steps}
use Rattle.ga_lab.specs.Machine.{MachineState}
use Rattle.ga_provenance.specs.Writes.{cell_write_at}
use Rattle.ga_provenance.specs.declared.writes.CellWrite.{CellWrite}
use Rattle.ga_text.specs.Digits.{step_text}
use Rattle.ga_explorer_text.specs.Deeds.{step_text_for_node}

-- a step that wrote: its number, the opcode's name, and the word
abbrev pub cell_write_text : NodeId → Option CellWrite → Text
cell_write_text node None = []
cell_write_text node (Some written) =
    step_text node written.step ++ codes " " ++ step_text_for_node written.made node.number ++ codes " " ++ hex_digits_of_word written.word ++ codes "\n"

-- the steps that wrote the cell, among the first `k` steps of a node, the newest first
unfoldable pub cell_writes_lines : MachineState → NodeId → ℕ → ℕ → Text
cell_writes_lines s node cell zero = []
cell_writes_lines s node cell (suc k) = cell_write_text node (cell_write_at s node.number cell k) ++ cell_writes_lines s node cell k

-- The steps that wrote at an address: each cell of RAM has two below 80 hexadecimal, and from there on is ROM, where no step writes.
abbrev pub cell_writes_answer_text : MachineState → NodeId → ℕ → Text
cell_writes_answer_text s node address = if nat_lt address 128 then cell_writes_lines s node (address % 64) (count_steps node.number s.kept) else []
