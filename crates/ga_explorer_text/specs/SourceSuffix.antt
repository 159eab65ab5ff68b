-- What the source has for cells and slots, at the end of the lines that name them (docs/REFERENCE.md, "Exploring"; this
-- project's own).
use Rattle.std.specs.Prelude.{ℕ, ◌+◌, ◌-◌, ◌%◌, ◌==◌, min, if◌then◌else◌, [], ◌++◌, codes, Option, Some, None}
use Rattle.ga_text.specs.Lines.{Text}
use Rattle.ga_node.specs.declared.place.NodePlace.{NodePlace}
use Rattle.ga_node.specs.declared.place.NodePlace.TheVariants as place
use Rattle.ga_grid.specs.declared.node_id.NodeId.{NodeId}
use Rattle.ga_image.specs.Given.{is_word_given}
use Rattle.ga_event.specs.Told.{count_steps}
use Rattle.ga_lab.specs.Machine.{MachineState}
use Rattle.ga_event.specs.declared.flow.part.NodePart.{NodePart}
use Rattle.ga_event.specs.declared.flow.part.NodePart.TheVariants as part
use Rattle.ga_debug_info.specs.declared.notes.DebugInfo.{DebugInfo}
use Rattle.ga_debug_info.specs.Notes.{text_of_first_source_of_cell, is_first_source_of_cell_truncated, slot_text}
use Rattle.ga_provenance.specs.declared.value.PartValue.{PartValue}
use Rattle.ga_provenance.specs.Origins.{node_after_steps}
use Rattle.ga_provenance.specs.Fetched.{fetched_cell}

-- the source line of a cell of a node; nothing for an image
abbrev pub cell_note_text : Option DebugInfo → NodeId → Option ℕ → Text
cell_note_text None node cell = []
cell_note_text (Some notes) node cell = text_of_first_source_of_cell notes.notes.items node cell

-- the source word of a slot of a cell of a node, if the line of the cell is long
abbrev pub slot_note_text : Option DebugInfo → NodeId → Option ℕ → ℕ → Text
slot_note_text None node cell slot = []
slot_note_text (Some notes) node cell slot = if is_first_source_of_cell_truncated notes.notes.items node cell then slot_text notes.words.items node cell slot else []

abbrev pub source_text_of_slot : Option DebugInfo → NodeId → Option ℕ → ℕ → Text
source_text_of_slot notes node cell slot = cell_note_text notes node cell ++ slot_note_text notes node cell slot

-- the source line of a cell of a node and the word of a slot of it, and the end of the line
abbrev pub source_suffix_line : Option DebugInfo → NodeId → Option ℕ → ℕ → Text
source_suffix_line notes node cell slot = source_text_of_slot notes node cell slot ++ codes "\n"

-- the slot that was next before a step of a node: 4 before a fetch
abbrev pub slot_before_step : MachineState → NodeId → ℕ → ℕ
slot_before_step s node step = (node_after_steps s node.number (min (step - 1) (count_steps node.number s.kept))).slot

-- after a step of a node: the cell from which its instruction word was fetched, and the slot that it ran
abbrev pub step_suffix_text : Option DebugInfo → MachineState → NodeId → ℕ → Text
step_suffix_text notes s node step = source_suffix_line notes node (fetched_cell s node step) (slot_before_step s node step)

-- the cell that a part of a node is
abbrev pub cell_of_node_part : NodePart → Option ℕ
cell_of_node_part (part.Ram k) = Some k
cell_of_node_part (part.Rom k) = Some (128 + k % 64)
cell_of_node_part _ = None

-- The place by which a part is given: A, B, P and each cell are given alone. All else is given only with all words, as T is.
abbrev pub load_place_of_node_part : NodePart → NodePlace
load_place_of_node_part part.A = place.A
load_place_of_node_part part.B = place.B
load_place_of_node_part part.P = place.P
load_place_of_node_part (part.Ram k) = place.Ram k
load_place_of_node_part (part.Rom k) = place.Rom k
load_place_of_node_part _ = place.T

-- after a loaded value: whether neither image nor source gave it
abbrev pub never_set_text : Option DebugInfo → NodeId → NodePart → Text
never_set_text None node part = []
never_set_text (Some notes) node part = if is_word_given notes.given node (load_place_of_node_part part) then [] else codes ", never set"

-- after a loaded value: that, and the text of its cell, from the word that begins it
abbrev pub loaded_value_suffix_text : Option DebugInfo → NodeId → NodePart → Text
loaded_value_suffix_text notes node part = never_set_text notes node part ++ source_suffix_line notes node (cell_of_node_part part) 4

-- after a value: that of the step that made it, or of the load
abbrev pub value_suffix_text : Option DebugInfo → MachineState → PartValue → Text
value_suffix_text notes s value =
    if value.step == 0 then loaded_value_suffix_text notes value.node value.part else step_suffix_text notes s value.node value.step
