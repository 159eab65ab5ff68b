-- What the source has for a step or a value, and whether a loaded value was given, as fields of a row (docs/REFERENCE.md, "Exploring"; this project's own).
use Rattle.std.specs.Prelude.{ℕ, ◌==◌, ◌&&◌, not, Bool, false, if◌then◌else◌, pos, List, [], ◌∷◌, length, drop, codes, Option, Some, None}
use Rattle.ga_text.specs.Lines.{Text}
use Rattle.ga_grid.specs.declared.node_id.NodeId.{NodeId}
use Rattle.ga_image.specs.Given.{is_word_given}
use Rattle.ga_lab.specs.Machine.{MachineState}
use Rattle.ga_debug_info.specs.Notes.{source_word_in_slot}
use Rattle.ga_debug_info.specs.declared.notes.DebugInfo.{DebugInfo}
use Rattle.ga_debug_info.specs.declared.wording.SlotWord.{SlotWord}
use Rattle.ga_provenance.specs.declared.value.PartValue.{PartValue}
use Rattle.ga_provenance.specs.Fetched.{fetched_cell}
use Rattle.ga_explorer_text.specs.SourceSuffix.{cell_note_text, slot_note_text, slot_before_step, cell_of_node_part, load_place_of_node_part}
use Rattle.ga_json.specs.Values.{JsonValue, null, number}
use Rattle.ga_json.specs.FieldValues.{joined_text_json}
use Rattle.ga_json.specs.Fields.{NamedValue}

-- the word of the source from which a slot of a cell of a node comes; none for an image
abbrev pub source_word : Option DebugInfo → NodeId → Option ℕ → ℕ → Option SlotWord
source_word None node cell slot = None
source_word (Some notes) node None slot = None
source_word (Some notes) node (Some cell) slot = source_word_in_slot notes.words.items node cell slot

-- its line and its column
abbrev pub source_word_line_json : Option SlotWord → JsonValue
source_word_line_json None = null
source_word_line_json (Some word) = number (pos word.line)

abbrev pub source_word_column_json : Option SlotWord → JsonValue
source_word_column_json None = null
source_word_column_json (Some word) = number (pos word.column)

-- the text of a cell after ` \ `, and of a slot of it, if the source says something of the cell
abbrev pub source_text_json : Text → Text → JsonValue
source_text_json cell slot = if length cell == 0 then null else joined_text_json (drop 3 cell) slot

-- what the source has for a slot of a cell of a node: the line and the column of its word, and the text
abbrev pub source_fields : Option DebugInfo → NodeId → Option ℕ → ℕ → List NamedValue
source_fields notes node cell slot =
    (codes "line", source_word_line_json (source_word notes node cell slot))
    ∷ (codes "column", source_word_column_json (source_word notes node cell slot))
    ∷ (codes "source", source_text_json (cell_note_text notes node cell) (slot_note_text notes node cell slot))
    ∷ []

-- after a step of a node: the cell from which its instruction word was fetched, and the slot that it ran
abbrev pub step_source_fields : Option DebugInfo → MachineState → NodeId → ℕ → List NamedValue
step_source_fields notes s node step = source_fields notes node (fetched_cell s node step) (slot_before_step s node step)

-- after a value: that of the step that made it, or of the cell where it was loaded, from the word that begins it
abbrev pub value_source_fields : Option DebugInfo → MachineState → PartValue → List NamedValue
value_source_fields notes s value =
    if value.step == 0 then source_fields notes value.node (cell_of_node_part value.part) 4 else step_source_fields notes s value.node value.step

-- whether a value was loaded, and neither image nor source gave it
abbrev pub is_value_never_set : Option DebugInfo → PartValue → Bool
is_value_never_set None value = false
is_value_never_set (Some notes) value = value.step == 0 && not (is_word_given notes.given value.node (load_place_of_node_part value.part))
