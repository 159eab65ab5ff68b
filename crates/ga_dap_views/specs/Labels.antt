-- The labels and the lines of a node's cells, by the notes of its source (docs/REFERENCE.md, "Source").
use Rattle.std.specs.Prelude.{ℕ, ◌-◌, ◌*◌, ◌/◌, ◌%◌, ◌==◌, Bool, false, ◌&&◌, if◌then◌else◌, List, [], ◌++◌, codes, decimal, Option, Some, None, position, option_map, option_and_then, unwrap_or}
use Rattle.std.specs.List.{slice_get}
use Rattle.std.specs.Str.Lossy.{utf8_lossy}
use Rattle.ga_text.specs.Lines.{Text}
use Rattle.ga_text.specs.Digits.{two_hex_digits_text}
use Rattle.ga_grid.specs.declared.node_id.NodeId.{NodeId}
use Rattle.ga_debug_info.specs.declared.notes.LabelAddress.{LabelAddress}
use Rattle.ga_debug_info.specs.declared.notes.CellSource.{CellSource}
use Rattle.ga_debug_info.specs.declared.notes.DebugInfo.{DebugInfo}
use Rattle.ga_debug_info.specs.declared.wording.SlotWord.{SlotWord}
use Rattle.ga_debug_info.specs.declared.wording.DisplayedWord.{DisplayedWord}
use Rattle.ga_debug_info.specs.Notes.{is_source_of_cell, source_word_in_slot}
use Rattle.ga_debug_info.specs.Source.{cell_of_address, result_at_nearest_place}
use Rattle.ga_dap_views.specs.declared.spots.SlotAddress.{SlotAddress}

-- whether a label of the node is at the cell
abbrev pub is_cell_of_label : ℕ → Option ℕ → Bool
is_cell_of_label cell None = false
is_cell_of_label cell (Some found) = found == cell

abbrev pub is_label_at_cell : NodeId → ℕ → LabelAddress → Bool
is_label_at_cell node cell name = name.node.number == node.number && is_cell_of_label cell (cell_of_address name.address)

abbrev pub label_index_of_cell : List LabelAddress → NodeId → ℕ → Option ℕ
label_index_of_cell names node cell = position (is_label_at_cell node cell) names

abbrev pub label_of_cell : List LabelAddress → NodeId → ℕ → Option LabelAddress
label_of_cell names node cell = option_and_then (slice_get names) (label_index_of_cell names node cell)

-- the label at a cell, or the nearest before it in the same memory
abbrev pub nearest_label : List LabelAddress → NodeId → ℕ → Option LabelAddress
nearest_label names node cell = option_and_then (slice_get names) (result_at_nearest_place (label_index_of_cell names node) (cell / 64 * 64) (cell % 64))

-- A cell by its label and its distance after that, and else by its address. (A source may have bytes that are no text.)
abbrev pub label_distance_text : ℕ → Text
label_distance_text behind = if behind == 0 then [] else codes "+" ++ decimal behind

abbrev pub label_and_distance_text : ℕ → Option LabelAddress → Text
label_and_distance_text cell None = two_hex_digits_text cell
label_and_distance_text cell (Some name) = utf8_lossy name.text.items ++ label_distance_text (cell - unwrap_or (cell_of_address name.address) cell)

abbrev pub cell_location_text : DebugInfo → NodeId → ℕ → Text
cell_location_text notes node cell = label_and_distance_text cell (nearest_label notes.names.items node cell)

-- the note of the source for a cell
abbrev pub debug_info_of_cell : DebugInfo → NodeId → ℕ → Option CellSource
debug_info_of_cell notes node cell = option_and_then (slice_get notes.notes.items) (position (is_source_of_cell node cell) notes.notes.items)

-- the word of the source from which a slot comes, and its line
abbrev pub source_word_of_slot : DebugInfo → NodeId → SlotAddress → Option SlotWord
source_word_of_slot notes node spot = source_word_in_slot notes.words.items node spot.cell spot.slot

abbrev pub source_line_of_slot : DebugInfo → NodeId → SlotAddress → Option ℕ
source_line_of_slot notes node spot = option_map (λ (word : SlotWord). word.line) (source_word_of_slot notes node spot)

-- the first word of a line from which a slot of an instruction word of the node comes
abbrev pub is_code_word_on_line : NodeId → ℕ → DisplayedWord → Bool
is_code_word_on_line node line told = told.word.is_code && told.word.node.number == node.number && told.word.line == line

abbrev pub first_code_word_of_line : DebugInfo → NodeId → ℕ → Option SlotWord
first_code_word_of_line notes node line =
    option_map (λ (told : DisplayedWord). told.word) (option_and_then (slice_get notes.words.items) (position (is_code_word_on_line node line) notes.words.items))
