-- What a source says of the cells of its chip, and from which word of the source each slot of a cell comes
-- (docs/REFERENCE.md, "Exploring"; this project's own). The programs of slots are those of the source's words with their numbers,
-- from 1 on, in the place of their lines.
use Rattle.std.specs.Prelude.{ℕ, ◌≡◌, ◌+◌, ◌-◌, ◌==◌, Bool, false, if◌then◌else◌, List, [], ◌∷◌, ◌++◌, map, length, drop, slice_get, slice_index, flat_map, codes, decimal, Option, Some, None, nat_le, nat_lt, ◌&&◌, position, option_map, option_and_then, bytes_eq}
use Rattle.ga_ports.specs.Address.{advanced_address}
use Rattle.ga_grid.specs.declared.node_id.NodeId.{NodeId}
use Rattle.ga_parser.specs.declared.item.AssemblyItem.{AssemblyItem}
use Rattle.ga_parser.specs.declared.item.AssemblyItem.TheVariants.{Literal}
use Rattle.ga_source.specs.declared.group.CellGroup.{CellGroup}
use Rattle.ga_source.specs.declared.program.Program.{Program}
use Rattle.ga_source.specs.declared.program.AssembledChip.{AssembledChip}
use Rattle.ga_parser.specs.declared.scan.Token.{Token}
use Rattle.ga_parser.specs.Saying.{token_contents, token_columns}
use Rattle.ga_parser.specs.Words.{source_tokens, source_columns}
use Rattle.ga_parser.specs.Expectations.{expectation_content, expectation_lines}
use Rattle.ga_source.specs.Recovery.{tokens_with_word_numbers, IsAssemblyOfWords}
use Rattle.ga_debug_info.specs.declared.wording.SlotWord.{SlotWord}
use Rattle.ga_debug_info.specs.declared.wording.DisplayedWord.{DisplayedWord}
use Rattle.ga_debug_info.specs.declared.wording.Begun.{Begun}
use Rattle.ga_debug_info.specs.Source.{cell_of_address, source_line_without_mark, trimmed_text, trimmed_source_line, is_long_line, are_code_items, literal_entries, label_address_content, all_label_addresses, cell_source_content, debug_info_of_source}
use Rattle.ga_debug_info.specs.declared.notes.CellSource.{CellSource}
use Rattle.ga_debug_info.specs.declared.notes.LabelAddress.{LabelAddress}
use Rattle.ga_debug_info.specs.declared.notes.DebugInfo.{DebugInfo}

-- ---- words by their numbers

abbrev pub line_of_word : Option Token → ℕ
line_of_word (Some word) = word.line
line_of_word None = 0

abbrev pub column_of_word : Option Token → ℕ
column_of_word (Some word) = word.column
column_of_word None = 0

-- the line and the column of the word with a number
abbrev pub line_of_word_number : List Token → ℕ → ℕ
line_of_word_number words number = line_of_word (slice_get words (number - 1))

abbrev pub column_of_word_number : List Token → ℕ → ℕ
column_of_word_number words number = column_of_word (slice_get words (number - 1))

-- ---- the text of a word

-- a line of the source from a column on
abbrev pub source_text_from_column : List ℕ → ℕ → ℕ → List ℕ
source_text_from_column source line column = trimmed_text (drop (column - 1) (source_line_without_mark source line))

-- the line, the column, and the text from the word on
abbrev pub located_word_text : List ℕ → ℕ → ℕ → List ℕ
located_word_text source line column = decimal line ++ (codes ":" ++ (decimal column ++ (codes ": " ++ source_text_from_column source line column)))

-- the text of a word if the line that begins its cell is long; otherwise nothing
abbrev pub long_line_word_text : List ℕ → ℕ → ℕ → ℕ → List ℕ
long_line_word_text source begun line column = if is_long_line (trimmed_source_line source begun) then located_word_text source line column else []

-- ---- slots and their words

-- a word with its text
pub record DisplayedWordContent : Type 0 where
  pub word : SlotWord
  pub text : List ℕ

abbrev pub displayed_word_content : DisplayedWord → DisplayedWordContent
displayed_word_content told = record { word = told.word; text = told.text.items }

-- The last slot that has the word of this one: the last item also has the slots after it.
abbrev pub last_slot_of_word : ℕ → ℕ → ℕ
last_slot_of_word size slot = if slot + 1 == size then 3 else slot

-- the word of the item in a slot of a cell with `size` items
abbrev pub word_in_slot : List Token → Begun → ℕ → ℕ → ℕ → SlotWord
word_in_slot words cell size slot number = record {
  node = cell.node;
  cell = cell.cell;
  is_code = cell.is_code;
  first = slot;
  last = last_slot_of_word size slot;
  line = line_of_word_number words number;
  column = column_of_word_number words number;
}

-- a word of a cell that begins in a line, and its text
abbrev pub displayed_word : List ℕ → ℕ → SlotWord → DisplayedWordContent
displayed_word source begun word = record { word = word; text = long_line_word_text source begun word.line word.column }

-- the word in a slot, and its text
abbrev pub displayed_slot_word : List ℕ → List Token → Begun → ℕ → ℕ → ℕ → DisplayedWordContent
displayed_slot_word source words cell size slot number = displayed_word source cell.line (word_in_slot words cell size slot number)

-- the words of the items from a slot on, and their texts
unfoldable pub displayed_slot_words : List ℕ → List Token → Begun → ℕ → ℕ → List ℕ → List DisplayedWordContent
displayed_slot_words source words cell size slot [] = []
displayed_slot_words source words cell size slot (number ∷ numbers) = displayed_slot_word source words cell size slot number ∷ displayed_slot_words source words cell size (slot + 1) numbers

-- the words of the slots of a cell of a node, where an address names one, whose items have these words
abbrev pub displayed_cell_words : List ℕ → List Token → NodeId → Bool → Option ℕ → List ℕ → List DisplayedWordContent
displayed_cell_words source words node is_code (Some cell) numbers =
    displayed_slot_words source words (record { node = node; cell = cell; is_code = is_code; line = line_of_word_number words (slice_index numbers 0) }) (length numbers) 0 numbers
displayed_cell_words source words node is_code None numbers = []

abbrev pub displayed_address_words : List ℕ → List Token → NodeId → Bool → ℕ → List ℕ → List DisplayedWordContent
displayed_address_words source words node is_code address numbers = displayed_cell_words source words node is_code (cell_of_address address) numbers

-- the word in the cell of an item's literal, from P on
abbrev pub displayed_literal_words : List ℕ → List Token → NodeId → ℕ → AssemblyItem → ℕ → List DisplayedWordContent
displayed_literal_words source words node p (Literal _) number = displayed_address_words source words node false p (number ∷ [])
displayed_literal_words source words node p _ number = []

-- the words of the slots of a group: of its own cell, and of its literals after it
abbrev pub displayed_group_words : List ℕ → List Token → NodeId → CellGroup → List DisplayedWordContent
displayed_group_words source words node group =
    displayed_address_words source words node (are_code_items group.items.items) group.address group.lines.items
    ++ literal_entries (displayed_literal_words source words node) (advanced_address group.address) group.items.items group.lines.items

-- the words of the slots of a program, and of each of some programs, in order
abbrev pub displayed_program_words : List ℕ → List Token → Program → List DisplayedWordContent
displayed_program_words source words program = flat_map (displayed_group_words source words program.node) program.groups.items

abbrev pub all_displayed_words : List ℕ → List Token → List Program → List DisplayedWordContent
all_displayed_words source words programs = flat_map (displayed_program_words source words) programs

-- These are the words of the slots of a source: its words were numbered and assembled, and each slot has the word of its item.
pub record AreSlotWords (source : List ℕ) (told : List DisplayedWord) : Type 0 where
  pub words : List Token
  pub all : AssembledChip
  pub said : token_contents words ≡ source_tokens source
  pub columns : token_columns words ≡ source_columns source
  pub assembled : IsAssemblyOfWords (tokens_with_word_numbers 1 words) all
  pub told_words : map displayed_word_content told ≡ all_displayed_words source words all.programs.items

-- ---- what a source says of the cells of its chip

-- the note is of this cell of the node
abbrev pub is_source_of_cell : NodeId → ℕ → CellSource → Bool
is_source_of_cell node cell note = note.node.number == node.number && note.cell == cell

-- the note is of an instruction word of the node that this line begins
abbrev pub cell_begins_on_line : NodeId → ℕ → CellSource → Bool
cell_begins_on_line node line note = note.is_code && note.node.number == node.number && note.line == line

-- the name is one that the node has
abbrev pub is_label_of_node : NodeId → List ℕ → LabelAddress → Bool
is_label_of_node node text name = name.node.number == node.number && bytes_eq name.text.items text

abbrev pub cell_source_text : Option CellSource → List ℕ
cell_source_text (Some note) = note.text.items
cell_source_text None = []

-- what the first note of a cell says
abbrev pub text_of_first_source_of_cell : List CellSource → NodeId → Option ℕ → List ℕ
text_of_first_source_of_cell notes node (Some cell) = cell_source_text (option_and_then (slice_get notes) (position (is_source_of_cell node cell) notes))
text_of_first_source_of_cell notes node None = []

abbrev pub is_cell_source_truncated : Option CellSource → Bool
is_cell_source_truncated (Some note) = note.is_long
is_cell_source_truncated None = false

-- whether what the first note of a cell says ends before a word
abbrev pub is_first_source_of_cell_truncated : List CellSource → NodeId → Option ℕ → Bool
is_first_source_of_cell_truncated notes node (Some cell) = is_cell_source_truncated (option_and_then (slice_get notes) (position (is_source_of_cell node cell) notes))
is_first_source_of_cell_truncated notes node None = false

-- ---- words of slots

-- the slot whose word is shown: for a fetch, which has slot 4, the first
abbrev pub slot_or_first_for_fetch : ℕ → ℕ
slot_or_first_for_fetch slot = if nat_lt slot 4 then slot else 0

-- the word is that of the slot of a cell
abbrev pub is_word_of_slot : NodeId → ℕ → ℕ → DisplayedWord → Bool
is_word_of_slot node cell slot told =
    told.word.node.number == node.number && told.word.cell == cell && nat_le told.word.first (slot_or_first_for_fetch slot) && nat_le (slot_or_first_for_fetch slot) told.word.last

abbrev pub displayed_word_of_slot : List DisplayedWord → NodeId → ℕ → ℕ → Option DisplayedWord
displayed_word_of_slot told node cell slot = option_and_then (slice_get told) (position (is_word_of_slot node cell slot) told)

abbrev pub source_word_in_slot : List DisplayedWord → NodeId → ℕ → ℕ → Option SlotWord
source_word_in_slot told node cell slot = option_map (λ (one : DisplayedWord). one.word) (displayed_word_of_slot told node cell slot)

abbrev pub displayed_word_text : Option DisplayedWord → List ℕ
displayed_word_text (Some told) = told.text.items
displayed_word_text None = []

-- what the word says of a slot
abbrev pub slot_text : List DisplayedWord → NodeId → Option ℕ → ℕ → List ℕ
slot_text told node (Some cell) slot = displayed_word_text (displayed_word_of_slot told node cell slot)
slot_text told node None slot = []

-- Of two words the one that comes first from a line on; of two on one line, the first in the order of the source.
abbrev pub is_earlier_slot_word_from_line : ℕ → Option SlotWord → SlotWord → Bool
is_earlier_slot_word_from_line line None word = word.is_code && nat_le line word.line
is_earlier_slot_word_from_line line (Some best) word = (word.is_code && nat_le line word.line) && nat_lt word.line best.line

abbrev pub earlier_slot_word_from_line : ℕ → Option SlotWord → SlotWord → Option SlotWord
earlier_slot_word_from_line line best word = if is_earlier_slot_word_from_line line best word then Some word else best

unfoldable pub first_slot_word_from_line : ℕ → Option SlotWord → List DisplayedWord → Option SlotWord
first_slot_word_from_line line best [] = best
first_slot_word_from_line line best (told ∷ rest) = first_slot_word_from_line line (earlier_slot_word_from_line line best told.word) rest

-- ---- addresses

-- the address of the first instruction word that a line begins
abbrev pub line_address : List CellSource → NodeId → ℕ → Option ℕ
line_address notes node line =
    option_map (λ (note : CellSource). note.address) (option_and_then (slice_get notes) (position (cell_begins_on_line node line) notes))

abbrev pub optional_label_address : Option LabelAddress → Option ℕ
optional_label_address found = option_map (λ (name : LabelAddress). name.address) found

-- the address of the first name that is this one of the node
abbrev pub label_address_of_node : List LabelAddress → NodeId → List ℕ → Option ℕ
label_address_of_node names node text = optional_label_address (option_and_then (slice_get names) (position (is_label_of_node node text) names))

-- ---- the notes of a source

-- The notes are those that the source and its programs give: the names of the labels, of each cell what the source says of it, of
-- each slot its word, and the expectations.
pub record IsDebugInfoOfSource (source : List ℕ) (programs : List Program) (notes : DebugInfo) : Type 0 where
  pub labels : map label_address_content notes.names.items ≡ all_label_addresses programs
  pub cells : map cell_source_content notes.notes.items ≡ debug_info_of_source source programs
  pub slots : AreSlotWords source notes.words.items
  pub expected : map expectation_content notes.expectations.items ≡ expectation_lines source
