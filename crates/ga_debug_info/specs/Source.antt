-- What a source says of the cells that its programs give, and the names of their labels (docs/REFERENCE.md, "Exploring"; this project's
-- own). A cell is 0 to 63 of RAM, 128 to 191 of ROM.
use Rattle.std.specs.Prelude.{ℕ, ◌+◌, ◌-◌, ◌*◌, ◌/◌, ◌%◌, nat_lt, zero, suc, Bool, true, false, if◌then◌else◌, List, [], ◌∷◌, ◌++◌, length, take, drop, slice_get, slice_index, slice_index_or, flat_map, codes, decimal, Option, Some, None, option_and_then}
use Rattle.std.specs.List.{prefix_len, suffix_len}
use Rattle.std.specs.Option.{option_or}
use Rattle.std.specs.Char.{is_ascii_whitespace}
use Rattle.ga_word.specs.Word.{hex_digit_at_place}
use Rattle.ga_ports.specs.declared.address.AddressTarget.{AddressTarget}
use Rattle.ga_ports.specs.declared.address.AddressTarget.TheVariants.{Ram, Rom}
use Rattle.ga_ports.specs.Address.{address_target, advanced_address}
use Rattle.ga_grid.specs.declared.node_id.NodeId.{NodeId}
use Rattle.ga_parser.specs.declared.labels.Label.{Label}
use Rattle.ga_parser.specs.declared.item.AssemblyItem.{AssemblyItem}
use Rattle.ga_parser.specs.declared.item.AssemblyItem.TheVariants.{Literal, Cell}
use Rattle.ga_parser.specs.declared.item.AssemblyRequest.{AssemblyRequest}
use Rattle.ga_parser.specs.declared.item.AssemblyRequest.TheVariants.{MarkLabel}
use Rattle.ga_parser.specs.declared.item.LocatedRequest.{LocatedRequest}
use Rattle.ga_source.specs.declared.group.CellGroup.{CellGroup}
use Rattle.ga_source.specs.declared.program.Program.{Program}
use Rattle.ga_parser.specs.Saying.{source_lines, strip_byte_order_mark, has_bytes}
use Rattle.ga_source.specs.Reading.{are_equal_numbers, p_after_item}
use Rattle.ga_debug_info.specs.declared.notes.CellSource.{CellSource}
use Rattle.ga_debug_info.specs.declared.notes.LabelAddress.{LabelAddress}

-- ---- the names of labels

-- a label with a name: its node, its name, and P at the label
pub record LabelAddressContent : Type 0 where
  pub node : NodeId
  pub text : List ℕ
  pub address : ℕ

abbrev pub label_address_content : LabelAddress → LabelAddressContent
label_address_content name = record { node = name.node; text = name.text.items; address = name.address }

-- a label, if it has a name and an address
abbrev pub label_address_if_named : NodeId → Label → Option ℕ → List LabelAddressContent
label_address_if_named node label (Some address) = if has_bytes label.name.now then record { node = node; text = label.name.now; address = address } ∷ [] else []
label_address_if_named node label None = []

-- the names among labels with these addresses, in order
unfoldable pub addresses_of_named_labels : NodeId → List Label → List (Option ℕ) → List LabelAddressContent
addresses_of_named_labels node [] addresses = []
addresses_of_named_labels node (label ∷ labels) [] = []
addresses_of_named_labels node (label ∷ labels) (address ∷ addresses) = label_address_if_named node label address ++ addresses_of_named_labels node labels addresses

-- the names of the labels of a program, and of those of each of some programs, in order
abbrev pub program_label_addresses : Program → List LabelAddressContent
program_label_addresses program = addresses_of_named_labels program.node program.names.items program.labels.items

abbrev pub all_label_addresses : List Program → List LabelAddressContent
all_label_addresses programs = flat_map program_label_addresses programs

-- ---- the label of a cell

-- the cell that a target is, and that an address names
abbrev pub memory_cell_of_address_target : AddressTarget → Option ℕ
memory_cell_of_address_target (Ram k) = Some k
memory_cell_of_address_target (Rom k) = Some (128 + k)
memory_cell_of_address_target _ = None

abbrev pub cell_of_address : ℕ → Option ℕ
cell_of_address address = memory_cell_of_address_target (address_target address)

-- the name of a label by its number, empty where it has none
abbrev pub optional_label_name : Option Label → List ℕ
optional_label_name (Some label) = label.name.now
optional_label_name None = []

abbrev pub label_name : Program → ℕ → List ℕ
label_name program label = optional_label_name (slice_get program.names.items label)

-- the cell of a label that has a name
abbrev pub label_cell : Program → ℕ → Option ℕ
label_cell program label = if has_bytes (label_name program label) then option_and_then cell_of_address (slice_index_or program.labels.items label None) else None

-- the label that a request marks in the cell, where that has a name
abbrev pub label_marked_in_cell : Program → ℕ → AssemblyRequest → Option ℕ
label_marked_in_cell program cell (MarkLabel label) = if are_equal_numbers (label_cell program label) (Some cell) then Some label else None
label_marked_in_cell program cell _ = None

-- the label that requests mark last in the cell
unfoldable pub last_marked_label : Program → ℕ → List LocatedRequest → Option ℕ
last_marked_label program cell [] = None
last_marked_label program cell (asked ∷ rest) = option_or (last_marked_label program cell rest) (label_marked_in_cell program cell asked.request)

-- what is found at the nearest place, from `first + k` back to `first`
unfoldable pub result_at_nearest_place : (ℕ → Option ℕ) → ℕ → ℕ → Option ℕ
result_at_nearest_place found first zero = found first
result_at_nearest_place found first (suc k) = option_or (found (first + suc k)) (result_at_nearest_place found first k)

-- the last label at or before a cell, in the same memory
abbrev pub label_at_or_before : Program → ℕ → Option ℕ
label_at_or_before program cell = result_at_nearest_place (λ one. last_marked_label program one program.asked.items) (cell / 64 * 64) (cell % 64)

-- ---- the line of a cell

-- a text without white space at its ends
abbrev pub text_without_leading_space : List ℕ → List ℕ
text_without_leading_space text = drop (prefix_len is_ascii_whitespace text) text

abbrev pub text_without_trailing_space : List ℕ → List ℕ
text_without_trailing_space text = take (length text - suffix_len is_ascii_whitespace text) text

abbrev pub trimmed_text : List ℕ → List ℕ
trimmed_text text = text_without_trailing_space (text_without_leading_space text)

-- A line of the source by its number from 1 on, empty where there is none.
abbrev pub source_line_without_mark : List ℕ → ℕ → List ℕ
source_line_without_mark source line = strip_byte_order_mark line (slice_index_or (source_lines source) (line - 1) [])

-- A line of the source by its number, without white space at its ends. (A carriage return at its end is white space.)
abbrev pub trimmed_source_line : List ℕ → ℕ → List ℕ
trimmed_source_line source line = trimmed_text (source_line_without_mark source line)

-- the maximum length of a line that is shown whole; a longer one is shown from a word on
abbrev pub max_whole_line_bytes : ℕ
max_whole_line_bytes = 40

abbrev pub is_long_line : List ℕ → Bool
is_long_line text = nat_lt max_whole_line_bytes (length text)

-- ---- notes

-- the debug info of a cell of a node: P there, the line that gives it, whether it holds an instruction word, a text, and
-- whether that ends before a word
pub record CellSourceContent : Type 0 where
  pub node : NodeId
  pub cell : ℕ
  pub address : ℕ
  pub line : ℕ
  pub is_code : Bool
  pub is_long : Bool
  pub text : List ℕ

abbrev pub cell_source_content : CellSource → CellSourceContent
cell_source_content note = record { node = note.node; cell = note.cell; address = note.address; line = note.line; is_code = note.is_code; is_long = note.is_long; text = note.text.items }

-- an address in three hexadecimal digits
abbrev pub address_text : ℕ → List ℕ
address_text address = hex_digit_at_place address 2 ∷ hex_digit_at_place address 1 ∷ hex_digit_at_place address 0 ∷ []

-- the name of a label after a blank
abbrev pub space_and_label_name : Program → Option ℕ → List ℕ
space_and_label_name program (Some label) = codes " " ++ label_name program label
space_and_label_name program None = []

-- a line with its number, unless it is long
abbrev pub whole_line_text : List ℕ → ℕ → List ℕ
whole_line_text source line = if is_long_line (trimmed_source_line source line) then [] else decimal line ++ (codes ": " ++ trimmed_source_line source line)

-- ` \ `, the address, the label, and the line
abbrev pub cell_comment_text : List ℕ → Program → ℕ → Option ℕ → ℕ → List ℕ
cell_comment_text source program address label line =
    codes " \\ " ++ (address_text address ++ (space_and_label_name program label ++ (codes " " ++ whole_line_text source line)))

-- the debug info of a cell at an address
abbrev pub optional_cell_source : List ℕ → Program → Bool → ℕ → ℕ → Option ℕ → List CellSourceContent
optional_cell_source source program is_code line address (Some cell) =
    record {
      node = program.node;
      cell = cell;
      address = address;
      line = line;
      is_code = is_code;
      is_long = is_long_line (trimmed_source_line source line);
      text = cell_comment_text source program address (label_at_or_before program cell) line;
    } ∷ []
optional_cell_source source program is_code line address None = []

-- the note of the cell at an address, where it names one
abbrev pub cell_sources_at_address : List ℕ → Program → Bool → ℕ → ℕ → List CellSourceContent
cell_sources_at_address source program is_code address line = optional_cell_source source program is_code line address (cell_of_address address)

-- the items are those of an instruction word, and no cell of data
abbrev pub are_code_items : List AssemblyItem → Bool
are_code_items (Cell _ ∷ []) = false
are_code_items _ = true

-- the note of an item's literal, from P on
abbrev pub literal_cell_sources : List ℕ → Program → ℕ → AssemblyItem → ℕ → List CellSourceContent
literal_cell_sources source program p (Literal _) line = cell_sources_at_address source program false p line
literal_cell_sources source program p _ line = []

-- the entries of each item with its line, P after the literals before it, in order
unfoldable pub literal_entries : {X : Type 0} → (ℕ → AssemblyItem → ℕ → List X) → ℕ → List AssemblyItem → List ℕ → List X
literal_entries tell p [] lines = []
literal_entries tell p (item ∷ items) [] = []
literal_entries tell p (item ∷ items) (line ∷ lines) = tell p item line ++ literal_entries tell (p_after_item p item) items lines

-- the debug info of a group: of its own cell, by its first line, and of its literals after it
abbrev pub group_cell_sources : List ℕ → Program → CellGroup → List CellSourceContent
group_cell_sources source program group =
    cell_sources_at_address source program (are_code_items group.items.items) group.address (slice_index group.lines.items 0)
    ++ literal_entries (literal_cell_sources source program) (advanced_address group.address) group.items.items group.lines.items

-- the notes of a program, and of each of some programs, in order
abbrev pub program_cell_sources : List ℕ → Program → List CellSourceContent
program_cell_sources source program = flat_map (group_cell_sources source program) program.groups.items

abbrev pub debug_info_of_source : List ℕ → List Program → List CellSourceContent
debug_info_of_source source programs = flat_map (program_cell_sources source) programs
