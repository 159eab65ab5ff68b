-- Images: which lines describe which chip (docs/REFERENCE.md, "Images"; both formats are this project's own).
use Rattle.std.specs.Prelude.{◌≡◌, ℕ, ◌+◌, ◌<◌, ◌≤◌, nat_eq, Bool, false, if◌then◌else◌, List, [], ◌∷◌, ◌++◌, length, codes, map, flat_map}
use Rattle.std.specs.Cmp.Lexicographic.{pointwise}
use Rattle.std.specs.List.{AllByRecursion, IsDistinct}
use Rattle.ga_text.specs.Lines.{Line}
use Rattle.ga_node.specs.Record.{NodeState}
use Rattle.ga_node.specs.State.{node_with_value, wait_of_code}
use Rattle.ga_grid.specs.Grid.{default_chip, decimal_name_of_node}
use Rattle.ga_grid.specs.Chip.{node_at, chip_with_node}
use Rattle.ga_image.specs.declared.field.Field.{Field}
use Rattle.ga_image.specs.declared.field.Field.TheVariants.{Wait, Stop, Data, Return, Ram, Rom}
use Rattle.ga_image.specs.declared.field.Format.{Format}
use Rattle.ga_image.specs.declared.field.Format.TheVariants.{One, Two}
use Rattle.ga_node.specs.declared.wait.Wait.TheVariants.{Nothing}
use Rattle.ga_image.specs.Fields.{field_place, fields_with_words, greatest_field_word, field_number, run_state_at_load, run_state_after_words, is_inconsistent_run_state}
use Rattle.ga_image.specs.Spelling.{LineForm, Node, Words, End, IsTextInFormat}

-- the first line, which names the format
abbrev pub header_of_format : Format → Line
header_of_format One = codes "ga144 1"
header_of_format Two = codes "ga144 2"

-- a line is the header of this format
abbrev pub is_header_of_format : Line → Format → Bool
is_header_of_format text format = pointwise nat_eq text (header_of_format format)

-- the format of a header
abbrev pub format_of_header : Line → Format
format_of_header text = if is_header_of_format text One then One else Two

-- a block: its node, and its field lines, each with a field and the words for it and for those after it
pub record NodeBlock : Type 0 where
  pub node : ℕ
  pub field_lines : List (Field × List ℕ)

-- the form of a field line
abbrev pub field_line_form : Field × List ℕ → LineForm
field_line_form field_line = Words field_line.0 field_line.1

-- a block's lines
abbrev pub line_forms_of_block : NodeBlock → List LineForm
line_forms_of_block block = Node (decimal_name_of_node block.node) ∷ map field_line_form block.field_lines

-- the fields that lines give, each with its word
abbrev pub field_line_writes : List (Field × List ℕ) → List (Field × ℕ)
field_line_writes field_lines = flat_map (λ line. fields_with_words line.0 line.1) field_lines

-- whether `count` words from a field on stay within its stack or memory
abbrev pub IsRowWithinBank : Field → ℕ → Type 0
IsRowWithinBank (Data k) count = k + count ≤ 10
IsRowWithinBank (Return k) count = k + count ≤ 9
IsRowWithinBank (Ram cell) count = cell + count ≤ 64
IsRowWithinBank (Rom cell) count = cell + count ≤ 64
IsRowWithinBank _ count = Unit {0}

-- a field line: no cell is past the last, and no word past the greatest of its field
abbrev pub IsFieldLineInRange : Field × List ℕ → Type 0
IsFieldLineInRange field_line = IsRowWithinBank field_line.0 (length field_line.1) × AllByRecursion (λ word. word ≤ greatest_field_word field_line.0) field_line.1

-- a block of a node of the grid
pub record IsBlockOfGridNode (block : NodeBlock) : Type 0 where
  pub node : block.node < 144
  pub field_lines : AllByRecursion IsFieldLineInRange block.field_lines
  -- no field is given twice
  pub apart : IsDistinct nat_eq (map (λ w. field_number w.0) (field_line_writes block.field_lines))
  -- the wait, stop and slot that the block gives are consistent
  pub steady : is_inconsistent_run_state (run_state_after_words run_state_at_load (field_line_writes block.field_lines)) ≡ false

-- A node with another word in a field. A node that waits isn't stopped, and one that is stopped doesn't wait.
abbrev pub node_with_field_word : NodeState → Field → ℕ → NodeState
node_with_field_word node Wait code = record node { wait = wait_of_code code; stop = 0 }
node_with_field_word node Stop number = record node { stop = number; wait = Nothing }
node_with_field_word node field word = node_with_value node (field_place field) word

-- a chip with another word in a field of a node
unfoldable pub chip_with_word : List NodeState → ℕ → Field × ℕ → List NodeState
chip_with_word chip node w = chip_with_node chip node (node_with_field_word (node_at chip node) w.0 w.1)

-- a chip with what a block gives, one word after the other
abbrev pub chip_with_words : ℕ → List NodeState → List (Field × ℕ) → List NodeState
chip_with_words node chip [] = chip
chip_with_words node chip (w ∷ ws) = chip_with_words node (chip_with_word chip node w) ws

-- a chip with what blocks give, one block after the other
abbrev pub chip_with_blocks : List NodeState → List NodeBlock → List NodeState
chip_with_blocks chip [] = chip
chip_with_blocks chip (block ∷ blocks) = chip_with_blocks (chip_with_words block.node chip (field_line_writes block.field_lines)) blocks

-- whether the lines are texts of these forms in the format, one each
abbrev pub AreLinesOfForms : Format → List Line → List LineForm → Type 0
AreLinesOfForms format [] [] = Unit {0}
AreLinesOfForms format (text ∷ texts) (line_form ∷ forms) = IsTextInFormat format text line_form × AreLinesOfForms format texts forms
AreLinesOfForms format [] (line_form ∷ forms) = ⊥
AreLinesOfForms format (text ∷ texts) [] = ⊥

-- The lines are the header, blocks and `end`; the chip has what the blocks give, and else its defaults.
pub record IsImage (texts : List Line) (chip : List NodeState) : Type 0 where
  pub format : Format
  pub lines : List Line
  pub blocks : List NodeBlock
  pub starts : texts ≡ header_of_format format ∷ lines
  pub spelled : AreLinesOfForms format lines (flat_map line_forms_of_block blocks ++ End ∷ [])
  pub each : AllByRecursion IsBlockOfGridNode blocks
  -- no node has two blocks
  pub apart : IsDistinct nat_eq (map (λ block. block.node) blocks)
  pub describes : chip ≡ chip_with_blocks default_chip blocks
