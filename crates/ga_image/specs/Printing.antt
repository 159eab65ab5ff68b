-- The text of a chip in format 2, a format of this project's own: for each node the values that differ from those at load. A
-- text that describes a chip, and the chips that a text in format 2 can describe.
use Rattle.std.specs.Prelude.{ℕ, ◌+◌, ◌^◌, ◌<◌, ◌==◌, if◌then◌else◌, List, [], ◌∷◌, ◌++◌, take, drop, slice_index, codes, map, flat_map, ◌≡◌, ◌≤◌, length}
use Rattle.std.specs.List.{AllByRecursion, list_all}
use Rattle.std.specs.Int.{from_bool}
use Rattle.ga_text.specs.Lines.{Text, Line}
use Rattle.ga_stacks.specs.Ring.{initial_stack_word}
use Rattle.ga_node.specs.Record.{NodeRecord, record_at_load_defaults, NodeState}
use Rattle.ga_node.specs.State.{wait_code}
use Rattle.ga_grid.specs.Grid.{initial_p_of_node}
use Rattle.ga_image.specs.declared.field.Field.{Field}
use Rattle.ga_image.specs.declared.field.Field.TheVariants.{A, B, P, I, Io, Carry, Slot, Wait, Stop, Data, Return, Ram, Rom}
use Rattle.ga_image.specs.declared.field.Format.TheVariants.{Two}
use Rattle.ga_image.specs.Spelling.{LineForm, Node, Words, End, field_name, field_numbers_text, field_code_text}
use Rattle.ga_text.specs.Digits.{three_decimal_digits}
use Rattle.ga_image.specs.Grammar.{header_of_format, NodeBlock, line_forms_of_block, IsImage}
use Rattle.ga_node.specs.declared.wait.Wait.{Wait as NodeWait}
use Rattle.ga_node.specs.declared.wait.Wait.TheVariants.{Nothing, Fetch, Read, Write}
use Rattle.ga_grid.specs.Chip.{records_of_chip}

-- ---- lines

-- a field line, with its digits in lower case
abbrev pub field_text : Field → List ℕ → Text
field_text Carry words = field_name Carry ++ field_code_text Carry (slice_index words 0)
field_text Slot words = field_name Slot ++ field_code_text Slot (slice_index words 0)
field_text Wait words = field_name Wait ++ field_code_text Wait (slice_index words 0)
field_text Stop words = field_name Stop ++ field_code_text Stop (slice_index words 0)
field_text field words = field_name field ++ field_numbers_text field words

-- the text of a line after the header
abbrev pub text_of_line_form : LineForm → Line
text_of_line_form (Node decimal_name) = codes "node " ++ three_decimal_digits decimal_name
text_of_line_form (Words field words) = field_text field words
text_of_line_form End = codes "end"

-- lines, each ended by a line feed
abbrev pub lines_text : List Line → Text
lines_text lines = flat_map (λ line. line ++ 10 ∷ []) lines

-- words of 18 bits
abbrev pub AreEighteenBitWords : List ℕ → Type 0
AreEighteenBitWords words = AllByRecursion (λ word. word < 2 ^ 18) words

-- ---- what is written of a node

-- the line of words for a field, unless each of them is the one at load
abbrev pub line_unless_default : ℕ → Field → List ℕ → List (Field × List ℕ)
line_unless_default at_load field words = if list_all (λ word. word == at_load) words then [] else (field, words) ∷ []

-- the line of one word
abbrev pub word_line_unless_default : ℕ → Field → ℕ → List (Field × List ℕ)
word_line_unless_default at_load field word = line_unless_default at_load field (word ∷ [])

-- A memory is written in rows of eight words, from each of these cells on.
abbrev pub row_start_cells : List ℕ
row_start_cells = 0 ∷ 8 ∷ 16 ∷ 24 ∷ 32 ∷ 40 ∷ 48 ∷ 56 ∷ []

abbrev pub row_of_words : List ℕ → ℕ → List ℕ
row_of_words memory cell = take 8 (drop cell memory)

-- the lines of the rows of a memory, whose cells are these fields and hold 0 at load
abbrev pub memory_lines : (ℕ → Field) → List ℕ → List (Field × List ℕ)
memory_lines field memory = flat_map (λ cell. line_unless_default 0 (field cell) (row_of_words memory cell)) row_start_cells

-- the lines of the registers that hold words
abbrev pub register_lines : NodeRecord → NodeRecord → List (Field × List ℕ)
register_lines fresh node =
    word_line_unless_default fresh.a A node.a
    ++ (word_line_unless_default fresh.b B node.b
    ++ (word_line_unless_default fresh.p P node.p
    ++ (word_line_unless_default fresh.i I node.i
    ++ word_line_unless_default fresh.io Io node.io)))

-- the lines of the carry and the slot, of the stacks, and of the wait and the stop
abbrev pub stack_and_run_state_lines : NodeRecord → NodeRecord → List (Field × List ℕ)
stack_and_run_state_lines fresh node =
    word_line_unless_default (from_bool fresh.carry) Carry (from_bool node.carry)
    ++ (word_line_unless_default fresh.slot Slot node.slot
    ++ (line_unless_default initial_stack_word (Data 0) node.d
    ++ (line_unless_default initial_stack_word (Return 0) node.r
    ++ (word_line_unless_default (wait_code fresh.wait) Wait (wait_code node.wait)
    ++ word_line_unless_default fresh.stop Stop node.stop))))

-- the lines of a node, which at load would be fresh
abbrev pub changed_lines_since_load : NodeRecord → NodeRecord → List (Field × List ℕ)
changed_lines_since_load fresh node =
    register_lines fresh node
    ++ (stack_and_run_state_lines fresh node
    ++ (memory_lines Ram node.ram
    ++ memory_lines Rom node.rom))

-- the lines of a node by its number
unfoldable pub changed_lines_of_node : ℕ → NodeRecord → List (Field × List ℕ)
changed_lines_of_node number node = changed_lines_since_load (record_at_load_defaults (initial_p_of_node number)) node

-- ---- the text of a chip

-- the block of a node, unless it has no lines
abbrev pub block_unless_empty : ℕ → List (Field × List ℕ) → List NodeBlock
block_unless_empty number [] = []
block_unless_empty number (line ∷ lines) = record { node = number; field_lines = line ∷ lines } ∷ []

-- the blocks of nodes from a number on
unfoldable pub blocks_from_node : ℕ → List NodeRecord → List NodeBlock
blocks_from_node number [] = []
blocks_from_node number (node ∷ nodes) = block_unless_empty number (changed_lines_of_node number node) ++ blocks_from_node (number + 1) nodes

-- the forms of the lines after the header
abbrev pub line_forms_after_header : List NodeRecord → List LineForm
line_forms_after_header nodes = flat_map line_forms_of_block (blocks_from_node 0 nodes) ++ End ∷ []

-- the whole text
unfoldable pub printed_image : List NodeRecord → Text
printed_image nodes = lines_text (header_of_format Two ∷ map text_of_line_form (line_forms_after_header nodes))

-- ---- a text that describes a chip, and the chips that it can describe

-- a set of sides that names one at least, where the node waits for one of a set
abbrev pub HasWaitSides : NodeWait → Type 0
HasWaitSides Nothing = Unit {0}
HasWaitSides (Fetch sides) = (0 < sides) × (sides < 16)
HasWaitSides (Read sides) = (0 < sides) × (sides < 16)
HasWaitSides (Write side) = Unit {0}

-- whether these are the words of a stack or a memory of this size
abbrev pub AreStackOrMemoryWords : ℕ → List ℕ → Type 0
AreStackOrMemoryWords size words = AreEighteenBitWords words × (length words ≡ size)

-- the ranges of the registers that hold words
pub record AreRegistersInRange (node : NodeRecord) : Type 0 where
  pub a : node.a < 2 ^ 18
  pub b : node.b < 2 ^ 9
  pub p : node.p < 2 ^ 10
  pub i : node.i < 2 ^ 18
  pub io : node.io < 2 ^ 18

-- the sizes and ranges of the slot, of the stacks, and of the wait and the stop
pub record AreStacksAndRunStateInRange (node : NodeRecord) : Type 0 where
  pub slot : node.slot ≤ 4
  pub d : AreStackOrMemoryWords 10 node.d
  pub r : AreStackOrMemoryWords 9 node.r
  pub wait : HasWaitSides node.wait
  pub stop : node.stop ≤ 3

-- sizes and ranges of all that a node holds
pub record IsRecordInRange (node : NodeRecord) : Type 0 where
  pub registers : AreRegistersInRange node
  pub state : AreStacksAndRunStateInRange node
  pub ram : AreStackOrMemoryWords 64 node.ram
  pub rom : AreStackOrMemoryWords 64 node.rom

-- each of 144 nodes is sound
pub record AreRecordsInRange (nodes : List NodeRecord) : Type 0 where
  pub size : length nodes ≡ 144
  pub each : AllByRecursion IsRecordInRange nodes

-- the lines are an image of a chip with these records
abbrev pub IsImageOfRecords : List Line → List NodeRecord → Type 0
IsImageOfRecords texts nodes = (chip : List NodeState) × IsImage texts chip × (records_of_chip chip ≡ nodes)
