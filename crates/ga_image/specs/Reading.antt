-- Reading an image line by line, up to the first fault (docs/REFERENCE.md, "Images"; this project's own).
use Rattle.ga_image.specs.declared.fault.ImageFaultCause.TheVariants as cause
use Rattle.std.specs.Prelude.{ℕ, Bool, List, ◌≡◌, ◌+◌, ◌⊎◌, nat_lt, true, false, ◌||◌, if◌then◌else◌, [], ◌∷◌, length, replicate, slice_index_or, slice_set, is_none, Option, Some, None, Result, Ok, Err}
use Rattle.ga_node.specs.Record.{NodeState}
use Rattle.ga_image.specs.declared.field.Format.{Format}
use Rattle.ga_image.specs.declared.field.RunState.{RunState}
use Rattle.ga_grid.specs.Grid.{default_chip, node_number_of_name}
use Rattle.ga_image.specs.declared.fault.ImageFaultCause.{ImageFaultCause}
use Rattle.ga_image.specs.declared.fault.ImageFault.{ImageFault}
use Rattle.ga_image.specs.declared.field.Field.{Field}
use Rattle.ga_image.specs.declared.field.Format.TheVariants.{One, Two}
use Rattle.ga_image.specs.Fields.{run_state_at_load, run_state_with_field_write, is_inconsistent_run_state, field_count, format_has_field, field_number, fields_with_words, row_exceeds_bank, has_too_great_word, has_repeated_field}
use Rattle.ga_image.specs.Spelling.{LineForm, Node, Words, End, line_form}
use Rattle.ga_text.specs.Lines.{Line, max_input_line}
use Rattle.ga_image.specs.Grammar.{is_header_of_format, format_of_header, chip_with_word}
use Rattle.ga_image.specs.FirstFault.{out_of_memory_fault}

-- ---- the state after the lines of an image, one after the other

-- What may come next: the header, a block or the end, a field of this node's block as well, or nothing.
pub data ImageReadStage : Type 0 where
  Header : ImageReadStage
  Open : ImageReadStage
  Block : ℕ → ImageReadStage
  Ended : ImageReadStage

-- the state after the lines so far
pub record ImageReadProgress : Type 0 where
  -- the format that the header names
  pub format : Format
  pub stage : ImageReadStage
  -- for each node by its number, whether it has a block
  pub blocks : List Bool
  -- for each field by its number, whether the last block gave it
  pub given : List Bool
  -- the wait, stop and slot of the last block's node
  pub held : RunState
  pub chip : List NodeState

-- no field
abbrev pub no_fields_given : List Bool
no_fields_given = replicate field_count false

-- what is known before the first line
unfoldable pub initial_read_progress : ImageReadProgress
initial_read_progress = record {
  format = One;
  stage = Header;
  blocks = replicate 144 false;
  given = no_fields_given;
  held = run_state_at_load;
  chip = default_chip;
}

-- the first line is a header
abbrev pub is_header : Line → Bool
is_header text = is_header_of_format text One || is_header_of_format text Two

-- the form of a line, if the format has it
abbrev pub form_if_allowed : Format → Option LineForm → Option LineForm
form_if_allowed format (Some (Words field words)) = if format_has_field format field then Some (Words field words) else None
form_if_allowed format other = other

abbrev pub form_in_format : Format → Line → Option LineForm
form_in_format format text = form_if_allowed format (line_form text)

-- whether the line has no form, is a field line before the first block, or comes after the end
abbrev pub is_misplaced_line : ImageReadStage → Option LineForm → Bool
is_misplaced_line Open (Some (Node decimal_name)) = false
is_misplaced_line Open (Some End) = false
is_misplaced_line (Block node) (Some line_form) = false
is_misplaced_line _ _ = true

-- the node has a block already
abbrev pub node_has_block : ImageReadProgress → Option ℕ → Bool
node_has_block progress (Some node) = slice_index_or progress.blocks node false
node_has_block progress None = false

-- the first of these tests that holds
abbrev pub first_true_cause : List (ImageFaultCause × Bool) → Option ImageFaultCause
first_true_cause [] = None
first_true_cause (test ∷ tests) = if test.1 then Some test.0 else first_true_cause tests

-- what may be wrong with a line that begins the block of a node, in the order in which it is answered
unfoldable pub node_line_fault : ImageReadProgress → ℕ → Option ImageFaultCause
node_line_fault progress decimal_name = first_true_cause (
    (cause.UnknownNode, is_none (node_number_of_name decimal_name))
    ∷ (cause.RepeatedNodeOrField, node_has_block progress (node_number_of_name decimal_name))
    ∷ [])

-- what may be wrong with a field line, in the order in which it is answered
unfoldable pub field_line_fault : ImageReadProgress → Field → List ℕ → Option ImageFaultCause
field_line_fault progress field words = first_true_cause (
    (cause.Place, row_exceeds_bank field (length words))
    ∷ (cause.WordOutOfRange, has_too_great_word field words)
    ∷ (cause.RepeatedNodeOrField, has_repeated_field progress.given (fields_with_words field words))
    ∷ [])

-- Whether the line ends a block whose wait, stop and slot are inconsistent.
abbrev pub ends_inconsistent_block : ImageReadStage → RunState → Option LineForm → Bool
ends_inconsistent_block (Block node) held (Some (Node decimal_name)) = is_inconsistent_run_state held
ends_inconsistent_block (Block node) held (Some End) = is_inconsistent_run_state held
ends_inconsistent_block _ held _ = false

-- the fault of a line that is allowed there, by its form
abbrev pub line_form_fault : ImageReadProgress → Option LineForm → Option ImageFaultCause
line_form_fault progress (Some (Node decimal_name)) = node_line_fault progress decimal_name
line_form_fault progress (Some (Words field words)) = field_line_fault progress field words
line_form_fault progress _ = None

-- the fault of a line after the first: the first of its faults in the order in which they are reported
abbrev pub fault_after_header : ImageReadProgress → Option LineForm → Option ImageFaultCause
fault_after_header progress line_form =
    if is_misplaced_line progress.stage line_form then Some cause.InvalidLine
    else if ends_inconsistent_block progress.stage progress.held line_form then Some cause.State
    else line_form_fault progress line_form

-- what may be wrong with a line that isn't too long, by what may come next
abbrev pub line_fault : ImageReadStage → ImageReadProgress → Line → Option ImageFaultCause
line_fault Header progress text = if is_header text then None else Some cause.WrongHeader
line_fault _ progress text = fault_after_header progress (form_in_format progress.format text)

-- The first fault of a line; that it is too long comes before all others.
unfoldable pub first_fault_of_line : ImageReadProgress → Line → Option ImageFaultCause
first_fault_of_line progress text = if nat_lt max_input_line (length text) then Some cause.LineTooLong else line_fault progress.stage progress text

-- the node whose block the next line may continue, or else 0
abbrev pub block_node_of_stage : ImageReadStage → ℕ
block_node_of_stage (Block node) = node
block_node_of_stage _ = 0

-- a word of the block is written
abbrev pub progress_after_field_write : ImageReadProgress → Field × ℕ → ImageReadProgress
progress_after_field_write progress w = record progress {
  given = slice_set progress.given (field_number w.0) true;
  held = run_state_with_field_write progress.held w;
  chip = chip_with_word progress.chip (block_node_of_stage progress.stage) w;
}

-- words of the block are written, one after the other
abbrev pub progress_with_field_writes : ImageReadProgress → List (Field × ℕ) → ImageReadProgress
progress_with_field_writes progress [] = progress
progress_with_field_writes progress (w ∷ ws) = progress_with_field_writes (progress_after_field_write progress w) ws

-- a block of the node begins
abbrev pub progress_with_block : ImageReadProgress → Option ℕ → ImageReadProgress
progress_with_block progress (Some node) = record progress {
  stage = Block node;
  blocks = slice_set progress.blocks node true;
  given = no_fields_given;
  held = run_state_at_load;
}
progress_with_block progress None = progress

-- the state after a line of a form that is allowed there
abbrev pub progress_after_line_form : ImageReadProgress → Option LineForm → ImageReadProgress
progress_after_line_form progress (Some (Node decimal_name)) = progress_with_block progress (node_number_of_name decimal_name)
progress_after_line_form progress (Some (Words field words)) = progress_with_field_writes progress (fields_with_words field words)
progress_after_line_form progress (Some End) = record progress { stage = Ended }
progress_after_line_form progress None = progress

-- what is known after a line at this stage
abbrev pub progress_after_line_at_stage : ImageReadStage → ImageReadProgress → Line → ImageReadProgress
progress_after_line_at_stage Header progress text = record progress { format = format_of_header text; stage = Open }
progress_after_line_at_stage _ progress text = progress_after_line_form progress (form_in_format progress.format text)

-- what is known after a line with no fault
unfoldable pub progress_after_line : ImageReadProgress → Line → ImageReadProgress
progress_after_line progress text = progress_after_line_at_stage progress.stage progress text

-- a line's fault, or what the lines after it give
abbrev pub fault_or_result : Option ImageFaultCause → ℕ → Result (List NodeState) ImageFault → Result (List NodeState) ImageFault
fault_or_result (Some cause) line others = Err (record { line = line; cause = cause })
fault_or_result None line others = others

-- what the end of the text gives
abbrev pub result_at_image_end : ImageReadStage → List NodeState → ℕ → Result (List NodeState) ImageFault
result_at_image_end Ended chip line = Ok chip
result_at_image_end _ chip line = Err (record { line = line; cause = cause.Truncated })

-- the chip, or the first fault with its line
unfoldable pub read_result_of_lines : ImageReadProgress → ℕ → List Line → Result (List NodeState) ImageFault
read_result_of_lines progress line [] = result_at_image_end progress.stage progress.chip line
read_result_of_lines progress line (text ∷ lines) = fault_or_result (first_fault_of_line progress text) line (read_result_of_lines (progress_after_line progress text) (line + 1) lines)

-- What a call returned is what reading gives, unless memory was refused.
abbrev pub IsReadResultUnlessOutOfMemory : Result (List NodeState) ImageFault → Result (List NodeState) ImageFault → Type 0
IsReadResultUnlessOutOfMemory (Ok chip) read = read ≡ Ok chip
IsReadResultUnlessOutOfMemory (Err fault) read = (fault ≡ out_of_memory_fault) ⊎ (read ≡ Err fault)
