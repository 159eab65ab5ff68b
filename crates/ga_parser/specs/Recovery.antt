-- What words of a node ask for of which some are at fault, and the faults of all (docs/REFERENCE.md, "Source"; this project's own).
use Rattle.std.specs.Prelude.{ℕ, ◌≡◌, Bool, true, false, ◌&&◌, not, if◌then◌else◌, List, [], ◌∷◌, ◌++◌, map, reverse, filter, codes, bytes_eq, Option, Some, None, Result, Ok, Err}
use Rattle.std.specs.List.{flat_map}
use Rattle.ga_parser.specs.declared.controls.Open.{Open}
use Rattle.ga_parser.specs.declared.fault.SourceFault.{SourceFault}
use Rattle.ga_parser.specs.declared.item.LocatedRequest.{LocatedRequest}
use Rattle.ga_parser.specs.declared.item.RegisterValue.{RegisterValue}
use Rattle.ga_parser.specs.declared.item.AssemblyItem.{AssemblyItem}
use Rattle.ga_parser.specs.declared.item.AssemblyItem.TheVariants.{Opcode, Literal, JumpToEarlierLabel, JumpToLaterLabel, Cell}
use Rattle.ga_parser.specs.declared.item.NodeRequests.{NodeRequests}
use Rattle.ga_parser.specs.declared.item.Operand.{Operand}
use Rattle.ga_parser.specs.declared.item.Operand.TheVariants.{Number, Label}
use Rattle.ga_parser.specs.declared.item.InitialRegisters.{InitialRegisters}
use Rattle.ga_parser.specs.declared.item.AssemblyRequest.{AssemblyRequest}
use Rattle.ga_parser.specs.declared.item.AssemblyRequest.TheVariants.{PlaceItem, Unext}
use Rattle.ga_parser.specs.declared.draft.Expect.{Expect}
use Rattle.ga_parser.specs.declared.draft.Expect.TheVariants.{Word}
use Rattle.ga_parser.specs.Asking.{ParseState, LabelContent, Refusal, initial_parse_state, parse_one_word, expects_operand, open_control_word_line, label_with_number, label_content, next_word_text}
use Rattle.ga_parser.specs.Asking.RefusalCause.{MissingNameOrValue, Unclosed, UnknownWord}
use Rattle.ga_parser.specs.Requests.{refusal_of_source_fault}
use Rattle.ga_parser.specs.Saying.{TokenContent, has_bytes}

-- ---- word by word: one that is refused is passed over

-- what the words so far ask for, the line of the last one, the refusals of those that were passed over, and whether the last one was
pub record Recovery : Type 0 where
  pub last : ℕ
  pub now : ParseState
  pub refused : List Refusal
  pub is_last_skipped : Bool

-- the word is passed over, with a directive that takes it
abbrev pub state_with_skipped_word : ParseState → ParseState
state_with_skipped_word now = record now { expect = Word }

-- what comes of a word: it is heard or refused
abbrev pub recovery_after_result : Recovery → ℕ → Result ParseState Refusal → Recovery
recovery_after_result so_far line (Ok after) = record { last = line; now = after; refused = so_far.refused; is_last_skipped = false }
recovery_after_result so_far line (Err refusal) = record { last = line; now = state_with_skipped_word so_far.now; refused = so_far.refused ++ refusal ∷ []; is_last_skipped = true }

abbrev pub is_comma : TokenContent → Bool
is_comma said = bytes_eq said.text (codes ",")

-- one more word, and the text of the next: a `,` after a skipped word is skipped with it
abbrev pub recover_next_word : Recovery → TokenContent → List ℕ → Recovery
recover_next_word so_far said next = if so_far.is_last_skipped && is_comma said then so_far else recovery_after_result so_far said.line (parse_one_word so_far.now said next)

unfoldable pub recover_words_from : Recovery → List TokenContent → Recovery
recover_words_from so_far [] = so_far
recover_words_from so_far (said ∷ rest) = recover_words_from (recover_next_word so_far said (next_word_text rest)) rest

-- before the words of a node, whose name is on this line
abbrev pub initial_recovery : ℕ → Recovery
initial_recovery line = record { last = line; now = initial_parse_state; refused = []; is_last_skipped = false }

-- all words after the name
abbrev pub recovery_of_words : ℕ → List TokenContent → Recovery
recovery_of_words line words = recover_words_from (initial_recovery line) words

-- ---- at the end: a word that is missing, control words that are open, and names that no place has

abbrev pub missing_word_refusals : ℕ → Expect → List Refusal
missing_word_refusals last expect = if expects_operand expect then record { line = last; wrong = MissingNameOrValue } ∷ [] else []

abbrev pub unclosed_word_refusal : Open → Refusal
unclosed_word_refusal one = record { line = open_control_word_line one; wrong = Unclosed }

-- the label of which a request or a register needs the place
abbrev pub operand_label : Operand → Option ℕ
operand_label (Number n) = None
operand_label (Label label) = Some label

abbrev pub item_label : AssemblyItem → Option ℕ
item_label (Opcode op) = None
item_label (Literal value) = operand_label value
item_label (JumpToEarlierLabel op label) = Some label
item_label (JumpToLaterLabel op label) = Some label
item_label (Cell value) = operand_label value

abbrev pub request_label : AssemblyRequest → Option ℕ
request_label (PlaceItem item) = item_label item
request_label (Unext label) = Some label
request_label _ = None

abbrev pub register_label : Option RegisterValue → Option ℕ
register_label (Some given) = operand_label given.value
register_label None = None

-- no label is needed, or it has its place
abbrev pub has_placed_label : List LabelContent → Option ℕ → Bool
has_placed_label labels (Some label) = (label_with_number labels label).is_marked
has_placed_label labels None = true

-- The word on this line names a label that has no place. If a control word made the label, the fault is that it is open.
abbrev pub unplaced_label_refusals : List LabelContent → ℕ → Option ℕ → List Refusal
unplaced_label_refusals labels line (Some label) =
    if not (label_with_number labels label).is_marked && has_bytes (label_with_number labels label).name then record { line = line; wrong = UnknownWord (label_with_number labels label).name } ∷ [] else []
unplaced_label_refusals labels line None = []

abbrev pub request_unplaced_label_refusals : List LabelContent → LocatedRequest → List Refusal
request_unplaced_label_refusals labels asked = unplaced_label_refusals labels asked.line (request_label asked.request)

abbrev pub register_unplaced_label_refusals : List LabelContent → Option RegisterValue → List Refusal
register_unplaced_label_refusals labels (Some given) = unplaced_label_refusals labels given.line (operand_label given.value)
register_unplaced_label_refusals labels None = []

-- all faults reported after the last word
abbrev pub refusals_after_last_word : ℕ → ParseState → List Refusal
refusals_after_last_word last now =
    missing_word_refusals last now.expect ++ map unclosed_word_refusal (reverse now.opened) ++ flat_map (request_unplaced_label_refusals now.labels) now.asked
    ++ register_unplaced_label_refusals now.labels now.registers.p ++ register_unplaced_label_refusals now.labels now.registers.a ++ register_unplaced_label_refusals now.labels now.registers.b

-- ---- what is left

abbrev pub is_request_label_placed : List LabelContent → LocatedRequest → Bool
is_request_label_placed labels asked = has_placed_label labels (request_label asked.request)

abbrev pub recovered_register_value : List LabelContent → Option RegisterValue → Option RegisterValue
recovered_register_value labels given = if has_placed_label labels (register_label given) then given else None

abbrev pub recovered_registers : List LabelContent → InitialRegisters → InitialRegisters
recovered_registers labels registers = record { p = recovered_register_value labels registers.p; a = recovered_register_value labels registers.a; b = recovered_register_value labels registers.b }

-- The requests are those of the words after a node's name on this line, without those at fault: neither skipped, nor with a
-- label that has no place. The faults are theirs, those of skipped words first.
pub record AreRecoveredRequests (line : ℕ) (words : List TokenContent) (requests : NodeRequests) (faults : List SourceFault) : Type 0 where
  pub asked : requests.asked.items ≡ filter (is_request_label_placed (recovery_of_words line words).now.labels) (recovery_of_words line words).now.asked
  pub names : map label_content requests.names.items ≡ (recovery_of_words line words).now.labels
  pub registers : requests.registers ≡ recovered_registers (recovery_of_words line words).now.labels (recovery_of_words line words).now.registers
  pub told : map refusal_of_source_fault faults ≡ (recovery_of_words line words).refused ++ refusals_after_last_word (recovery_of_words line words).last (recovery_of_words line words).now
