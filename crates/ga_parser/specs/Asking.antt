-- What the words of a node ask for, word by word (docs/REFERENCE.md, "Source"; the notation is this project's own).
use Rattle.std.specs.Prelude.{ℕ, ◌+◌, ◌%◌, nat_lt, Bool, true, false, ◌&&◌, not, is_none, if◌then◌else◌, List, [], ◌∷◌, ◌++◌, length, drop, slice_index_or, slice_set, codes, bytes_eq, Option, Some, None, option_map, Result, Ok, Err}
use Rattle.std.specs.Option.{option_map_or}
use Rattle.ga_slots.specs.declared.op.Op.{Op}
use Rattle.ga_slots.specs.declared.op.Op.TheVariants.{Jump, Call, Next as NextOp, Push}
use Rattle.ga_parser.specs.declared.scan.TokenKind.{TokenKind}
use Rattle.ga_parser.specs.declared.scan.TokenKind.TheVariants.{Word as WordKind, LongLine as LongLineKind, OpenComment as OpenCommentKind, NoNumber as NoNumberKind, MissingNameOrValue as MissingKind, NameTaken as TakenKind}
use Rattle.ga_parser.specs.declared.number.Number.{Number as NumberIn}
use Rattle.ga_parser.specs.declared.number.Number.TheVariants.{Of, OutOfRange, Nothing as NotANumber}
use Rattle.ga_parser.specs.declared.item.Operand.{Operand}
use Rattle.ga_parser.specs.declared.item.Operand.TheVariants.{Number, Label}
use Rattle.ga_parser.specs.declared.item.AssemblyItem.TheVariants.{Opcode, Literal, JumpToEarlierLabel, JumpToLaterLabel, Cell}
use Rattle.ga_parser.specs.declared.item.AssemblyRequest.{AssemblyRequest}
use Rattle.ga_parser.specs.declared.item.AssemblyRequest.TheVariants.{PlaceItem, Unext, MarkLabel, BeginNewCell, GoToAddress, Carry}
use Rattle.ga_parser.specs.declared.item.LocatedRequest.{LocatedRequest}
use Rattle.ga_parser.specs.declared.item.RegisterValue.{RegisterValue}
use Rattle.ga_parser.specs.declared.item.InitialRegisters.{InitialRegisters}
use Rattle.ga_parser.specs.declared.vocabulary.Control.{Control}
use Rattle.ga_parser.specs.declared.vocabulary.Control.TheVariants.{Begin, For, Again, Until, Next, NextAround, Unext as UnextWord, While, Repeat, If, Else, Then}
use Rattle.ga_parser.specs.declared.vocabulary.Directive.{Directive}
use Rattle.ga_parser.specs.declared.vocabulary.Directive.TheVariants.{Label as Labels, Address as GoesOn, Register as Gives, BeginNewCell as Fills, Carry as Carries}
use Rattle.ga_parser.specs.declared.vocabulary.Register.{Register as RegisterName}
use Rattle.ga_parser.specs.declared.vocabulary.Register.TheVariants.{P, A, B}
use Rattle.ga_parser.specs.declared.fault.NumberRange.{NumberRange}
use Rattle.ga_parser.specs.declared.fault.NumberRange.TheVariants.{Word as ToWord, Cell as ToCell}
use Rattle.ga_parser.specs.declared.draft.Expect.{Expect}
use Rattle.ga_parser.specs.declared.draft.Expect.TheVariants.{Word, Address, Name, Register, Nothing}
use Rattle.ga_parser.specs.declared.labels.Label.{Label as LabelRecord}
use Rattle.ga_parser.specs.declared.controls.Open.{Open}
use Rattle.ga_parser.specs.declared.controls.Open.TheVariants.{Loop, JumpToLaterLabel as JumpAhead}
use Rattle.ga_parser.specs.Saying.{TokenContent, has_bytes}
use Rattle.ga_parser.specs.Vocabulary.{has_prefix, number_spelled_by_word, opcode_of_word, control_of_word, directive_of_word, register_bound, register_range, is_reserved_word}
use Rattle.ga_parser.specs.Plain.{is_cell_address}

-- ---- what the words so far ask for

-- a label by its number: its name, empty where a control word made it, the line that names it first, and whether its place was met
pub record LabelContent : Type 0 where
  pub name : List ℕ
  pub line : ℕ
  pub is_marked : Bool

abbrev pub label_content : LabelRecord → LabelContent
label_content label = record { name = label.name.now; line = label.line; is_marked = label.is_marked }

pub record ParseState : Type 0 where
  -- what the next word is
  pub expect : Expect
  -- the requests with their lines
  pub asked : List LocatedRequest
  -- the labels in the order in which the words name them first
  pub labels : List LabelContent
  pub registers : InitialRegisters
  -- the open control words, the innermost first
  pub opened : List Open
  -- bit 9 of addresses from here on
  pub carries : Bool

-- the requests before the first word
abbrev pub initial_parse_state : ParseState
initial_parse_state = record {
  expect = Word;
  asked = [];
  labels = [];
  registers = record { p = None; a = None; b = None };
  opened = [];
  carries = false;
}

-- ---- words that are no source

pub data RefusalCause : Type 0 where
  LongLine : RefusalCause
  OpenComment : RefusalCause
  UnknownWord : List ℕ → RefusalCause
  NameTaken : RefusalCause
  MissingNameOrValue : RefusalCause
  NoNumber : RefusalCause
  LabelTwice : RefusalCause
  RegisterTwice : RefusalCause
  UnmatchedControlWord : RefusalCause
  Unclosed : RefusalCause
  -- a word that says no number which its place takes
  NoNumberHere : List ℕ → NumberRange → RefusalCause
  -- a fault that words alone don't have
  FaultBeyondWords : RefusalCause

-- a fault, and the line for which it is reported
pub record Refusal : Type 0 where
  pub line : ℕ
  pub wrong : RefusalCause

abbrev pub refusal_at_line : {X : Type 0} → ℕ → RefusalCause → Result X Refusal
refusal_at_line line wrong = Err (record { line = line; wrong = wrong })

infixl 10 ◌▷◌
abbrev pub ◌▷◌ : {X Y : Type 0} → Result X Refusal → (X → Result Y Refusal) → Result Y Refusal
Ok x ▷ f = f x
Err refusal ▷ f = Err refusal

-- ---- requests and labels

-- one request more
abbrev pub state_with_added_request : ParseState → ℕ → AssemblyRequest → ParseState
state_with_added_request now line request = record now { asked = now.asked ++ record { line = line; request = request } ∷ [] }

-- the number of the first label with this name, where words named it before; an empty name is no label's
unfoldable pub known_label_number : List LabelContent → List ℕ → Option ℕ
known_label_number [] name = None
known_label_number (label ∷ labels) name = if has_bytes name && bytes_eq label.name name then Some 0 else option_map (λ k. k + 1) (known_label_number labels name)

-- the label's number, which is the next one where it is new
abbrev pub label_number : List LabelContent → List ℕ → ℕ
label_number labels name = option_map_or (λ k. k) (known_label_number labels name) (length labels)

-- the labels with one more
abbrev pub labels_with_added_label : List LabelContent → ℕ → List ℕ → Bool → List LabelContent
labels_with_added_label labels line name is_marked = labels ++ record { name = name; line = line; is_marked = is_marked } ∷ []

-- the labels, with this one among them
abbrev pub labels_with_added_name : List LabelContent → ℕ → List ℕ → List LabelContent
labels_with_added_name labels line name = option_map_or (λ _. labels) (known_label_number labels name) (labels_with_added_label labels line name false)

-- the words name a label
abbrev pub state_with_mentioned_label : ParseState → ℕ → List ℕ → ParseState
state_with_mentioned_label now line name = record now { labels = labels_with_added_name now.labels line name }

abbrev pub label_with_number : List LabelContent → ℕ → LabelContent
label_with_number labels label = slice_index_or labels label (record { name = []; line = 0; is_marked = false })

-- the label has its place before
abbrev pub is_placed_label : List LabelContent → ℕ → Bool
is_placed_label labels label = (label_with_number labels label).is_marked

abbrev pub labels_with_marked_label : List LabelContent → ℕ → List LabelContent
labels_with_marked_label labels label = slice_set labels label (record (label_with_number labels label) { is_marked = true })

-- the label has its place here, and nowhere before
abbrev pub mark_label : ParseState → ℕ → ℕ → Result ParseState Refusal
mark_label now line label =
    if is_placed_label now.labels label then refusal_at_line line LabelTwice
    else Ok (state_with_added_request (record now { labels = labels_with_marked_label now.labels label }) line (MarkLabel label))

-- an opcode with the address of a label: back to an earlier one, or ahead
abbrev pub jump_to_label : ParseState → ℕ → Op → ℕ → ParseState
jump_to_label now line op label = state_with_added_request now line (PlaceItem (if is_placed_label now.labels label then JumpToEarlierLabel op label else JumpToLaterLabel op label))

-- ---- control words

-- a loop from here on
abbrev pub begin_loop : ParseState → ℕ → ParseState
begin_loop now line =
    record (state_with_added_request (record now { labels = labels_with_added_label now.labels line [] true }) line (MarkLabel (length now.labels))) { opened = Loop line (length now.labels) ∷ now.opened }

-- a jump ahead, open until its label has a place
abbrev pub begin_jump_ahead : ParseState → ℕ → Op → ParseState
begin_jump_ahead now line op =
    record (jump_to_label (record now { labels = labels_with_added_label now.labels line [] false }) line op (length now.labels)) { opened = JumpAhead line (length now.labels) ∷ now.opened }

-- the requests, with these control words open
abbrev pub state_with_open_words : ParseState → List Open → ParseState
state_with_open_words now opened = record now { opened = opened }

-- the innermost open word is a loop, which ends: its label
abbrev pub innermost_loop_label : ParseState → List Open → ℕ → Result (ℕ × ParseState) Refusal
innermost_loop_label now (Loop _ label ∷ around) line = Ok (label, state_with_open_words now around)
innermost_loop_label now (JumpAhead _ _ ∷ around) line = refusal_at_line line UnmatchedControlWord
innermost_loop_label now [] line = refusal_at_line line UnmatchedControlWord

abbrev pub end_loop : ParseState → ℕ → Result (ℕ × ParseState) Refusal
end_loop now line = innermost_loop_label now now.opened line

-- the innermost open word is a jump ahead, which ends: its label
abbrev pub innermost_ahead_label : ParseState → List Open → ℕ → Result (ℕ × ParseState) Refusal
innermost_ahead_label now (JumpAhead _ label ∷ around) line = Ok (label, state_with_open_words now around)
innermost_ahead_label now (Loop _ _ ∷ around) line = refusal_at_line line UnmatchedControlWord
innermost_ahead_label now [] line = refusal_at_line line UnmatchedControlWord

abbrev pub end_jump_ahead : ParseState → ℕ → Result (ℕ × ParseState) Refusal
end_jump_ahead now line = innermost_ahead_label now now.opened line

-- a loop is around the innermost open word, which stays open; the loop ends: its label
abbrev pub outer_loop_label : ParseState → List Open → ℕ → Result (ℕ × ParseState) Refusal
outer_loop_label now (innermost ∷ opened) line = end_loop (state_with_open_words now opened) line ▷ (λ end. Ok (end.0, state_with_open_words end.1 (innermost ∷ end.1.opened)))
outer_loop_label now [] line = refusal_at_line line UnmatchedControlWord

abbrev pub end_outer_loop : ParseState → ℕ → Result (ℕ × ParseState) Refusal
end_outer_loop now line = outer_loop_label now now.opened line

-- what a control word asks for
abbrev pub control_word_requests : ParseState → ℕ → Control → Result ParseState Refusal
control_word_requests now line Begin = Ok (begin_loop now line)
control_word_requests now line For = Ok (begin_loop (state_with_added_request now line (PlaceItem (Opcode Push))) line)
control_word_requests now line (If op) = Ok (begin_jump_ahead now line op)
control_word_requests now line Else = end_jump_ahead now line ▷ (λ end. mark_label (begin_jump_ahead end.1 line Jump) line end.0)
control_word_requests now line Then = end_jump_ahead now line ▷ (λ end. mark_label end.1 line end.0)
control_word_requests now line Again = end_loop now line ▷ (λ end. Ok (jump_to_label end.1 line Jump end.0))
control_word_requests now line (Until op) = end_loop now line ▷ (λ end. Ok (jump_to_label end.1 line op end.0))
control_word_requests now line Next = end_loop now line ▷ (λ end. Ok (jump_to_label end.1 line NextOp end.0))
control_word_requests now line NextAround = end_outer_loop now line ▷ (λ end. Ok (jump_to_label end.1 line NextOp end.0))
control_word_requests now line UnextWord = end_loop now line ▷ (λ end. Ok (state_with_added_request end.1 line (Unext end.0)))
control_word_requests now line (While op) = end_loop now line ▷ (λ end. Ok (state_with_open_words (begin_jump_ahead end.1 line op) (Loop line end.0 ∷ (begin_jump_ahead end.1 line op).opened)))
control_word_requests now line Repeat = end_loop now line ▷ (λ end. end_jump_ahead (jump_to_label end.1 line Jump end.0) line ▷ (λ out. mark_label out.1 line out.0))

-- ---- numbers and values

-- what a number asks for, where the word is one that is in range; a place takes numbers of this range
abbrev pub result_for_number_in_range : {X : Type 0} → NumberIn → ℕ → List ℕ → NumberRange → (ℕ → Result X Refusal) → Result X Refusal → Result X Refusal
result_for_number_in_range (Of n) line word range asks other = asks n
result_for_number_in_range OutOfRange line word range asks other = refusal_at_line line (NoNumberHere word range)
result_for_number_in_range NotANumber line word range asks other = other

-- the value of a word, if it has one: a number, a port, or, after an apostrophe, the address of a label
unfoldable pub value_of_word : ParseState → ℕ → List ℕ → Result (Option Operand × ParseState) Refusal
value_of_word now line word =
    if has_prefix word (codes "'") then
    (if has_bytes (drop 1 word) then Ok (Some (Label (label_number now.labels (drop 1 word))), state_with_mentioned_label now line (drop 1 word)) else refusal_at_line line MissingNameOrValue)
    else result_for_number_in_range (number_spelled_by_word word) line word ToWord (λ n. Ok (Some (Number n), now)) (Ok (None, now))

-- ---- words

-- `X ,`
abbrev pub data_cell_requests : ParseState → ℕ → Option Operand → Result ParseState Refusal
data_cell_requests now line (Some value) = Ok (state_with_added_request (record now { expect = Nothing }) line (PlaceItem (Cell value)))
data_cell_requests now line None = refusal_at_line line MissingNameOrValue

abbrev pub directive_requests : ParseState → ℕ → Directive → ParseState
directive_requests now line Labels = record now { expect = Name }
directive_requests now line GoesOn = record now { expect = Address }
directive_requests now line (Gives register) = record now { expect = Register register }
directive_requests now line Fills = state_with_added_request now line BeginNewCell
directive_requests now line (Carries is_set) = state_with_added_request (record now { carries = is_set }) line (Carry is_set)

-- `NAME`, or `NAME ;`
unfoldable pub call_label : ParseState → ℕ → List ℕ → List ℕ → Result ParseState Refusal
call_label now line name next =
    if is_reserved_word name then refusal_at_line line (UnknownWord name)
    else if bytes_eq next (codes ";") then Ok (jump_to_label (record (state_with_mentioned_label now line name) { expect = Nothing }) line Jump (label_number now.labels name))
    else Ok (jump_to_label (state_with_mentioned_label now line name) line Call (label_number now.labels name))

-- a literal, or else a label's name
abbrev pub value_or_call_requests : ParseState → ℕ → List ℕ → List ℕ → Option Operand → Result ParseState Refusal
value_or_call_requests now line word next (Some value) = Ok (state_with_added_request now line (PlaceItem (Literal value)))
value_or_call_requests now line word next None = call_label now line word next

-- a word that neither `,` nor a directive decides
abbrev pub opcode_control_or_value_requests : ParseState → ℕ → List ℕ → List ℕ → Option Op → Option Control → Result ParseState Refusal
opcode_control_or_value_requests now line word next (Some op) _ = Ok (state_with_added_request now line (PlaceItem (Opcode op)))
opcode_control_or_value_requests now line word next None (Some one) = control_word_requests now line one
opcode_control_or_value_requests now line word next None None = value_of_word now line word ▷ (λ said. value_or_call_requests said.1 line word next said.0)

-- a word without arguments, or one of a table
abbrev pub directive_or_word_requests : ParseState → ℕ → List ℕ → List ℕ → Option Directive → Result ParseState Refusal
directive_or_word_requests now line word next (Some one) = Ok (directive_requests now line one)
directive_or_word_requests now line word next None = opcode_control_or_value_requests now line word next (opcode_of_word word) (control_of_word word)

-- a word where any is allowed, and the word after it
unfoldable pub word_requests : ParseState → ℕ → List ℕ → List ℕ → Result ParseState Refusal
word_requests now line word next =
    if bytes_eq next (codes ",") then value_of_word now line word ▷ (λ said. data_cell_requests said.1 line said.0)
    else directive_or_word_requests now line word next (directive_of_word word)

-- `: NAME`
unfoldable pub label_name_requests : ParseState → ℕ → List ℕ → Result ParseState Refusal
label_name_requests now line name = if is_reserved_word name then refusal_at_line line NameTaken else mark_label (state_with_mentioned_label now line name) line (label_number now.labels name)

-- an address with this bit 9
abbrev pub address_with_carry_bit : Bool → ℕ → ℕ
address_with_carry_bit is_set address = (if is_set then 512 else 0) + address % 512

-- `org N`
unfoldable pub org_requests : ParseState → ℕ → List ℕ → Result ParseState Refusal
org_requests now line word =
    result_for_number_in_range (number_spelled_by_word word) line word ToCell (λ n. if is_cell_address n then Ok (state_with_added_request now line (GoToAddress (address_with_carry_bit now.carries n))) else refusal_at_line line (NoNumberHere word ToCell)) (refusal_at_line line MissingNameOrValue)

-- what a register is given
abbrev pub given_value_of_register : InitialRegisters → RegisterName → Option RegisterValue
given_value_of_register registers P = registers.p
given_value_of_register registers A = registers.a
given_value_of_register registers B = registers.b

abbrev pub registers_with_value : InitialRegisters → RegisterName → RegisterValue → InitialRegisters
registers_with_value registers P given = record registers { p = Some given }
registers_with_value registers A given = record registers { a = Some given }
registers_with_value registers B given = record registers { b = Some given }

-- the register is given this, and nothing before
abbrev pub set_register_once : ParseState → ℕ → RegisterName → Operand → Result ParseState Refusal
set_register_once now line register value =
    if is_none (given_value_of_register now.registers register) then Ok (record now { registers = registers_with_value now.registers register (record { line = line; value = value }) })
    else refusal_at_line line RegisterTwice

-- `/p X`, `/a X`, `/b X`
unfoldable pub register_requests : ParseState → ℕ → RegisterName → List ℕ → Result ParseState Refusal
register_requests now line register word =
    result_for_number_in_range (number_spelled_by_word word) line word (register_range register) (λ n. if nat_lt n (register_bound register) then set_register_once now line register (Number n) else refusal_at_line line (NoNumberHere word (register_range register)))
    (if is_reserved_word word then refusal_at_line line MissingNameOrValue else set_register_once (state_with_mentioned_label now line word) line register (Label (label_number now.labels word)))

-- a word by what is expected
abbrev pub expected_word_requests : ParseState → Expect → ℕ → List ℕ → List ℕ → Result ParseState Refusal
expected_word_requests now Word line word next = word_requests now line word next
expected_word_requests now Address line word next = org_requests now line word
expected_word_requests now Name line word next = label_name_requests now line word
expected_word_requests now (Register register) line word next = register_requests now line register word
expected_word_requests now Nothing line word next = Ok now

-- a token is a word, or the fault of a line
abbrev pub requests_if_token_is_word : TokenKind → ℕ → Result ParseState Refusal → Result ParseState Refusal
requests_if_token_is_word WordKind line asks = asks
requests_if_token_is_word LongLineKind line asks = refusal_at_line line LongLine
requests_if_token_is_word OpenCommentKind line asks = refusal_at_line line OpenComment
requests_if_token_is_word NoNumberKind line asks = refusal_at_line line NoNumber
requests_if_token_is_word MissingKind line asks = refusal_at_line line MissingNameOrValue
requests_if_token_is_word TakenKind line asks = refusal_at_line line NameTaken

-- what words ask for with one word more
abbrev pub parse_one_word : ParseState → TokenContent → List ℕ → Result ParseState Refusal
parse_one_word now said next = requests_if_token_is_word said.kind said.line (expected_word_requests (record now { expect = Word }) now.expect said.line said.text next)

-- ---- at the end

-- a word is missing
abbrev pub expects_operand : Expect → Bool
expects_operand Word = false
expects_operand Address = true
expects_operand Name = true
expects_operand (Register _) = true
expects_operand Nothing = false

-- the line of a control word
abbrev pub open_control_word_line : Open → ℕ
open_control_word_line (Loop line _) = line
open_control_word_line (JumpAhead line _) = line

-- no control word is open; otherwise the fault names the outermost one
unfoldable pub refuse_unclosed_word : ParseState → List Open → Result ParseState Refusal
refuse_unclosed_word now [] = Ok now
refuse_unclosed_word now (one ∷ []) = refusal_at_line (open_control_word_line one) Unclosed
refuse_unclosed_word now (one ∷ around) = refuse_unclosed_word now around

-- each name has a place; otherwise the fault names the first that has none
unfoldable pub refuse_unplaced_label : ParseState → List LabelContent → Result ParseState Refusal
refuse_unplaced_label now [] = Ok now
refuse_unplaced_label now (label ∷ labels) = if has_bytes label.name && not label.is_marked then refusal_at_line label.line (UnknownWord label.name) else refuse_unplaced_label now labels

abbrev pub finish_parse : ParseState → ℕ → Result ParseState Refusal
finish_parse now last =
    if expects_operand now.expect then refusal_at_line last MissingNameOrValue
    else refuse_unclosed_word now now.opened ▷ (λ closed. refuse_unplaced_label closed closed.labels)

-- ---- the words of a node

-- the text of the next word, empty where there is none
abbrev pub next_word_text : List TokenContent → List ℕ
next_word_text [] = []
next_word_text (said ∷ rest) = said.text

-- the requests of words after others, the last of which was on this line
unfoldable pub parse_words_from : ParseState → ℕ → List TokenContent → Result ParseState Refusal
parse_words_from now last [] = finish_parse now last
parse_words_from now last (said ∷ rest) = parse_one_word now said (next_word_text rest) ▷ (λ after. parse_words_from after said.line rest)

-- the requests of the words after a node's name, which is on this line
abbrev pub requests_of_words : ℕ → List TokenContent → Result ParseState Refusal
requests_of_words line words = parse_words_from initial_parse_state line words
