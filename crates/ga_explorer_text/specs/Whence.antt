-- The texts of `whence`: the steps whose values went into a value, the nearest first (docs/REFERENCE.md, "Exploring"; this
-- project's own).
use Rattle.std.specs.Prelude.{◌≡◌, ◌≤◌, ℕ, ◌+◌, ◌-◌, ◌%◌, ◌==◌, ◌&&◌, ◌⊎◌, min, Bool, true, false, nat_lt, not, ◌||◌, if◌then◌else◌, List, [], ◌∷◌, ◌++◌, length, drop, codes, decimal, Option, Some, None}
use Rattle.std.specs.List.{slice_get}
use Rattle.ga_text.specs.Lines.{Text}
use Rattle.ga_text.specs.Digits.{two_hex_digits_text, name_of_node, step_text}
use Rattle.ga_word.specs.Word.{hex_digits_of_word}
use Rattle.ga_grid.specs.declared.node_id.NodeId.{NodeId}
use Rattle.ga_event.specs.declared.made.MadeEvent.{MadeEvent}
use Rattle.ga_event.specs.declared.made.MadeEvent.TheVariants.{Own, Pass}
use Rattle.ga_event.specs.Told.{count_steps}
use Rattle.ga_event.specs.Flow.{node_part_value}
use Rattle.ga_lab.specs.Machine.{MachineState, has_step, history_of_node}
use Rattle.ga_lab.specs.declared.fault.LabFault.TheVariants.{Memory}
use Rattle.ga_node.specs.declared.kind.OwnEventKind.{OwnEventKind}
use Rattle.ga_node.specs.declared.kind.OwnEventKind.TheVariants as kind
use Rattle.ga_event.specs.declared.flow.part.NodePart.{NodePart}
use Rattle.ga_event.specs.declared.flow.part.NodePart.TheVariants as part
use Rattle.ga_provenance.specs.declared.value.PartValue.{PartValue}
use Rattle.ga_provenance.specs.declared.lines.ProvenanceLine.{ProvenanceLine}
use Rattle.ga_provenance.specs.Origins.{value_made_by_step, node_after_steps, origin_of_value}
use Rattle.ga_provenance.specs.Lines.{AreProvenanceLinesOf}
use Rattle.ga_provenance.specs.Asked.{queried_value}
use Rattle.ga_display.specs.Texts.{register_text, missing_step_text, advised_refusal_text}
use Rattle.ga_debug_info.specs.declared.notes.DebugInfo.{DebugInfo}
use Rattle.ga_explorer_text.specs.Deeds.{step_text_for_node}
use Rattle.ga_explorer_text.specs.SourceSuffix.{step_suffix_text, value_suffix_text}

-- how many lines of values an answer has at most
abbrev pub max_provenance_lines : ℕ
max_provenance_lines = 100

-- the name of a part: of a cell its address; T, S and R have letters of their own
abbrev pub data_stack_part_name : ℕ → Text
data_stack_part_name k = if k == 0 then codes "t" else if k == 1 then codes "s" else codes "d" ++ decimal k

abbrev pub return_stack_part_name : ℕ → Text
return_stack_part_name k = if k == 0 then codes "r" else codes "r" ++ decimal k

abbrev pub node_part_name : NodePart → Text
node_part_name (part.Data k) = data_stack_part_name k
node_part_name (part.Return k) = return_stack_part_name k
node_part_name (part.Ram k) = two_hex_digits_text k
node_part_name (part.Rom k) = two_hex_digits_text (128 + k % 64)
node_part_name part.A = codes "a"
node_part_name part.B = codes "b"
node_part_name part.P = codes "p"
node_part_name part.I = codes "i"
node_part_name part.Io = codes "io"
node_part_name part.Carry = codes "carry"
node_part_name part.Slot = codes "slot"
node_part_name part.Wait = codes "wait"
node_part_name part.Stop = codes "stop"
node_part_name part.OutsideWord = codes "outside"

-- The name of a part follows what a step did, but for T, the instruction word and a cell, which are implied.
abbrev pub part_name_suffix : NodePart → Text
part_name_suffix (part.Data k) = if k == 0 then [] else codes " " ++ data_stack_part_name k
part_name_suffix (part.Ram k) = []
part_name_suffix (part.Rom k) = []
part_name_suffix part.I = []
part_name_suffix at = codes " " ++ node_part_name at

-- what a step with this report did
abbrev pub step_event_text : Option MadeEvent → ℕ → Text
step_event_text None n = []
step_event_text (Some made) n = step_text_for_node made n

-- the step of a node, with what it did
abbrev pub step_action_text : MachineState → NodeId → ℕ → Text
step_action_text s node step = step_text node step ++ codes " " ++ step_event_text (slice_get (history_of_node s node.number) (step - 1)) node.number

-- the word of a value: the one in its part after its step, or after the last step of a node that made fewer
abbrev pub word_of_value : MachineState → PartValue → ℕ
word_of_value s value = node_part_value 0 (node_after_steps s value.node.number (min value.step (count_steps value.node.number s.kept))) value.part

-- A after the step of a value
abbrev pub register_a_after_making_step : MachineState → PartValue → ℕ
register_a_after_making_step s value = word_of_value s (value_made_by_step value.node value.step part.A)

-- the word that a step left in a part, where A was this after it: `+*` makes both T and A, and a transferred word, in T or the
-- instruction word, is in the text of the transfer
abbrev pub op_result_text : ℕ → NodePart → ℕ → ℕ → Text
op_result_text code (part.Data k) word a = if code == 16 && k == 0 then (codes " " ++ hex_digits_of_word word) ++ register_text (codes "a") a else codes " " ++ hex_digits_of_word word
op_result_text code at word a = codes " " ++ hex_digits_of_word word

abbrev pub own_event_result_text : OwnEventKind → NodePart → ℕ → ℕ → Text
own_event_result_text (kind.Run code) at word a = op_result_text code at word a
own_event_result_text what at word a = codes " " ++ hex_digits_of_word word

abbrev pub transfer_result_text : NodePart → ℕ → Text
transfer_result_text (part.Data k) word = if k == 0 then [] else codes " " ++ hex_digits_of_word word
transfer_result_text part.I word = []
transfer_result_text at word = codes " " ++ hex_digits_of_word word

abbrev pub step_result_text : Option MadeEvent → NodePart → ℕ → ℕ → Text
step_result_text (Some (Pass writer i reader j sent)) at word a = transfer_result_text at word
step_result_text (Some (Own node step what)) at word a = own_event_result_text what at word a
step_result_text None at word a = codes " " ++ hex_digits_of_word word

-- a value with this word, where A was this after its step: that it was loaded, or the step that made it
abbrev pub loaded_value_text : PartValue → ℕ → Text
loaded_value_text value word = name_of_node value.node ++ codes " load " ++ node_part_name value.part ++ (codes " " ++ hex_digits_of_word word)

abbrev pub value_with_word_text : MachineState → PartValue → ℕ → ℕ → Text
value_with_word_text s value word a =
    if value.step == 0 then loaded_value_text value word
    else step_action_text s value.node value.step ++ part_name_suffix value.part ++ step_result_text (slice_get (history_of_node s value.node.number) (value.step - 1)) value.part word a

abbrev pub value_origin_text : MachineState → PartValue → Text
value_origin_text s value = value_with_word_text s value (word_of_value s value) (register_a_after_making_step s value)

-- the queried value of a step, by the name of its part; the word that a step sent, T before it, is in the text of the transfer
abbrev pub queried_value_of_transfer_text : ℕ → PartValue → ℕ → Text
queried_value_of_transfer_text step value word = if value.step == step then register_text (node_part_name value.part) word else []

abbrev pub queried_value_text : Option MadeEvent → ℕ → PartValue → ℕ → Text
queried_value_text (Some (Pass writer i reader j sent)) step value word = queried_value_of_transfer_text step value word
queried_value_text (Some (Own node k what)) step value word = register_text (node_part_name value.part) word
queried_value_text None step value word = register_text (node_part_name value.part) word

-- the line of a value without numbers, two blanks deeper
abbrev pub indented_value_text : Option DebugInfo → MachineState → PartValue → Text
indented_value_text notes s value = (codes "  " ++ value_origin_text s value) ++ value_suffix_text notes s value

-- the number of a line, and that of the line that used its value
abbrev pub using_line_suffix : Option ℕ → Text
using_line_suffix None = []
using_line_suffix (Some user) = codes ">" ++ decimal user

abbrev pub value_line_numbers_text : ℕ → Option ℕ → Text
value_line_numbers_text number user = decimal number ++ using_line_suffix user ++ codes " "

-- how many values a run has, if more than one
abbrev pub value_run_count_text : ℕ → Text
value_run_count_text count = if nat_lt 1 count then codes " x" ++ decimal count else []

-- the step of the query alone, and as line 0 with the queried value
abbrev pub queried_step_text : Option DebugInfo → MachineState → NodeId → ℕ → Text
queried_step_text notes s node step = step_action_text s node step ++ step_suffix_text notes s node step

abbrev pub step_with_queried_value_text : MachineState → NodeId → ℕ → PartValue → Text
step_with_queried_value_text s node step value = value_line_numbers_text 0 None ++ step_action_text s node step ++ queried_value_text (slice_get (history_of_node s node.number) (step - 1)) step value (word_of_value s value)

abbrev pub queried_step_line : Option DebugInfo → MachineState → NodeId → ℕ → PartValue → Text
queried_step_line notes s node step value = step_with_queried_value_text s node step value ++ step_suffix_text notes s node step

-- The first line has a user, line 0, if another step than that of the query made the value.
abbrev pub using_line_number : Bool → ℕ → ℕ → Option ℕ
using_line_number moved number user = if moved || nat_lt 1 number then Some user else None

-- a line of a value, by its number
abbrev pub value_line_text : Option DebugInfo → MachineState → Bool → ℕ → ProvenanceLine → Text
value_line_text notes s moved number line =
    ((value_line_numbers_text number (using_line_number moved number line.user) ++ value_origin_text s line.value) ++ value_run_count_text line.count) ++ value_suffix_text notes s line.value

-- some lines, of which `k` come before
abbrev pub numbered_provenance_lines_text : Option DebugInfo → MachineState → Bool → ℕ → List ProvenanceLine → Text
numbered_provenance_lines_text notes s moved k [] = []
numbered_provenance_lines_text notes s moved k (line ∷ rest) = value_line_text notes s moved (k + 1) line ++ numbered_provenance_lines_text notes s moved (k + 1) rest

-- Line 0 is the step of the query, if another step made the value. It is written before line 1.
abbrev pub has_queried_step_line : Bool → ℕ → Bool
has_queried_step_line moved first = moved && (first == 1)

abbrev pub optional_queried_step_line : Option DebugInfo → MachineState → NodeId → ℕ → PartValue → Bool → Text
optional_queried_step_line notes s node step value written = if written then queried_step_line notes s node step value else []

-- the line after the lines: from where to go on, if these are not all, or that there are none
abbrev pub more_provenance_lines_text : ℕ → ℕ → Bool → Text
more_provenance_lines_text lines first true = if nat_lt lines first then codes "none\n" else []
more_provenance_lines_text lines first false = codes "more from " ++ decimal (lines + 1) ++ codes "\n"

-- the lines from one on, where another step than that of the query made the value, or not
abbrev pub provenance_lines_text_from : Option DebugInfo → MachineState → NodeId → ℕ → ℕ → PartValue → Bool → List ProvenanceLine → Text
provenance_lines_text_from notes s node step first value moved lines =
    optional_queried_step_line notes s node step value (has_queried_step_line moved first) ++ numbered_provenance_lines_text notes s moved (first - 1) (drop (first - 1) lines)

abbrev pub value_origin_lines_text : Option DebugInfo → MachineState → NodeId → ℕ → ℕ → PartValue → List ProvenanceLine → Text
value_origin_lines_text notes s node step first value lines = provenance_lines_text_from notes s node step first value (not ((origin_of_value s value).step == step)) lines

-- the number of the last line that is written: lines are numbered below 2^32
abbrev pub last_written_line_number : ℕ → ℕ
last_written_line_number first = min ((first - 1) + max_provenance_lines) 4294967295

-- The lines of the value are written from one on, all or as many as allowed; or an allocation failed.
pub record IsProvenanceLinesAnswer (notes : Option DebugInfo) (s : MachineState) (node : NodeId) (step first : ℕ) (value : PartValue) (answer : Text) : Type 0 where
  pub lines : List ProvenanceLine
  pub is_whole : Bool
  pub told : AreProvenanceLinesOf s value lines is_whole
  pub most : length lines ≤ last_written_line_number first
  pub cut : is_whole ≡ false → length lines ≡ last_written_line_number first
  pub text : answer ≡ value_origin_lines_text notes s node step first value lines ++ more_provenance_lines_text (length lines) first is_whole

-- the text about a step for which this value is queried; the step alone if it made none
abbrev pub IsStepOrProvenanceAnswer : Option DebugInfo → MachineState → NodeId → ℕ → ℕ → Option PartValue → Text → Type 0
IsStepOrProvenanceAnswer notes s node step first None answer = answer ≡ queried_step_text notes s node step
IsStepOrProvenanceAnswer notes s node step first (Some value) answer = (answer ≡ advised_refusal_text Memory) ⊎ IsProvenanceLinesAnswer notes s node step first value answer

-- the value of a part after a step, or the one that the step selects where no part is named
abbrev pub named_or_selected_part_value : MachineState → NodeId → ℕ → Option NodePart → Option PartValue
named_or_selected_part_value s node step None = queried_value s node step
named_or_selected_part_value s node step (Some at) = Some (value_made_by_step node step at)

abbrev pub IsValueOriginsAnswer : Option DebugInfo → MachineState → NodeId → ℕ → Option NodePart → ℕ → Text → Type 0
IsValueOriginsAnswer notes s node step at first answer =
    ((has_step s node.number step ≡ false) × (answer ≡ missing_step_text node (count_steps node.number s.kept)))
    ⊎ ((has_step s node.number step ≡ true) × IsStepOrProvenanceAnswer notes s node step first (named_or_selected_part_value s node step at) answer)
