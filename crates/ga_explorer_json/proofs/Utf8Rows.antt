-- The texts of refusals, and of the rows and fields of answers, are UTF-8.
use Rattle.std.proofs.Common.{ℕ, ◌%◌, [], ◌∷◌, ◌++◌, length, drop, true, codes, decimal, refl, arith}
use Rattle.std.specs.Prelude.{◌==◌, ◌&&◌, if◌then◌else◌, pos, Option, Some, None}
use Rattle.std.specs.Str.{IsUtf8, is_utf8}
use Rattle.std.proofs.lemmas.Bool.{cond_both, and_parts, agree_below_at}
use Rattle.std.proofs.lemmas.Str.{IsUtf8-append, IsUtf8-from_is_utf8}
use Rattle.ga_text.specs.Lines.{Text}
use Rattle.ga_text.specs.Digits.{name_of_node}
use Rattle.ga_slots.specs.Codes.{name_of_opcode, opcode_of_code}
use Rattle.ga_node.specs.declared.kind.OwnEventKind.{OwnEventKind}
use Rattle.ga_node.specs.declared.kind.OwnEventKind.TheVariants as kind
use Rattle.ga_grid.specs.declared.node_id.NodeId.{NodeId}
use Rattle.ga_event.specs.declared.made.MadeEvent.{MadeEvent}
use Rattle.ga_event.specs.declared.made.MadeEvent.TheVariants.{Own, Pass}
use Rattle.ga_event.specs.declared.flow.part.NodePart.{NodePart}
use Rattle.ga_event.specs.declared.flow.part.NodePart.TheVariants as part
use Rattle.ga_lab.specs.declared.fault.LabFault.{LabFault}
use Rattle.ga_lab.specs.declared.fault.LabFault.TheVariants.{Waiting, Stopped, Full, Memory, Empty, NoStep, EventNumbersSpent}
use Rattle.ga_display.specs.Texts.{advised_refusal_text, advised_step_refusal_text, missing_step_text, step_or_steps_word}
use Rattle.ga_lab.specs.Machine.{MachineState}
use Rattle.ga_debug_info.specs.declared.notes.DebugInfo.{DebugInfo}
use Rattle.ga_debug_info.specs.declared.wording.SlotWord.{SlotWord}
use Rattle.ga_provenance.specs.declared.value.PartValue.{PartValue}
use Rattle.ga_provenance.specs.Fetched.{fetched_cell}
use Rattle.ga_explorer_text.specs.SourceSuffix.{cell_note_text, slot_note_text, slot_before_step, cell_of_node_part}
use Rattle.ga_json.specs.Values.{null, number, string}
use Rattle.ga_json.specs.FieldValues.{joined_text_json}
use Rattle.ga_json.specs.Compact.{IsWritableValue}
use Rattle.ga_explorer_json.specs.Events.{own_event_fields, passed_word_fields, event_action_fields, made_event_fields}
use Rattle.ga_explorer_json.specs.Parts.{node_part_keyword, stack_place_or_cell_address, part_word_fields}
use Rattle.ga_explorer_json.specs.Refusals.{text_after_first_such_byte, text_before_first_such_byte, hint_of_refusal, refusal_json, lab_fault_code, lab_fault_keyword, lab_fault_hint, lab_refusal_json, refusal_json_about_step}
use Rattle.ga_explorer_json.specs.Source.{source_word, source_word_line_json, source_word_column_json, source_text_json, source_fields, step_source_fields, value_source_fields}
use Rattle.ga_explorer_json.proofs.Utf8Values.{IsLow, is_low, low, low_append, low_utf8, plain, decimal_low, name_low, node_name, optional_number, AreUtf8Fields, are_named, fields, fields_append, json_object_of_member}

-- ---- refusals

after_low : (byte : ℕ) (text : Text) → IsLow text → IsLow (text_after_first_such_byte byte text)
after_low byte [] h = tt
after_low byte (b ∷ text) h = cond_both (b == byte) text (text_after_first_such_byte byte text) IsLow (λ _. h.1) (λ _. after_low byte text h.1)

before_low : (byte : ℕ) (text : Text) → IsLow text → IsLow (text_before_first_such_byte byte text)
before_low byte [] h = tt
before_low byte (b ∷ text) h = cond_both (b == byte) [] (b ∷ text_before_first_such_byte byte text) IsLow (λ _. tt) (λ _. (h.0, before_low byte text h.1))

pub hint_utf8 : (line : Text) → IsLow line → IsUtf8 (hint_of_refusal line)
hint_utf8 line h = low_utf8 (hint_of_refusal line) (before_low 10 (text_after_first_such_byte 32 (text_after_first_such_byte 58 line)) (after_low 32 (text_after_first_such_byte 58 line) (after_low 58 line h)))

advice_low : (why : LabFault) → IsLow (advised_refusal_text why)
unfolding is_low
advice_low Waiting = low (advised_refusal_text Waiting) refl
advice_low Stopped = low (advised_refusal_text Stopped) refl
advice_low Full = low (advised_refusal_text Full) refl
advice_low Memory = low (advised_refusal_text Memory) refl
advice_low Empty = low (advised_refusal_text Empty) refl
advice_low NoStep = low (advised_refusal_text NoStep) refl
advice_low EventNumbersSpent = low (advised_refusal_text EventNumbersSpent) refl

steps_low : (count : ℕ) → IsLow (step_or_steps_word count)
unfolding is_low
steps_low count = cond_both (count == 1) (codes " step\n") (codes " steps\n") IsLow (λ _. low (codes " step\n") refl) (λ _. low (codes " steps\n") refl)

missing_low : (node : NodeId) (count : ℕ) → IsLow (missing_step_text node count)
unfolding is_low
missing_low node count =
    low_append (codes "no 6 nostep: ") (name_of_node node ++ codes " has " ++ decimal count ++ step_or_steps_word count) (low (codes "no 6 nostep: ") refl)
    (low_append (name_of_node node) (codes " has " ++ decimal count ++ step_or_steps_word count) (name_low node.number node.in_range)
    (low_append (codes " has ") (decimal count ++ step_or_steps_word count) (low (codes " has ") refl) (low_append (decimal count) (step_or_steps_word count) (decimal_low count) (steps_low count))))

step_advice_low : (node : NodeId) (count : ℕ) (why : LabFault) → IsLow (advised_step_refusal_text node count why)
step_advice_low node count Waiting = advice_low Waiting
step_advice_low node count Stopped = advice_low Stopped
step_advice_low node count Full = advice_low Full
step_advice_low node count Memory = advice_low Memory
step_advice_low node count Empty = advice_low Empty
step_advice_low node count NoStep = missing_low node count
step_advice_low node count EventNumbersSpent = advice_low EventNumbersSpent

pub fault_word_utf8 : (why : LabFault) → IsUtf8 (lab_fault_keyword why)
unfolding is_low
fault_word_utf8 Waiting = plain (codes "waiting") refl
fault_word_utf8 Stopped = plain (codes "stopped") refl
fault_word_utf8 Full = plain (codes "full") refl
fault_word_utf8 Memory = plain (codes "memory") refl
fault_word_utf8 Empty = plain (codes "empty") refl
fault_word_utf8 NoStep = plain (codes "nostep") refl
fault_word_utf8 EventNumbersSpent = plain (codes "spent") refl

pub fault_hint_utf8 : (why : LabFault) → IsUtf8 (lab_fault_hint why)
fault_hint_utf8 why = hint_utf8 (advised_refusal_text why) (advice_low why)

pub refusal : (command : Text) (code : ℕ) (why hint : Text) → IsUtf8 command → IsUtf8 why → IsUtf8 hint → IsWritableValue (refusal_json command code why hint)
unfolding is_low are_named
refusal command code why hint a b c = json_object_of_member
    ((codes "command", string command) ∷ (codes "refused", number (pos code)) ∷ (codes "why", string why) ∷ (codes "hint", string hint) ∷ [])
    (fields ((codes "command", string command) ∷ (codes "refused", number (pos code)) ∷ (codes "why", string why) ∷ (codes "hint", string hint) ∷ []) refl (a, (tt, (b, (c, tt)))))

pub lab_refusal : (command : Text) (why : LabFault) → IsUtf8 command → IsWritableValue (lab_refusal_json command why)
lab_refusal command why h = refusal command (lab_fault_code why) (lab_fault_keyword why) (lab_fault_hint why) h (fault_word_utf8 why) (fault_hint_utf8 why)

pub step_refusal : (command : Text) (node : NodeId) (count : ℕ) (why : LabFault) → IsUtf8 command → IsWritableValue (refusal_json_about_step command node count why)
step_refusal command node count why h =
    refusal command (lab_fault_code why) (lab_fault_keyword why) (hint_of_refusal (advised_step_refusal_text node count why)) h (fault_word_utf8 why)
    (hint_utf8 (advised_step_refusal_text node count why) (step_advice_low node count why))

-- ---- events

opcode_utf8 : (code : ℕ) → IsUtf8 (name_of_opcode (opcode_of_code (code % 32)))
unfolding is_low
opcode_utf8 code = plain (name_of_opcode (opcode_of_code (code % 32))) (agree_below_at (λ k. is_low (name_of_opcode (opcode_of_code k))) (λ k. true) 32 (code % 32) refl (omega arith))

own_event : (kind : OwnEventKind) → AreUtf8Fields (own_event_fields kind)
unfolding is_low are_named
own_event kind.Fetch = fields (own_event_fields kind.Fetch) refl (plain (codes "fetch") refl, tt)
own_event (kind.Run code) = fields (own_event_fields (kind.Run code)) refl (plain (codes "run") refl, (opcode_utf8 code, tt))
own_event kind.Wait = fields (own_event_fields kind.Wait) refl (plain (codes "wait") refl, tt)
own_event (kind.Stop n) = fields (own_event_fields (kind.Stop n)) refl (plain (codes "stop") refl, (tt, tt))

pass : (writer : NodeId) (i : ℕ) (reader : NodeId) (j word : ℕ) → AreUtf8Fields (passed_word_fields writer i reader j word)
unfolding is_low are_named
pass writer i reader j word = fields (passed_word_fields writer i reader j word) refl (plain (codes "pass") refl, (node_name writer, (tt, (node_name reader, (tt, (tt, tt))))))

pub action : (made : MadeEvent) → AreUtf8Fields (event_action_fields made)
action (Own node step kind) = own_event kind
action (Pass writer i reader j word) = pass writer i reader j word

pub made_event : (made : MadeEvent) → AreUtf8Fields (made_event_fields made)
unfolding is_low are_named
made_event (Own node step kind) =
    fields_append ((codes "node", string (name_of_node node)) ∷ (codes "step", number (pos step)) ∷ []) (own_event_fields kind)
    (fields ((codes "node", string (name_of_node node)) ∷ (codes "step", number (pos step)) ∷ []) refl (node_name node, (tt, tt))) (own_event kind)
made_event (Pass writer i reader j word) = pass writer i reader j word

-- ---- parts of a node

pub part_utf8 : (at : NodePart) → IsUtf8 (node_part_keyword at)
unfolding is_low
part_utf8 (part.Data k) =
    cond_both (k == 0) (codes "t") (if k == 1 then codes "s" else codes "d") IsUtf8 (λ _. plain (codes "t") refl)
    (λ _. cond_both (k == 1) (codes "s") (codes "d") IsUtf8 (λ _. plain (codes "s") refl) (λ _. plain (codes "d") refl))
part_utf8 (part.Return k) = plain (codes "r") refl
part_utf8 (part.Ram k) = plain (codes "ram") refl
part_utf8 (part.Rom k) = plain (codes "rom") refl
part_utf8 part.A = plain (codes "a") refl
part_utf8 part.B = plain (codes "b") refl
part_utf8 part.P = plain (codes "p") refl
part_utf8 part.I = plain (codes "i") refl
part_utf8 part.Io = plain (codes "io") refl
part_utf8 part.Carry = plain (codes "carry") refl
part_utf8 part.Slot = plain (codes "slot") refl
part_utf8 part.Wait = plain (codes "wait") refl
part_utf8 part.Stop = plain (codes "stop") refl
part_utf8 part.OutsideWord = plain (codes "outside") refl

pub value : (at : NodePart) (word : ℕ) → AreUtf8Fields (part_word_fields at word)
unfolding is_low are_named
value at word = fields (part_word_fields at word) refl (part_utf8 at, (optional_number (stack_place_or_cell_address at), (tt, tt)))

-- ---- the source of a step

line_number : (word : Option SlotWord) → IsWritableValue (source_word_line_json word)
line_number None = tt
line_number (Some word) = tt

column_number : (word : Option SlotWord) → IsWritableValue (source_word_column_json word)
column_number None = tt
column_number (Some word) = tt

joined_text : (front rest : Text) → IsWritableValue (joined_text_json front rest)
joined_text front rest =
    cond_both (is_utf8 front && is_utf8 rest) (string (front ++ rest)) null IsWritableValue
    (λ e. let parts = and_parts (is_utf8 front) (is_utf8 rest) e in IsUtf8-append front rest (IsUtf8-from_is_utf8 front parts.0) (IsUtf8-from_is_utf8 rest parts.1)) (λ _. tt)

source_text : (cell slot : Text) → IsWritableValue (source_text_json cell slot)
source_text cell slot = cond_both (length cell == 0) null (joined_text_json (drop 3 cell) slot) IsWritableValue (λ _. tt) (λ _. joined_text (drop 3 cell) slot)

pub cell_source : (notes : Option DebugInfo) (node : NodeId) (cell : Option ℕ) (slot : ℕ) → AreUtf8Fields (source_fields notes node cell slot)
unfolding is_low are_named
cell_source notes node cell slot =
    let word = source_word notes node cell slot in
    fields (source_fields notes node cell slot) refl
    (line_number word, (column_number word, (source_text (cell_note_text notes node cell) (slot_note_text notes node cell slot), tt)))

pub step_source : (notes : Option DebugInfo) (s : MachineState) (node : NodeId) (step : ℕ) → AreUtf8Fields (step_source_fields notes s node step)
step_source notes s node step = cell_source notes node (fetched_cell s node step) (slot_before_step s node step)

pub value_source : (notes : Option DebugInfo) (s : MachineState) (value : PartValue) → AreUtf8Fields (value_source_fields notes s value)
value_source notes s value =
    cond_both (value.step == 0) (source_fields notes value.node (cell_of_node_part value.part) 4) (step_source_fields notes s value.node value.step) AreUtf8Fields
    (λ _. cell_source notes value.node (cell_of_node_part value.part) 4) (λ _. step_source notes s value.node value.step)
