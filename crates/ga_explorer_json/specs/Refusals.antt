-- Refused commands as JSON values (docs/REFERENCE.md, "Exploring"; this project's own).
use Rattle.std.specs.Prelude.{ℕ, pos, ◌==◌, if◌then◌else◌, [], ◌∷◌, codes}
use Rattle.ga_text.specs.Lines.{Text}
use Rattle.ga_lab.specs.declared.fault.LabFault.{LabFault}
use Rattle.ga_lab.specs.declared.fault.LabFault.TheVariants.{Waiting, Stopped, Full, Memory, Empty, NoStep, EventNumbersSpent}
use Rattle.ga_grid.specs.declared.node_id.NodeId.{NodeId}
use Rattle.ga_display.specs.Texts.{advised_refusal_text, advised_step_refusal_text}
use Rattle.ga_json.specs.Values.{JsonValue, number, string}
use Rattle.ga_json.specs.Fields.{json_object}

-- ---- the hint of a refusal

-- the text after the first of these bytes
abbrev pub text_after_first_such_byte : ℕ → Text → Text
text_after_first_such_byte byte [] = []
text_after_first_such_byte byte (b ∷ text) = if b == byte then text else text_after_first_such_byte byte text

-- the text before the first of these bytes
abbrev pub text_before_first_such_byte : ℕ → Text → Text
text_before_first_such_byte byte [] = []
text_before_first_such_byte byte (b ∷ text) = if b == byte then [] else b ∷ text_before_first_such_byte byte text

-- what the line of text of a refusal has after its colon and a blank
abbrev pub hint_of_refusal : Text → Text
hint_of_refusal line = text_before_first_such_byte 10 (text_after_first_such_byte 32 (text_after_first_such_byte 58 line))

-- ---- the objects

-- the command, and the number, the word and the hint of the refusal
abbrev pub refusal_json : Text → ℕ → Text → Text → JsonValue
refusal_json command code why hint =
    json_object ((codes "command", string command) ∷ (codes "refused", number (pos code)) ∷ (codes "why", string why) ∷ (codes "hint", string hint) ∷ [])

-- why a lab refused a call: the number and the word
abbrev pub lab_fault_code : LabFault → ℕ
lab_fault_code Waiting = 1
lab_fault_code Stopped = 2
lab_fault_code Full = 3
lab_fault_code Memory = 4
lab_fault_code Empty = 5
lab_fault_code NoStep = 6
lab_fault_code EventNumbersSpent = 7

abbrev pub lab_fault_keyword : LabFault → Text
lab_fault_keyword Waiting = codes "waiting"
lab_fault_keyword Stopped = codes "stopped"
lab_fault_keyword Full = codes "full"
lab_fault_keyword Memory = codes "memory"
lab_fault_keyword Empty = codes "empty"
lab_fault_keyword NoStep = codes "nostep"
lab_fault_keyword EventNumbersSpent = codes "spent"

abbrev pub lab_fault_hint : LabFault → Text
lab_fault_hint why = hint_of_refusal (advised_refusal_text why)

abbrev pub lab_refusal_json : Text → LabFault → JsonValue
lab_refusal_json command why = refusal_json command (lab_fault_code why) (lab_fault_keyword why) (lab_fault_hint why)

-- why a call about a step of a node that has `count` steps was refused
abbrev pub refusal_json_about_step : Text → NodeId → ℕ → LabFault → JsonValue
refusal_json_about_step command node count why = refusal_json command (lab_fault_code why) (lab_fault_keyword why) (hint_of_refusal (advised_step_refusal_text node count why))
