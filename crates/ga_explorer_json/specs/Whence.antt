-- What `whence` answers, as a JSON value (docs/REFERENCE.md, "Causes"; this project's own).
use Rattle.std.specs.Prelude.{◌≡◌, ◌≤◌, ℕ, ◌+◌, ◌-◌, ◌==◌, ◌&&◌, ◌⊎◌, Bool, true, false, if◌then◌else◌, pos, List, [], ◌∷◌, ◌++◌, length, drop, codes, Option, Some, None}
use Rattle.std.specs.List.{slice_get}
use Rattle.ga_grid.specs.declared.node_id.NodeId.{NodeId}
use Rattle.ga_event.specs.Told.{count_steps}
use Rattle.ga_event.specs.declared.made.MadeEvent.{MadeEvent}
use Rattle.ga_event.specs.declared.made.MadeEvent.TheVariants.{Own, Pass}
use Rattle.ga_event.specs.declared.flow.part.NodePart.{NodePart}
use Rattle.ga_event.specs.declared.flow.part.NodePart.TheVariants as part
use Rattle.ga_node.specs.declared.kind.OwnEventKind.{OwnEventKind}
use Rattle.ga_node.specs.declared.kind.OwnEventKind.TheVariants as kind
use Rattle.ga_lab.specs.Machine.{MachineState, has_step, history_of_node}
use Rattle.ga_lab.specs.declared.fault.LabFault.TheVariants.{NoStep, Memory}
use Rattle.ga_provenance.specs.declared.value.PartValue.{PartValue}
use Rattle.ga_provenance.specs.declared.lines.ProvenanceLine.{ProvenanceLine}
use Rattle.ga_provenance.specs.Lines.{AreProvenanceLinesOf}
use Rattle.ga_debug_info.specs.declared.notes.DebugInfo.{DebugInfo}
use Rattle.ga_text.specs.Digits.{name_of_node}
use Rattle.ga_explorer_text.specs.Whence.{word_of_value, register_a_after_making_step, named_or_selected_part_value, last_written_line_number}
use Rattle.ga_json.specs.Values.{JsonValue, null, boolean, number, string, JsonItems, no_items, item}
use Rattle.ga_json.specs.Fields.{NamedValue, json_object, json_report}
use Rattle.ga_explorer_json.specs.Events.{event_action_fields}
use Rattle.ga_explorer_json.specs.Parts.{json_number_or_null, json_number_unless_zero, part_word_fields}
use Rattle.ga_explorer_json.specs.Refusals.{lab_refusal_json, refusal_json_about_step}
use Rattle.ga_explorer_json.specs.Source.{step_source_fields, value_source_fields, is_value_never_set}

-- no part
abbrev pub null_part_word_fields : List NamedValue
null_part_word_fields = (codes "part", null) ∷ (codes "index", null) ∷ (codes "value", null) ∷ []

-- what the step of a value did, or that it was loaded
abbrev pub optional_event_action_fields : Option MadeEvent → List NamedValue
optional_event_action_fields None = []
optional_event_action_fields (Some made) = event_action_fields made

abbrev pub step_action_fields : MachineState → NodeId → ℕ → List NamedValue
step_action_fields s node step = optional_event_action_fields (slice_get (history_of_node s node.number) (step - 1))

abbrev pub value_origin_fields : MachineState → PartValue → List NamedValue
value_origin_fields s value = if value.step == 0 then (codes "what", string (codes "load")) ∷ [] else step_action_fields s value.node value.step

-- A after `+*`, which makes both T and A, where the value is T
abbrev pub register_a_if_made_by_multiply_step : ℕ → NodePart → ℕ → Option ℕ
register_a_if_made_by_multiply_step code (part.Data k) a = if code == 16 && k == 0 then Some a else None
register_a_if_made_by_multiply_step code at a = None

abbrev pub register_a_if_made_by_own_event : OwnEventKind → NodePart → ℕ → Option ℕ
register_a_if_made_by_own_event (kind.Run code) at a = register_a_if_made_by_multiply_step code at a
register_a_if_made_by_own_event what at a = None

abbrev pub register_a_if_made_by_event : Option MadeEvent → NodePart → ℕ → Option ℕ
register_a_if_made_by_event (Some (Pass writer i reader j sent)) at a = None
register_a_if_made_by_event (Some (Own node step what)) at a = register_a_if_made_by_own_event what at a
register_a_if_made_by_event None at a = None

abbrev pub register_a_made_with_value : MachineState → PartValue → ℕ → Option ℕ
register_a_made_with_value s value a = if value.step == 0 then None else register_a_if_made_by_event (slice_get (history_of_node s value.node.number) (value.step - 1)) value.part a

-- a line: its number, that of the line that used its value, and the step that made the value
abbrev pub provenance_line_start_fields : ℕ → ProvenanceLine → List NamedValue
provenance_line_start_fields k line =
    (codes "number", number (pos k))
    ∷ (codes "user", number (pos line.user))
    ∷ (codes "node", string (name_of_node line.value.node))
    ∷ (codes "step", json_number_unless_zero line.value.step)
    ∷ []

-- the word of its value, and A where the step made both; how many values its run has; and whether nobody set it
abbrev pub provenance_line_value_fields : Option DebugInfo → MachineState → ProvenanceLine → ℕ → ℕ → List NamedValue
provenance_line_value_fields notes s line word a =
    part_word_fields line.value.part word
    ++ (codes "a", json_number_or_null (register_a_made_with_value s line.value a))
    ∷ (codes "count", number (pos line.count))
    ∷ (codes "never_set", boolean (is_value_never_set notes line.value))
    ∷ []

-- and what the source has for the value
abbrev pub provenance_line_fields : Option DebugInfo → MachineState → ℕ → ProvenanceLine → ℕ → ℕ → List NamedValue
provenance_line_fields notes s k line word a =
    provenance_line_start_fields k line ++ value_origin_fields s line.value ++ provenance_line_value_fields notes s line word a ++ value_source_fields notes s line.value

abbrev pub provenance_line_json : Option DebugInfo → MachineState → ℕ → ProvenanceLine → ℕ → ℕ → JsonValue
provenance_line_json notes s k line word a = json_object (provenance_line_fields notes s k line word a)

-- some lines, of which `k` come before
abbrev pub provenance_line_rows : Option DebugInfo → MachineState → ℕ → List ProvenanceLine → JsonItems
provenance_line_rows notes s k [] = no_items
provenance_line_rows notes s k (line ∷ rest) = item (provenance_line_json notes s (k + 1) line (word_of_value s line.value) (register_a_after_making_step s line.value)) (provenance_line_rows notes s (k + 1) rest)

-- The query with what its step did, the first line that is written, from which line to go on if these are not all, the queried value, and what the source
-- has for the step. So it has line 0, which is written where another step made the value.
abbrev pub provenance_head_fields : Option DebugInfo → MachineState → NodeId → ℕ → ℕ → List NamedValue → Option ℕ → List NamedValue
provenance_head_fields notes s node step first queried more =
    ((codes "command", string (codes "whence")) ∷ (codes "node", string (name_of_node node)) ∷ (codes "step", number (pos step)) ∷ [])
    ++ step_action_fields s node step
    ++ ((codes "first", number (pos first)) ∷ (codes "more_from", json_number_or_null more) ∷ [])
    ++ queried
    ++ step_source_fields notes s node step

-- the line from which to continue after these
abbrev pub next_provenance_line_number : ℕ → Bool → Option ℕ
next_provenance_line_number lines true = None
next_provenance_line_number lines false = Some (lines + 1)

-- the lines of a value from one on
abbrev pub provenance_lines_json : Option DebugInfo → MachineState → NodeId → ℕ → ℕ → PartValue → List ProvenanceLine → Bool → JsonValue
provenance_lines_json notes s node step first value lines is_whole =
    json_report (provenance_head_fields notes s node step first (part_word_fields value.part (word_of_value s value)) (next_provenance_line_number (length lines) is_whole))
    (provenance_line_rows notes s (first - 1) (drop (first - 1) lines))

-- no value is queried
abbrev pub no_provenance_lines_json : Option DebugInfo → MachineState → NodeId → ℕ → ℕ → JsonValue
no_provenance_lines_json notes s node step first = json_report (provenance_head_fields notes s node step first null_part_word_fields None) no_items

-- The lines of the value are written from one on, all or as many as allowed.
pub record IsProvenanceLinesJson (notes : Option DebugInfo) (s : MachineState) (node : NodeId) (step first : ℕ) (value : PartValue) (answer : JsonValue) : Type 0 where
  pub lines : List ProvenanceLine
  pub is_whole : Bool
  pub told : AreProvenanceLinesOf s value lines is_whole
  pub most : length lines ≤ last_written_line_number first
  pub cut : is_whole ≡ false → length lines ≡ last_written_line_number first
  pub json : answer ≡ provenance_lines_json notes s node step first value lines is_whole

-- the answer about a step for which this value is queried; or an allocation failed
abbrev pub IsQueriedValueJson : Option DebugInfo → MachineState → NodeId → ℕ → ℕ → Option PartValue → JsonValue → Type 0
IsQueriedValueJson notes s node step first None answer = answer ≡ no_provenance_lines_json notes s node step first
IsQueriedValueJson notes s node step first (Some value) answer = (answer ≡ lab_refusal_json (codes "whence") Memory) ⊎ IsProvenanceLinesJson notes s node step first value answer

abbrev pub IsProvenanceJson : Option DebugInfo → MachineState → NodeId → ℕ → Option NodePart → ℕ → JsonValue → Type 0
IsProvenanceJson notes s node step at first answer =
    ((has_step s node.number step ≡ false) × (answer ≡ refusal_json_about_step (codes "whence") node (count_steps node.number s.kept) NoStep))
    ⊎ ((has_step s node.number step ≡ true) × IsQueriedValueJson notes s node step first (named_or_selected_part_value s node step at) answer)
