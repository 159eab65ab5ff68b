-- What `because` answers, as a JSON value (docs/REFERENCE.md, "Exploring"; this project's own).
use Rattle.std.specs.Prelude.{ℕ, zero, suc, ◌-◌, map, if◌then◌else◌, pos, List, [], ◌∷◌, ◌++◌, codes, Option, Some, None}
use Rattle.ga_grid.specs.declared.node_id.NodeId.{NodeId}
use Rattle.ga_event.specs.Told.{count_steps}
use Rattle.ga_lab.specs.Machine.{MachineState, has_step}
use Rattle.ga_lab.specs.declared.fault.LabFault.TheVariants.{NoStep}
use Rattle.ga_provenance.specs.declared.value.PartValue.{PartValue}
use Rattle.ga_provenance.specs.declared.deciding.BranchDecision.{BranchDecision}
use Rattle.ga_provenance.specs.Deciding.{newest_decision}
use Rattle.ga_debug_info.specs.declared.notes.DebugInfo.{DebugInfo}
use Rattle.ga_text.specs.Digits.{name_of_node}
use Rattle.ga_explorer_text.specs.Whence.{word_of_value, register_a_after_making_step}
use Rattle.ga_json.specs.Values.{JsonValue, boolean, number, string, JsonItems, no_items, item}
use Rattle.ga_json.specs.Fields.{NamedValue, json_object, json_report}
use Rattle.ga_explorer_json.specs.Events.{event_action_fields}
use Rattle.ga_explorer_json.specs.Parts.{json_number_or_null, json_number_unless_zero, part_word_fields}
use Rattle.ga_explorer_json.specs.Refusals.{refusal_json_about_step}
use Rattle.ga_explorer_json.specs.Source.{step_source_fields, value_source_fields, is_value_never_set}
use Rattle.ga_explorer_json.specs.Whence.{value_origin_fields, register_a_made_with_value}

-- fields of the value that was tested, under names of their own
abbrev pub source_prefixed_fields : List NamedValue → List NamedValue
source_prefixed_fields fields = map (λ (field : NamedValue). (codes "source_" ++ field.0, field.1)) fields

-- where a value was made, its word, A where the step made both, and whether nobody set it
abbrev pub value_node_and_step_fields : PartValue → List NamedValue
value_node_and_step_fields value = (codes "node", string (name_of_node value.node)) ∷ (codes "step", json_number_unless_zero value.step) ∷ []

abbrev pub tested_value_word_fields : Option DebugInfo → MachineState → PartValue → ℕ → ℕ → List NamedValue
tested_value_word_fields notes s value word a =
    part_word_fields value.part word ++ (codes "a", json_number_or_null (register_a_made_with_value s value a)) ∷ (codes "never_set", boolean (is_value_never_set notes value)) ∷ []

-- the step that made a value, as a line of `whence` has it
abbrev pub tested_value_provenance_fields : Option DebugInfo → MachineState → PartValue → ℕ → ℕ → List NamedValue
tested_value_provenance_fields notes s value word a =
    source_prefixed_fields (value_node_and_step_fields value) ++ source_prefixed_fields (value_origin_fields s value) ++ source_prefixed_fields (tested_value_word_fields notes s value word a) ++ source_prefixed_fields (value_source_fields notes s value)

-- a step that a value decided: its number, what it did, the part that was tested with the word there, and what the source has for the step
abbrev pub branch_decision_fields : Option DebugInfo → MachineState → NodeId → BranchDecision → List NamedValue
branch_decision_fields notes s node decision =
    ((codes "step", number (pos decision.step)) ∷ event_action_fields decision.made)
    ++ part_word_fields decision.tested.part decision.word
    ++ step_source_fields notes s node decision.step

-- and the step that made the value
abbrev pub decision_json : Option DebugInfo → MachineState → NodeId → BranchDecision → JsonValue
decision_json notes s node decision =
    json_object
    (branch_decision_fields notes s node decision
    ++ tested_value_provenance_fields notes s decision.source (word_of_value s decision.source) (register_a_after_making_step s decision.source))

-- the newest decision, and those before it
abbrev pub decision_and_older_rows : Option DebugInfo → MachineState → NodeId → (ℕ → JsonItems) → Option BranchDecision → JsonItems
decision_and_older_rows notes s node older None = no_items
decision_and_older_rows notes s node older (Some decision) = item (decision_json notes s node decision) (older (decision.step - 1))

-- at most some decisions among the first `k` steps of a node, the newest first
unfoldable pub decision_rows : Option DebugInfo → MachineState → NodeId → ℕ → ℕ → JsonItems
decision_rows notes s node zero k = no_items
decision_rows notes s node (suc more) k = decision_and_older_rows notes s node (decision_rows notes s node more) (newest_decision s node k)

abbrev pub decisions_head_fields : NodeId → ℕ → List NamedValue
decisions_head_fields node step = (codes "command", string (codes "because")) ∷ (codes "node", string (name_of_node node)) ∷ (codes "step", number (pos step)) ∷ []

-- the decisions before a step
abbrev pub decisions_json : Option DebugInfo → MachineState → NodeId → ℕ → ℕ → JsonValue
decisions_json notes s node step most = json_report (decisions_head_fields node step) (decision_rows notes s node most (step - 1))

-- these, if the step exists
abbrev pub decisions_answer_json : Option DebugInfo → MachineState → NodeId → ℕ → ℕ → JsonValue
decisions_answer_json notes s node step most = if has_step s node.number step then decisions_json notes s node step most else refusal_json_about_step (codes "because") node (count_steps node.number s.kept) NoStep
