-- What `at` answers, as a JSON value (docs/REFERENCE.md, "Exploring"; this project's own).
use Rattle.std.specs.Prelude.{ℕ, zero, suc, ◌+◌, ◌-◌, min, if◌then◌else◌, pos, List, [], ◌∷◌, ◌++◌, codes, Option, option_map}
use Rattle.std.specs.List.{slice_get}
use Rattle.ga_node.specs.Record.{NodeRecord}
use Rattle.ga_node.specs.Table.{register_t, register_s as second, register_r}
use Rattle.ga_grid.specs.declared.node_id.NodeId.{NodeId}
use Rattle.ga_event.specs.Told.{count_steps}
use Rattle.ga_event.specs.declared.made.MadeEvent.{MadeEvent}
use Rattle.ga_lab.specs.Machine.{MachineState, has_step, history_of_node}
use Rattle.ga_lab.specs.declared.fault.LabFault.TheVariants.{NoStep}
use Rattle.ga_provenance.specs.Origins.{node_after_steps}
use Rattle.ga_text.specs.Digits.{name_of_node}
use Rattle.ga_debug_info.specs.declared.notes.DebugInfo.{DebugInfo}
use Rattle.ga_json.specs.Values.{JsonValue, number, string, JsonItems, no_items}
use Rattle.ga_json.specs.Fields.{NamedValue, json_object, json_report}
use Rattle.ga_explorer_json.specs.Events.{event_action_fields}
use Rattle.ga_explorer_json.specs.Refusals.{refusal_json_about_step}
use Rattle.ga_explorer_json.specs.Rows.{rows_if_first_present}
use Rattle.ga_explorer_json.specs.Source.{step_source_fields}

-- the registers after a step: T, S, R, A, B and P
abbrev pub register_fields : NodeRecord → List NamedValue
register_fields node =
    (codes "t", number (pos (register_t node)))
    ∷ (codes "s", number (pos (second node)))
    ∷ (codes "r", number (pos (register_r node)))
    ∷ (codes "a", number (pos node.a))
    ∷ (codes "b", number (pos node.b))
    ∷ (codes "p", number (pos node.p))
    ∷ []

-- a step with this number and this report, and the node just after it
abbrev pub step_fields : ℕ → NodeRecord → MadeEvent → List NamedValue
step_fields step after made = ((codes "step", number (pos step)) ∷ event_action_fields made) ++ register_fields after

-- and what the source has for it
abbrev pub numbered_step_json : Option DebugInfo → MachineState → NodeId → ℕ → NodeRecord → MadeEvent → JsonValue
numbered_step_json notes s node step after made = json_object (step_fields step after made ++ step_source_fields notes s node step)

-- the step of this number of the node, if it exists
abbrev pub step_json_at : Option DebugInfo → MachineState → NodeId → ℕ → Option JsonValue
step_json_at notes s node step =
    option_map (numbered_step_json notes s node step (node_after_steps s node.number step)) (slice_get (history_of_node s node.number) (step - 1))

-- at most some steps of the node, from the step after the first `k` on
unfoldable pub step_rows : Option DebugInfo → MachineState → NodeId → ℕ → ℕ → JsonItems
step_rows notes s node k zero = no_items
step_rows notes s node k (suc more) = rows_if_first_present (step_json_at notes s node (k + 1)) (step_rows notes s node (k + 1) more)

abbrev pub steps_around_head_fields : NodeId → ℕ → List NamedValue
steps_around_head_fields node step = (codes "command", string (codes "at")) ∷ (codes "node", string (name_of_node node)) ∷ (codes "step", number (pos step)) ∷ []

-- the steps of a node up to `around` before and after one
abbrev pub step_rows_around : Option DebugInfo → MachineState → NodeId → ℕ → ℕ → JsonItems
step_rows_around notes s node step around =
    let first = step - 1 - around in step_rows notes s node first (min (step + around) (count_steps node.number s.kept) - first)

abbrev pub steps_around_json : Option DebugInfo → MachineState → NodeId → ℕ → ℕ → JsonValue
steps_around_json notes s node step around = json_report (steps_around_head_fields node step) (step_rows_around notes s node step around)

-- these, if the step exists
abbrev pub steps_around_answer_json : Option DebugInfo → MachineState → NodeId → ℕ → ℕ → JsonValue
steps_around_answer_json notes s node step around = if has_step s node.number step then steps_around_json notes s node step around else refusal_json_about_step (codes "at") node (count_steps node.number s.kept) NoStep
