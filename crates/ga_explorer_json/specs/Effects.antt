-- What `effects` answers, as a JSON value (docs/REFERENCE.md, "Exploring"; this project's own).
use Rattle.std.specs.Prelude.{◌≡◌, ℕ, pos, ◌⊎◌, List, [], ◌∷◌, ◌++◌, length, codes, Option, Result, Ok, Err, IsOk}
use Rattle.ga_grid.specs.declared.node_id.NodeId.{NodeId}
use Rattle.ga_event.specs.Told.{count_steps}
use Rattle.ga_lab.specs.Machine.{MachineState, rewind_answer}
use Rattle.ga_lab.specs.declared.fault.LabFault.{LabFault}
use Rattle.ga_lab.specs.declared.fault.LabFault.TheVariants.{Memory}
use Rattle.ga_scheduler.specs.Effects.{rollback_effects}
use Rattle.ga_scheduler.specs.declared.effects.RollbackEffect.{RollbackEffect}
use Rattle.ga_debug_info.specs.declared.notes.DebugInfo.{DebugInfo}
use Rattle.ga_text.specs.Digits.{name_of_node}
use Rattle.ga_json.specs.Values.{JsonValue, number, string}
use Rattle.ga_json.specs.Fields.{NamedValue, json_object, json_report}
use Rattle.ga_explorer_json.specs.Refusals.{lab_refusal_json, refusal_json_about_step}
use Rattle.ga_explorer_json.specs.Rows.{json_rows_of_items}
use Rattle.ga_explorer_json.specs.Source.{step_source_fields}

-- what would go of a node: its first step that would, and how many would
abbrev pub rollback_effect_fields : RollbackEffect → List NamedValue
rollback_effect_fields effect =
    (codes "node", string (name_of_node effect.node)) ∷ (codes "first_step", number (pos effect.first)) ∷ (codes "steps", number (pos effect.steps)) ∷ []

-- and what the source has for that step
abbrev pub rollback_effect_json : Option DebugInfo → MachineState → RollbackEffect → JsonValue
rollback_effect_json notes s effect = json_object (rollback_effect_fields effect ++ step_source_fields notes s effect.node effect.first)

-- the step, how many events would go, and of how many nodes
abbrev pub rollback_effects_head_fields : NodeId → ℕ → ℕ → ℕ → List NamedValue
rollback_effects_head_fields node step events nodes =
    (codes "command", string (codes "effects"))
    ∷ (codes "node", string (name_of_node node))
    ∷ (codes "step", number (pos step))
    ∷ (codes "events", number (pos events))
    ∷ (codes "nodes", number (pos nodes))
    ∷ []

abbrev pub listed_rollback_effects_json : Option DebugInfo → MachineState → NodeId → ℕ → ℕ → List RollbackEffect → JsonValue
listed_rollback_effects_json notes s node step events effects =
    json_report (rollback_effects_head_fields node step events (length effects)) (json_rows_of_items (rollback_effect_json notes s) effects)

-- the value about a rollback, by what `rewind` would answer
abbrev pub effects_json : Option DebugInfo → MachineState → NodeId → ℕ → List RollbackEffect → Result ℕ LabFault → JsonValue
effects_json notes s node step effects (Ok events) = listed_rollback_effects_json notes s node step events effects
effects_json notes s node step effects (Err why) = refusal_json_about_step (codes "effects") node (count_steps node.number s.kept) why

-- The answer is what a rollback would remove, or out of memory if one is possible.
abbrev pub IsRollbackEffectsJson : Option DebugInfo → MachineState → NodeId → ℕ → JsonValue → Type 0
IsRollbackEffectsJson notes s node step answer =
    (answer ≡ effects_json notes s node step (rollback_effects s node.number step) (rewind_answer s node.number step))
    ⊎ (IsOk (rewind_answer s node.number step) × (answer ≡ lab_refusal_json (codes "effects") Memory))
