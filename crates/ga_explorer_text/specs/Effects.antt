-- The texts of `effects`: what a rollback would remove, with what the source has for it (docs/REFERENCE.md, "Exploring"; this
-- project's own).
use Rattle.std.specs.Prelude.{◌≡◌, ℕ, ◌⊎◌, List, ◌++◌, length, flat_map, codes, decimal, Option, Result, Ok, Err, IsOk}
use Rattle.ga_text.specs.Lines.{Text}
use Rattle.ga_text.specs.Digits.{step_text}
use Rattle.ga_grid.specs.declared.node_id.NodeId.{NodeId}
use Rattle.ga_event.specs.Told.{count_steps}
use Rattle.ga_lab.specs.Machine.{MachineState, rewind_answer}
use Rattle.ga_lab.specs.declared.fault.LabFault.{LabFault}
use Rattle.ga_lab.specs.declared.fault.LabFault.TheVariants.{Memory}
use Rattle.ga_scheduler.specs.Effects.{rollback_effects}
use Rattle.ga_scheduler.specs.declared.effects.RollbackEffect.{RollbackEffect}
use Rattle.ga_display.specs.Texts.{advised_refusal_text, advised_step_refusal_text}
use Rattle.ga_debug_info.specs.declared.notes.DebugInfo.{DebugInfo}
use Rattle.ga_explorer_text.specs.SourceSuffix.{step_suffix_text}

-- what would go of a node: its first step that would, and how many would
abbrev pub rollback_effect_summary_text : RollbackEffect → Text
rollback_effect_summary_text effect = step_text effect.node effect.first ++ codes " " ++ decimal effect.steps

-- its line, which the source of its first step that would go ends
abbrev pub rollback_effect_text : Option DebugInfo → MachineState → RollbackEffect → Text
rollback_effect_text notes s effect = rollback_effect_summary_text effect ++ step_suffix_text notes s effect.node effect.first

-- how many events would go, and of how many nodes
abbrev pub rollback_effects_head_line : ℕ → ℕ → Text
rollback_effects_head_line events nodes = codes "effects " ++ decimal events ++ codes " " ++ decimal nodes ++ codes "\n"

abbrev pub rollback_effects_text : Option DebugInfo → MachineState → ℕ → List RollbackEffect → Text
rollback_effects_text notes s events effects = rollback_effects_head_line events (length effects) ++ flat_map (rollback_effect_text notes s) effects

-- the text about a rollback, by what `rewind` would answer
abbrev pub rollback_effects_answer_text : Option DebugInfo → MachineState → NodeId → List RollbackEffect → Result ℕ LabFault → Text
rollback_effects_answer_text notes s node effects (Ok events) = rollback_effects_text notes s events effects
rollback_effects_answer_text notes s node effects (Err why) = advised_step_refusal_text node (count_steps node.number s.kept) why

-- The answer is what a rollback would remove, or out of memory if one is possible.
abbrev pub IsRollbackEffectsAnswer : Option DebugInfo → MachineState → NodeId → ℕ → Text → Type 0
IsRollbackEffectsAnswer notes s node step answer =
    (answer ≡ rollback_effects_answer_text notes s node (rollback_effects s node.number step) (rewind_answer s node.number step))
    ⊎ (IsOk (rewind_answer s node.number step) × (answer ≡ advised_refusal_text Memory))
