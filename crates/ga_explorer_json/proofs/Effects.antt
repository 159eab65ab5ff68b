-- What a call means for the answer to `effects`.
use Rattle.std.proofs.Common.{◌≡◌, ℕ, List, Option, Result, Ok, Err, codes, ap, sym, ◌∙◌, ◌⊎◌, inl, inr}
use Rattle.std.specs.Prelude.{IsOk}
use Rattle.ga_grid.specs.declared.node_id.NodeId.{NodeId}
use Rattle.ga_debug_info.specs.declared.notes.DebugInfo.{DebugInfo}
use Rattle.ga_event.specs.Told.{count_steps}
use Rattle.ga_lab.specs.Machine.{MachineState, rewind_answer}
use Rattle.ga_lab.specs.declared.fault.LabFault.{LabFault}
use Rattle.ga_lab.specs.declared.fault.LabFault.TheVariants.{Memory}
use Rattle.ga_scheduler.specs.Effects.{rollback_effects}
use Rattle.ga_scheduler.specs.declared.effects.RollbackEffect.{RollbackEffect}
use Rattle.ga_explorer_json.specs.Refusals.{refusal_json_about_step}
use Rattle.ga_explorer_json.specs.Effects.{listed_rollback_effects_json, effects_json, IsRollbackEffectsJson}

pub effects_found : (notes : Option DebugInfo) (s : MachineState) (node : NodeId) (step events : ℕ) (nodes : List RollbackEffect) → rewind_answer s node.number step ≡ Ok events
    → nodes ≡ rollback_effects s node.number step → IsRollbackEffectsJson notes s node step (listed_rollback_effects_json notes s node step events nodes)
effects_found notes s node step events nodes answer is =
    inl (ap (listed_rollback_effects_json notes s node step events) is ∙ ap (λ (r : Result ℕ LabFault). effects_json notes s node step (rollback_effects s node.number step) r) (sym answer))

pub effects_refused : (notes : Option DebugInfo) (s : MachineState) (node : NodeId) (step : ℕ) (why : LabFault)
    → (rewind_answer s node.number step ≡ Err why) ⊎ ((why ≡ Memory) × IsOk (rewind_answer s node.number step)) → IsRollbackEffectsJson notes s node step (refusal_json_about_step (codes "effects") node (count_steps node.number s.kept) why)
effects_refused notes s node step why (inl answer) =
    inl (ap (λ (r : Result ℕ LabFault). effects_json notes s node step (rollback_effects s node.number step) r) (sym answer))
effects_refused notes s node step why (inr memory) = inr (memory.1, ap (refusal_json_about_step (codes "effects") node (count_steps node.number s.kept)) memory.0)
