-- What a step means for the answer to `step`.
use Rattle.std.proofs.Common.{◌≡◌, Result, Ok, Err, codes, ap, ◌∙◌, ◌⊎◌, inl, inr}
use Rattle.std.specs.Prelude.{IsOk}
use Rattle.ga_grid.specs.declared.node_id.NodeId.{NodeId}
use Rattle.ga_event.specs.declared.made.MadeEvent.{MadeEvent}
use Rattle.ga_event.specs.Next.{next_event_of_node}
use Rattle.ga_lab.specs.Machine.{MachineState, chip_of_machine, step_answer, state_after_step, state_unless_refused, machine_with_event}
use Rattle.ga_lab.specs.declared.fault.LabFault.{LabFault}
use Rattle.ga_lab.specs.declared.fault.LabFault.TheVariants.{Memory}
use Rattle.ga_explorer_json.specs.Refusals.{lab_refusal_json}
use Rattle.ga_explorer_json.specs.Changes.{step_answer_json, IsStepJson}

-- a right answer, or out of memory
abbrev IsAnswer : Result MadeEvent LabFault → Result MadeEvent LabFault → Type 0
IsAnswer result right = (result ≡ right) ⊎ ((result ≡ Err Memory) × IsOk right)

pub step_made : (s : MachineState) (node : NodeId) (new : MachineState) (made : MadeEvent) → IsAnswer (Ok made) (step_answer s node) → new ≡ state_after_step s node → IsStepJson s node new (step_answer_json (Ok made))
step_made s node new made (inl e) is = inl (ap step_answer_json e, is)
step_made s node new made (inr wrong) is = absurd (let e = wrong.0 in cc)

pub step_refused : (s : MachineState) (node : NodeId) (new : MachineState) (why : LabFault) → IsAnswer (Err why) (step_answer s node) → new ≡ s
    → IsStepJson s node new (lab_refusal_json (codes "step") why)
step_refused s node new why (inl e) same =
    inl (ap step_answer_json e, same ∙ ap (λ (r : Result MadeEvent LabFault). state_unless_refused s r (machine_with_event s (next_event_of_node (chip_of_machine s) node))) e)
step_refused s node new why (inr memory) same = inr (memory.1, ap step_answer_json memory.0, same)
