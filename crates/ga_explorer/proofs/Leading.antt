-- The lines of the kept events make them again.
use Rattle.std.proofs.Common.{◌≡◌, List, [], ◌∷◌, Ok, Err, refl, sym, ap, subst}
use Rattle.std.specs.Prelude.{Result, map}
use Rattle.ga_grid.specs.declared.node_id.NodeId.{NodeId}
use Rattle.ga_event.specs.declared.event.Event.{Event}
use Rattle.ga_event.specs.declared.made.MadeEvent.{MadeEvent}
use Rattle.ga_event.specs.Next.{next_event_of_node}
use Rattle.ga_lab.specs.Machine.{MachineState, chip_of_machine, step_answer, machine_with_event, state_unless_refused, state_after_step, own_or_writing_node, state_after_steps}
use Rattle.ga_lab.specs.declared.fault.LabFault.{LabFault}
use Rattle.ga_display.specs.declared.wording.RefusalWording.TheVariants.{Brief}
use Rattle.ga_console.specs.Replies.{brief_reply, step_reply}
use Rattle.ga_console.specs.declared.command.DebuggerCommand.TheVariants.{Step}
use Rattle.ga_explorer_text.specs.Saved.{saved_event_line}
use Rattle.ga_explorer.specs.Leading.{LinesLeadToState}

-- a reply to such a line makes the step
step_leads : (s : MachineState) (n : NodeId) → (brief_reply s (Step n)).1 ≡ state_after_step s n
step_leads s n = go (step_answer s n) refl
  where
    go : (a : Result MadeEvent LabFault) → step_answer s n ≡ a → (step_reply Brief s n a).1 ≡ state_after_step s n
    go (Ok m) is = refl
    go (Err why) is = sym (ap (λ (z : Result MadeEvent LabFault). state_unless_refused s z (machine_with_event s (next_event_of_node (chip_of_machine s) n))) is)

pub lines_lead : (s : MachineState) (events : List Event) → LinesLeadToState s (map saved_event_line events) (state_after_steps s (map own_or_writing_node events))
lines_lead s [] = refl
lines_lead s (e ∷ es) = (
  Step (own_or_writing_node e),
  refl,
  subst (λ z. LinesLeadToState z (map saved_event_line es) (state_after_steps (state_after_step s (own_or_writing_node e)) (map own_or_writing_node es))) (sym (step_leads s (own_or_writing_node e))) (lines_lead (state_after_step s (own_or_writing_node e)) es),
)
