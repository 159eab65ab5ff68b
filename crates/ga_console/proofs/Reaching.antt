-- The load of a session stays.
use Rattle.std.proofs.Common.{◌≡◌, ℕ, List, [], ◌∷◌, Result, Ok, Err, inl, inr, refl, ◌∙◌, ap}
use Rattle.ga_grid.specs.declared.node_id.NodeId.{NodeId}
use Rattle.ga_event.specs.Next.{next_event_of_node}
use Rattle.ga_event.specs.declared.made.MadeEvent.{MadeEvent}
use Rattle.ga_lab.specs.Machine.{MachineState, chip_of_machine, step_answer, machine_with_event, state_unless_refused, undo_answer, rewind_answer, state_after_rewind}
use Rattle.ga_lab.specs.declared.fault.LabFault.{LabFault}
use Rattle.ga_display.specs.declared.wording.RefusalWording.TheVariants.{Brief}
use Rattle.ga_console.specs.Replies.{Reply, IsCommandReply, IsBriefAnswer, brief_reply, step_reply, back_reply, rewind_reply, IsReachedByLines}
use Rattle.ga_console.specs.Replies.IsAnswerInWording.{long, command, syntax}
use Rattle.ga_console.specs.declared.command.DebuggerCommand.{DebuggerCommand}
use Rattle.ga_console.specs.declared.command.DebuggerCommand.TheVariants.{Step, Back, Rewind, Node, Memory, Trace, Why, Count, Dump, Quit}
use Rattle.ga_shared.proofs.Logs.{machine_with_event-load as event_load}

unless_load : (s : MachineState) (answer : Result MadeEvent LabFault) (new : MachineState) → new.load ≡ s.load → (state_unless_refused s answer new).load ≡ s.load
unless_load s (Ok made) new same = same
unless_load s (Err why) new same = refl

step_load : (s : MachineState) (node : NodeId) (answer : Result MadeEvent LabFault) → (step_reply Brief s node answer).1.load ≡ s.load
step_load s node (Ok made) = unless_load s (step_answer s node) (machine_with_event s (next_event_of_node (chip_of_machine s) node)) (event_load s (next_event_of_node (chip_of_machine s) node))
step_load s node (Err why) = refl

back_load : (s : MachineState) (answer : Result (Unit {0}) LabFault) → (back_reply Brief s answer).1.load ≡ s.load
back_load s (Ok done) = refl
back_load s (Err why) = refl

rewind_load : (s : MachineState) (node : NodeId) (k : ℕ) (answer : Result ℕ LabFault) → (rewind_reply Brief s node (state_after_rewind s node.number k) answer).1.load ≡ s.load
rewind_load s node k (Ok removed) = refl
rewind_load s node k (Err why) = refl

reply_load : (s : MachineState) (asked : DebuggerCommand) → (brief_reply s asked).1.load ≡ s.load
reply_load s (Step node) = step_load s node (step_answer s node)
reply_load s Back = back_load s (undo_answer s)
reply_load s (Rewind node k) = rewind_load s node k (rewind_answer s node.number k)
reply_load s (Node node) = refl
reply_load s (Memory node address) = refl
reply_load s (Trace node) = refl
reply_load s (Why from k to j) = refl
reply_load s Count = refl
reply_load s Dump = refl
reply_load s Quit = refl

does_load : (s : MachineState) (asked : DebuggerCommand) (answer : List ℕ) (new : MachineState) → IsCommandReply Brief s asked answer new → new.load ≡ s.load
does_load s asked answer new (inl e) = ap (λ (r : Reply). r.1.load) e ∙ reply_load s asked
does_load s asked answer new (inr refused) = ap (λ (m : MachineState). m.load) refused.2

answer_load : (s : MachineState) (line answer : List ℕ) (new : MachineState) → IsBriefAnswer s line answer new → new.load ≡ s.load
answer_load s line answer new (long past text same) = ap (λ (m : MachineState). m.load) same
answer_load s line answer new (command c short spelled does) = does_load s c answer new does
answer_load s line answer new (syntax short none text same) = ap (λ (m : MachineState). m.load) same

pub reached_load : (m : MachineState) (lines : List (List ℕ)) (last : MachineState) → IsReachedByLines m lines last → last.load ≡ m.load
reached_load m [] last same = ap (λ (s : MachineState). s.load) same
reached_load m (line ∷ lines) last (answer, next_event_of_node, done, rest) = reached_load next_event_of_node lines last rest ∙ answer_load m line answer next_event_of_node done
