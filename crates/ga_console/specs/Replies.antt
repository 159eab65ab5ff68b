-- What the machine replies to a line (docs/REFERENCE.md, "Sessions"; this project's own).
use Rattle.ga_lab.specs.declared.fault.LabFault.TheVariants as fault
use Rattle.std.specs.Prelude.{◌≡◌, ℕ, ◌<◌, ◌≤◌, ◌⊎◌, if◌then◌else◌, IsOk, List, [], ◌++◌, length, flat_map, Option, Some, None, Result, Ok, Err, ◌∷◌}
use Rattle.ga_grid.specs.Chip.{node_record_at}
use Rattle.ga_grid.specs.declared.node_id.NodeId.{NodeId}
use Rattle.ga_causal.specs.declared.chain.ChainLink.{ChainLink}
use Rattle.ga_text.specs.Lines.{Text, Line, max_input_line}
use Rattle.ga_image.specs.Printing.{printed_image}
use Rattle.ga_event.specs.Told.{made_event_at_place, count_steps}
use Rattle.ga_event.specs.declared.made.MadeEvent.{MadeEvent}
use Rattle.ga_lab.specs.Machine.{MachineState, chip_of_machine, step_answer, state_after_step, undo_answer, state_after_undo, has_step, rewind_answer, state_after_rewind, memory_word_at_address, history_of_node, machine_events_with_outcomes, why_answer}
use Rattle.ga_lab.specs.declared.fault.LabFault.{LabFault}
use Rattle.ga_display.specs.declared.wording.RefusalWording.{RefusalWording}
use Rattle.ga_display.specs.declared.wording.RefusalWording.TheVariants.{Brief}
use Rattle.ga_display.specs.Texts.{event_text, removed_events_text, refusal_text, worded_refusal_text, worded_step_refusal_text, node_text, memory_word_text, event_counts_text, trace_header_text, chain_header_text, independent_steps_text, syntax_refusal, worded_long_line_refusal}
use Rattle.ga_console.specs.Commands.{SpellsCommand}
use Rattle.ga_console.specs.declared.command.DebuggerCommand.{DebuggerCommand}
use Rattle.ga_console.specs.declared.command.DebuggerCommand.TheVariants.{Step, Back, Rewind, Node, Memory, Trace, Why, Count, Dump, Quit}

-- an answer, and the machine after it
abbrev pub Reply : Type 0
Reply = Text × MachineState

abbrev pub step_reply : RefusalWording → MachineState → NodeId → Result MadeEvent LabFault → Reply
step_reply wording s node (Ok made) = (event_text made, state_after_step s node)
step_reply wording s node (Err why) = (worded_refusal_text wording why, s)

abbrev pub back_reply : RefusalWording → MachineState → Result (Unit {0}) LabFault → Reply
back_reply wording s (Ok done) = (removed_events_text 1 (length (state_after_undo s).kept), state_after_undo s)
back_reply wording s (Err why) = (worded_refusal_text wording why, s)

-- a refused call about a step of the node
abbrev pub step_refusal : RefusalWording → MachineState → NodeId → LabFault → Text
step_refusal wording s node why = worded_step_refusal_text wording node (count_steps node.number s.kept) why

-- before is the machine before the rollback of a step of the node, after the one after it
abbrev pub rewind_reply : RefusalWording → MachineState → NodeId → MachineState → Result ℕ LabFault → Reply
rewind_reply wording before node after (Ok removed) = (removed_events_text removed (length after.kept), after)
rewind_reply wording before node after (Err why) = (step_refusal wording before node why, before)

-- the steps of a node: how many, and a line for each
abbrev pub steps_text : NodeId → List MadeEvent → Text
steps_text node steps = trace_header_text node (length steps) ++ flat_map event_text steps

-- the report of the event at a place
abbrev pub optional_event_text : Option MadeEvent → Text
optional_event_text None = []
optional_event_text (Some made) = event_text made

-- the report of the event of a link
abbrev pub chain_link_text : MachineState → ChainLink → Text
chain_link_text s link = optional_event_text (made_event_at_place (machine_events_with_outcomes s) link.place)

-- the events of a chain: how many, and a line for each
abbrev pub chain_links_text : MachineState → List ChainLink → Text
chain_links_text s links = chain_header_text (length links) ++ flat_map (chain_link_text s) links

-- the first of two nodes, unless it has the step
abbrev pub first_node_lacking_step : MachineState → NodeId → ℕ → NodeId → NodeId
first_node_lacking_step s from k to = if has_step s from.number k then to else from

-- the node is the one that lacks its step, if one does
abbrev pub chain_of_causes_reply_text : RefusalWording → MachineState → NodeId → Result (Option (List ChainLink)) LabFault → Text
chain_of_causes_reply_text wording s node (Ok None) = independent_steps_text
chain_of_causes_reply_text wording s node (Ok (Some links)) = chain_links_text s links
chain_of_causes_reply_text wording s node (Err why) = step_refusal wording s node why

-- what the machine replies to a command, in a session of this wording
abbrev pub reply_in_wording : RefusalWording → MachineState → DebuggerCommand → Reply
reply_in_wording wording s (Step node) = step_reply wording s node (step_answer s node)
reply_in_wording wording s Back = back_reply wording s (undo_answer s)
reply_in_wording wording s (Rewind node k) = rewind_reply wording s node (state_after_rewind s node.number k) (rewind_answer s node.number k)
reply_in_wording wording s (Node node) = (node_text node (node_record_at (chip_of_machine s) node.number), s)
reply_in_wording wording s (Memory node address) = (memory_word_text node address (memory_word_at_address (node_record_at (chip_of_machine s) node.number) address), s)
reply_in_wording wording s (Trace node) = (steps_text node (history_of_node s node.number), s)
reply_in_wording wording s (Why from k to j) = (chain_of_causes_reply_text wording s (first_node_lacking_step s from k to) (why_answer s from.number k to.number j), s)
reply_in_wording wording s Count = (event_counts_text (length s.kept) s.made s.limit, s)
reply_in_wording wording s Dump = (printed_image (chip_of_machine s), s)
reply_in_wording wording s Quit = ([], s)

-- what the debugger replies
abbrev pub brief_reply : MachineState → DebuggerCommand → Reply
brief_reply s asked = reply_in_wording Brief s asked

-- The command needs memory: a step that would be made, a trace, why where both steps stand, or a dump.
abbrev pub CommandNeedsMemory : MachineState → DebuggerCommand → Type 0
CommandNeedsMemory s (Step node) = IsOk (step_answer s node)
CommandNeedsMemory s Back = ⊥
CommandNeedsMemory s (Rewind node k) = ⊥
CommandNeedsMemory s (Node node) = ⊥
CommandNeedsMemory s (Memory node address) = ⊥
CommandNeedsMemory s (Trace node) = Unit {0}
CommandNeedsMemory s (Why from k to j) = IsOk (why_answer s from.number k to.number j)
CommandNeedsMemory s Count = ⊥
CommandNeedsMemory s Dump = Unit {0}
CommandNeedsMemory s Quit = ⊥

-- The reply to a command. Where memory is wanting, a command that needs it is refused and changes nothing.
abbrev pub IsCommandReply : RefusalWording → MachineState → DebuggerCommand → Text → MachineState → Type 0
IsCommandReply wording s asked answer new =
    ((answer, new) ≡ reply_in_wording wording s asked) ⊎ (CommandNeedsMemory s asked × (answer ≡ worded_refusal_text wording fault.Memory) × (new ≡ s))

-- The answer to a line, in a session of this wording: it is too long, or spells a command, or spells none.
pub data IsAnswerInWording (wording : RefusalWording) (s : MachineState) (line : Line) (answer : Text) (new : MachineState) : Type 0 where
  long : max_input_line < length line → answer ≡ worded_long_line_refusal wording → new ≡ s → IsAnswerInWording wording s line answer new
  command : (c : DebuggerCommand) → length line ≤ max_input_line → SpellsCommand c line → IsCommandReply wording s c answer new → IsAnswerInWording wording s line answer new
  syntax : length line ≤ max_input_line → ((c : DebuggerCommand) → ¬ SpellsCommand c line) → answer ≡ syntax_refusal → new ≡ s → IsAnswerInWording wording s line answer new

-- the debugger's
abbrev pub IsBriefAnswer : MachineState → Line → Text → MachineState → Type 0
IsBriefAnswer s line answer new = IsAnswerInWording Brief s line answer new

-- ---- the machines to which a session comes

-- From this machine, answers to the lines lead to that one.
abbrev pub IsReachedByLines : MachineState → List Line → MachineState → Type 0
IsReachedByLines m [] last = last ≡ m
IsReachedByLines m (line ∷ lines) last = (answer : Text) × (next : MachineState) × IsBriefAnswer m line answer next × IsReachedByLines next lines last
