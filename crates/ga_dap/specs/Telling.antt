-- The messages about a change of the machine (Debug Adapter Protocol, "ThreadEvent", "StoppedEvent", "OutputEvent").
use Rattle.std.specs.Prelude.{◌≡◌, ℕ, Bool, true, false, not, [], ◌∷◌, ◌++◌, codes, Option, Some, None}
use Rattle.ga_text.specs.Lines.{Text}
use Rattle.ga_grid.specs.declared.node_id.NodeId.{NodeId}
use Rattle.ga_explorer.specs.Session.{is_refusal_answer}
use Rattle.ga_explorer.specs.declared.forms.CommandClass.{CommandClass}
use Rattle.ga_explorer.specs.declared.forms.CommandClass.TheVariants.{Query, Change}
use Rattle.ga_dap_protocol.specs.declared.request.ClientRequest.{ClientRequest}
use Rattle.ga_dap_queries.specs.declared.debuggee.Debuggee.{Debuggee}
use Rattle.ga_dap_queries.specs.Events.{thread_change_messages_below}
use Rattle.ga_dap_queries.specs.Sending.{Message, Messages, bare_success_response}
use Rattle.ga_dap_control.specs.declared.configuration.Configuration.{Configuration}
use Rattle.ga_dap_control.specs.declared.stop_reason.StopReason.{StopReason}
use Rattle.ga_dap_control.specs.Configuring.{AreNodesWithThreads}
use Rattle.ga_dap_control.specs.Stopping.{stopped_message, IsStopReasonMessage}
use Rattle.ga_dap.specs.Launches.{output_message}

-- In what follows, before says which threads there were.

-- the threads that came and went
abbrev pub AreThreadChangeMessages : (ℕ → Bool) → Debuggee → Messages → Type 0
AreThreadChangeMessages before new messages = (now : ℕ → Bool) × AreNodesWithThreads new now × (messages ≡ thread_change_messages_below before now 144)

-- the threads that started and exited, and then that the chip is stopped
abbrev pub AreStoppedMessages : (ℕ → Bool) → Debuggee → Text → Text → NodeId → Messages → Type 0
AreStoppedMessages before new reason description node messages =
    (changed : Messages) × AreThreadChangeMessages before new changed × (messages ≡ changed ++ (stopped_message reason description node.number ∷ []))

-- the messages after a slice of a run: why the run ended, if it did
abbrev pub AreRunEndMessages : Debuggee → Configuration → Option StopReason → Messages → Type 0
AreRunEndMessages p set None messages = messages ≡ []
AreRunEndMessages p set (Some why) messages = (message : Message) × IsStopReasonMessage p set why message × (messages ≡ message ∷ [])

abbrev pub AreRunSliceMessages : (ℕ → Bool) → Debuggee → Configuration → Option StopReason → Messages → Type 0
AreRunSliceMessages before new set stop messages =
    (changed : Messages) × (ended : Messages) × AreThreadChangeMessages before new changed × AreRunEndMessages new set stop ended × (messages ≡ changed ++ ended)

-- the messages after a move back: the response, what was removed, and that the chip is stopped
abbrev pub AreMoveBackMessages : (ℕ → Bool) → Debuggee → ClientRequest → NodeId → Text → Text → Messages → Type 0
AreMoveBackMessages before new request node gone reason messages = (rest : Messages) × AreStoppedMessages before new reason (codes "gone back") node rest
    × (messages ≡ bare_success_response request ∷ output_message (codes "console") gone ∷ rest)

-- a command that changes the machine was carried out, and not refused
abbrev pub is_change_command_done : Option CommandClass → Text → Bool
is_change_command_done (Some Change) answer = not (is_refusal_answer answer)
is_change_command_done (Some Query) answer = false
is_change_command_done None answer = false

-- the messages after a command, by whether it is such a change
abbrev pub AreMachineChangeMessages : Bool → (ℕ → Bool) → Debuggee → NodeId → Messages → Type 0
AreMachineChangeMessages true before new node messages = AreStoppedMessages before new (codes "goto") (codes "by a command") node messages
AreMachineChangeMessages false before new node messages = messages ≡ []
