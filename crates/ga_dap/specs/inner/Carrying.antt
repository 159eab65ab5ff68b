-- How a call ends that answers: with messages that were sent, or memory was refused to it.
use Rattle.std.specs.Prelude.{Option, Some, None, Result, Ok, Err}
use Rattle.ga_dap_protocol.specs.Sent.{OutboxContent}
use Rattle.ga_dap_queries.specs.Sending.{Messages, SendsMessages}
use Rattle.ga_explorer.specs.declared.forms.CommandClass.{CommandClass}
use Rattle.ga_explorer.specs.declared.forms.CommandClass.TheVariants.{Query, Change}
use Rattle.ga_dap.specs.declared.unanswered.NoResponse.{NoResponse}
use Rattle.ga_dap.specs.declared.unanswered.NoResponse.TheVariants.{Memory, Untold}

-- messages were sent for which this holds; or an allocation failed before anything changed, for which that holds; or for what
-- had to be reported of a change
abbrev pub SendsReplyOrLacksMemory : Result (Unit {0}) NoResponse → (Messages → Type 0) → Type 0 → OutboxContent → OutboxContent → Type 0
SendsReplyOrLacksMemory (Ok done) IsCommandReply Stays old new = (messages : Messages) × IsCommandReply messages × SendsMessages old messages new
SendsReplyOrLacksMemory (Err Memory) IsCommandReply Stays old new = Stays
SendsReplyOrLacksMemory (Err Untold) IsCommandReply Stays old new = Unit {0}

-- why there is no answer to a command of this class: memory was wanting for the answer, after the command was carried out
abbrev pub no_response_reason_of_command_class : Option CommandClass → NoResponse
no_response_reason_of_command_class (Some Change) = Untold
no_response_reason_of_command_class (Some Query) = Memory
no_response_reason_of_command_class None = Memory
