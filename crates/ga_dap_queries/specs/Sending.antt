-- What is sent for a request (Debug Adapter Protocol, "Base protocol": `Response`, `Event`, `ErrorResponse`).
use Rattle.std.specs.Prelude.{◌≡◌, ℕ, List, [], ◌∷◌, string_bytes}
use Rattle.serde_json.specs.Data.{Data}
use Rattle.ga_text.specs.Lines.{Text}
use Rattle.ga_dap_protocol.specs.Messages.{response_message, bare_response, error_response, dap_event_message}
use Rattle.ga_dap_protocol.specs.Sent.{OutboxContent, next_message_number, AddsMessage}
use Rattle.ga_dap_protocol.specs.declared.request.ClientRequest.{ClientRequest}

-- a message but for its number
abbrev pub Message : Type 0
Message = ℕ → Data

abbrev pub Messages : Type 0
Messages = List Message

-- the responses to a request: with a body, without one, and that it is refused
abbrev pub success_response : ClientRequest → Data → Message
success_response request body seq = response_message seq request.seq (string_bytes request.command) body

abbrev pub bare_success_response : ClientRequest → Message
bare_success_response request seq = bare_response seq request.seq (string_bytes request.command)

abbrev pub refused_response : ClientRequest → Text → Message
refused_response request why seq = error_response seq request.seq (string_bytes request.command) why

-- an event
abbrev pub event_message : Text → Data → Message
event_message name body seq = dap_event_message seq name body

-- a message is added with the next number
abbrev pub SendsMessage : OutboxContent → Message → OutboxContent → Type 0
SendsMessage old message new = AddsMessage old (next_message_number old.seq) (message (next_message_number old.seq)) new

-- some messages are added, in order, each with the next number
abbrev pub SendsMessages : OutboxContent → List Message → OutboxContent → Type 0
SendsMessages old [] new = new ≡ old
SendsMessages old (message ∷ rest) new = (between : OutboxContent) × SendsMessage old message between × SendsMessages between rest new
