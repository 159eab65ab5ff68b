-- The result of a turn of a session: it continues, or ends.
use Rattle.std.specs.Prelude.{◌≡◌, ◌⊎◌, ℕ, [], ◌++◌, Some}
use Rattle.ga_text.specs.Lines.{Bytes}
use Rattle.ga_dap_protocol.specs.Framing.{IsMessage}
use Rattle.ga_dap_protocol.specs.Inbox.{IsFrameErrorOfInput}
use Rattle.ga_dap_protocol.specs.Sent.{OutboxContent}
use Rattle.ga_dap_protocol.specs.declared.request.ClientRequest.{ClientRequest}
use Rattle.ga_dap_protocol.specs.declared.request.RequestError.{RequestError}
use Rattle.ga_dap_queries.specs.Sending.{Messages, SendsMessages}
use Rattle.ga_dap_control.specs.declared.launched.LaunchedSession.{LaunchedSession}
use Rattle.ga_dap.specs.declared.session.Session.{Session}
use Rattle.ga_dap.specs.declared.serving.SessionEnd.{SessionEnd}
use Rattle.ga_dap.specs.declared.serving.SessionEnd.TheVariants as end
use Rattle.ga_dap.specs.declared.turn.Progress.{Progress}
use Rattle.ga_dap.specs.declared.turn.Progress.TheVariants.{On, End}
use Rattle.ga_dap.specs.Answering.{AnswersRequest}
use Rattle.ga_dap.specs.Client.{ServerState, RequestArrivalRelation, AnswersContent, IsServerIteration, out_of_memory_messages, invalid_request_output, remaining_input}
use Rattle.ga_dap.specs.Going.{MakesRunSlice}
use Rattle.ga_dap.specs.Launches.{FileReadRelation}

abbrev pub AnswersRequestOrEnds : {S : Type 0} → FileReadRelation S → S → Session → ClientRequest → OutboxContent → Progress → OutboxContent → S → Session → Type 0
AnswersRequestOrEnds G host s request old On new after t = (messages : Messages)
    × (AnswersRequest G host s request messages after t ⊎ ((messages ≡ out_of_memory_messages request) × (t ≡ s))) × SendsMessages old messages new
AnswersRequestOrEnds G host s request old (End ending) new after t = ending ≡ end.Memory

abbrev pub DeclinesRequestOrEndsSession : RequestError → OutboxContent → Progress → OutboxContent → Type 0
DeclinesRequestOrEndsSession why old On new = SendsMessages old (invalid_request_output why) new
DeclinesRequestOrEndsSession why old (End ending) new = ending ≡ end.Memory

abbrev pub AnswersContentOrEnds : {S : Type 0} → FileReadRelation S → S → Session → Bytes → OutboxContent → Progress → OutboxContent → S → Session → Type 0
AnswersContentOrEnds G host s content old On new after t = (messages : Messages) × AnswersContent G host s content messages after t × SendsMessages old messages new
AnswersContentOrEnds G host s content old (End ending) new after t = ending ≡ end.Memory

-- why a session ends where a message was to be taken of all that is left of the input, and what is left then
abbrev pub EndsSessionWithoutInputMessage : SessionEnd → Bytes → Bytes → Type 0
EndsSessionWithoutInputMessage end.Done all rest = (all ≡ []) × (rest ≡ [])
EndsSessionWithoutInputMessage (end.BrokenFrame why) all rest = (all ≡ rest) × IsFrameErrorOfInput why all
EndsSessionWithoutInputMessage end.Memory all rest = (read : Bytes) × (all ≡ read ++ rest)
EndsSessionWithoutInputMessage end.StreamFault all rest = all ≡ rest

abbrev pub TakesMessageOrEnds : {S : Type 0} → FileReadRelation S → S → Session → Bytes → OutboxContent → Progress → OutboxContent → S → Session → Bytes → Type 0
TakesMessageOrEnds G host s all old On new after t rest = (content : Bytes) × (text : Bytes) × (messages : Messages) × IsMessage content text × (all ≡ text ++ rest)
    × AnswersContent G host s content messages after t × SendsMessages old messages new
TakesMessageOrEnds G host s all old (End ending) new after t rest = EndsSessionWithoutInputMessage ending all rest

abbrev pub ContinuesRunOrEnds : Session → OutboxContent → Progress → OutboxContent → Session → Type 0
ContinuesRunOrEnds s old On new t = (before : LaunchedSession) × (after : LaunchedSession) × (messages : Messages) × (s.launched ≡ Some before) × MakesRunSlice before messages after
    × (t ≡ record s { launched = Some after }) × SendsMessages old messages new
ContinuesRunOrEnds s old (End ending) new t = ending ≡ end.Memory

-- why a session that continues ends instead of a turn
abbrev pub EndsSessionInsteadOfTurn : {S A : Type 0} → ServerState S A → SessionEnd → Type 0
EndsSessionInsteadOfTurn s end.Done = remaining_input s ≡ []
EndsSessionInsteadOfTurn s (end.BrokenFrame why) = IsFrameErrorOfInput why (remaining_input s)
EndsSessionInsteadOfTurn s end.Memory = Unit {0}
EndsSessionInsteadOfTurn s end.StreamFault = Unit {0}

abbrev pub MakesTurnOrEnds : {S A : Type 0} → FileReadRelation S → RequestArrivalRelation A → ServerState S A → Progress → Bytes → ServerState S A → Type 0
MakesTurnOrEnds G T s On sent t = IsServerIteration G T s sent t
MakesTurnOrEnds G T s (End ending) sent t = EndsSessionInsteadOfTurn s ending × (read : Bytes) × (remaining_input s ≡ read ++ t.left)

abbrev pub server_state_of_parts : {S A : Type 0} → S → A → Session → ℕ → Bytes → Bytes → ServerState S A
server_state_of_parts files arrivals session seq ahead left =
    record { files = files; arrivals = arrivals; session = session; seq = seq; ahead = ahead; left = left }
