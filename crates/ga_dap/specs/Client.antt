-- A client's whole session, from the bytes that are read to the bytes that are written (Debug Adapter Protocol, "Base
-- protocol"). Requests are answered in order; between them the run in progress continues, slice by slice, while none has come.
-- The host determines when requests come: what is written is exact for any such times, and for every way in which the input is
-- cut.
use Rattle.std.specs.Prelude.{◌≡◌, ◌≢◌, ◌⊎◌, ℕ, zero, suc, Bool, true, false, [], ◌∷◌, ◌++◌, codes, string_bytes, is_some, Option, Some, None, IsUtf8}
use Rattle.serde_json.specs.Data.{Data}
use Rattle.serde_json.specs.Read.{read}
use Rattle.serde_json.specs.View.{view}
use Rattle.ga_text.specs.Lines.{Bytes, Text}
use Rattle.ga_text.specs.Output.{TextHasPrefix}
use Rattle.ga_dap_protocol.specs.Framing.{IsMessage, IsMessagePrefix}
use Rattle.ga_dap_protocol.specs.Inbox.{IsFrameErrorOfInput}
use Rattle.ga_dap_protocol.specs.Messages.{IsRequest, HoldsNoRequest}
use Rattle.ga_dap_protocol.specs.Sent.{OutboxContent}
use Rattle.ga_dap_protocol.specs.declared.request.ClientRequest.{ClientRequest}
use Rattle.ga_dap_protocol.specs.declared.request.RequestError.{RequestError}
use Rattle.ga_dap_protocol.specs.declared.request.RequestError.TheVariants as fault
use Rattle.ga_dap_queries.specs.Sending.{Messages, SendsMessages, refused_response}
use Rattle.ga_dap_control.specs.declared.launched.LaunchedSession.{LaunchedSession}
use Rattle.ga_dap.specs.declared.session.Session.{Session}
use Rattle.ga_dap.specs.declared.serving.SessionEnd.{SessionEnd}
use Rattle.ga_dap.specs.declared.serving.SessionEnd.TheVariants as end
use Rattle.ga_dap.specs.Answering.{AnswersRequest}
use Rattle.ga_dap.specs.Going.{MakesRunSlice}
use Rattle.ga_dap.specs.Launches.{FileReadRelation, output_message}

-- whether requests have come, as a host says: the host before, what it says, and after
abbrev pub RequestArrivalRelation : Type 0 → Type 1
RequestArrivalRelation A = A → Bool → A → Type 0

-- the state between two turns: the host's files and arrivals, the session, the number of the last message, and of the input
-- what was read and not taken, and what was not read
pub record ServerState (S A : Type 0) : Type 0 where
  pub files : S
  pub arrivals : A
  pub session : Session
  pub seq : ℕ
  pub ahead : Bytes
  pub left : Bytes

-- all of the input that is not taken
abbrev pub remaining_input : {S A : Type 0} → ServerState S A → Bytes
remaining_input s = s.ahead ++ s.left

-- whether a run is under way
abbrev pub has_active_run : Option LaunchedSession → Bool
has_active_run None = false
has_active_run (Some l) = is_some l.execution.goal

abbrev pub has_session_active_run : Session → Bool
has_session_active_run s = has_active_run s.launched

-- ---- a request that comes

-- that a message is no request, and why
abbrev pub request_error_text : RequestError → Text
request_error_text fault.Memory = codes "out of memory"
request_error_text fault.Json = codes "a message is no JSON"
request_error_text fault.WrongType = codes "a message is no request"
request_error_text fault.Seq = codes "a request has no `seq`"
request_error_text fault.MissingCommand = codes "a request has no `command`"

abbrev pub invalid_request_output : RequestError → Messages
invalid_request_output why = output_message (codes "stderr") (codes "ga144: " ++ request_error_text why ++ codes "\n") ∷ []

-- a content part is this request
abbrev pub IsRequestInContent : Bytes → ClientRequest → Type 0
IsRequestInContent content r =
    (d : Data) × IsUtf8 content × (read content ≡ Some d) × IsRequest d r.seq (string_bytes r.command) (view r.arguments)

abbrev pub out_of_memory_messages : ClientRequest → Messages
out_of_memory_messages request = refused_response request (codes "out of memory") ∷ []

-- a message is answered: it is a request that is carried out, or one to which memory is refused, and then nothing changes; or it is none
pub data AnswersContent {S : Type 0} (G : FileReadRelation S) (host : S) (s : Session) (content : Bytes) (messages : Messages) (after : S) (new : Session) : Type 0 where
  carried : (request : ClientRequest) → IsRequestInContent content request → AnswersRequest G host s request messages after new
      → AnswersContent G host s content messages after new
  wanting : (request : ClientRequest) → IsRequestInContent content request → messages ≡ out_of_memory_messages request → new ≡ s
      → AnswersContent G host s content messages after new
  no_request : (why : RequestError) → why ≢ fault.Memory → HoldsNoRequest content why → messages ≡ invalid_request_output why → new ≡ s → after ≡ host
      → AnswersContent G host s content messages after new

-- ---- a turn

-- no bytes to be written, or these, with the number of the last message
abbrev pub empty_outbox_content : ℕ → OutboxContent
empty_outbox_content seq = record { bytes = []; seq = seq }

abbrev pub outbox_content_of_bytes : Bytes → ℕ → OutboxContent
outbox_content_of_bytes bytes seq = record { bytes = bytes; seq = seq }

-- what was read shows the next message, or that there is none
abbrev pub NeedsNoMoreInput : Bytes → Type 0
NeedsNoMoreInput ahead = IsMessagePrefix ahead → ⊥

-- whether it is time for a request: no run is under way, or one was read, or the host says that one has come
abbrev pub IsRequestReadDue : {A : Type 0} → RequestArrivalRelation A → Bool → Bytes → A → Bool → A → Type 0
IsRequestReadDue T running ahead arrivals true after = ((running ≡ false) × (after ≡ arrivals)) ⊎ (NeedsNoMoreInput ahead × (after ≡ arrivals)) ⊎ T arrivals true after
IsRequestReadDue T running ahead arrivals false after = (running ≡ true) × (NeedsNoMoreInput ahead → ⊥) × T arrivals false after

-- a request is taken and answered
pub record TakesAndAnswersMessage {S A : Type 0} (G : FileReadRelation S) (s : ServerState S A) (sent : Bytes) (t : ServerState S A) : Type 0 where
  pub content : Bytes
  pub text : Bytes
  pub whole : IsMessage content text
  pub taken : remaining_input s ≡ text ++ remaining_input t
  pub messages : Messages
  pub answers : AnswersContent G s.files s.session content messages t.files t.session
  pub sends : SendsMessages (empty_outbox_content s.seq) messages (outbox_content_of_bytes sent t.seq)

-- the run in progress continues by a slice, and nothing is taken
pub record ContinuesSessionRun {S A : Type 0} (s : ServerState S A) (sent : Bytes) (t : ServerState S A) : Type 0 where
  pub before : LaunchedSession
  pub after : LaunchedSession
  pub running : s.session.launched ≡ Some before
  pub messages : Messages
  pub goes : MakesRunSlice before messages after
  pub session : t.session ≡ record s.session { launched = Some after }
  pub sends : SendsMessages (empty_outbox_content s.seq) messages (outbox_content_of_bytes sent t.seq)
  pub files : t.files ≡ s.files
  pub ahead : t.ahead ≡ s.ahead
  pub left : t.left ≡ s.left

abbrev pub AnswersMessageOrContinuesRun : {S A : Type 0} → FileReadRelation S → Bool → ServerState S A → Bytes → ServerState S A → Type 0
AnswersMessageOrContinuesRun G true s sent t = TakesAndAnswersMessage G s sent t
AnswersMessageOrContinuesRun G false s sent t = ContinuesSessionRun s sent t

abbrev pub IsServerIteration : {S A : Type 0} → FileReadRelation S → RequestArrivalRelation A → ServerState S A → Bytes → ServerState S A → Type 0
IsServerIteration G T s sent t = (time : Bool) × IsRequestReadDue T (has_session_active_run s.session) s.ahead s.arrivals time t.arrivals × AnswersMessageOrContinuesRun G time s sent t

-- `n` turns, and what was sent in them
abbrev pub ServesIterations : {S A : Type 0} → FileReadRelation S → RequestArrivalRelation A → ServerState S A → ℕ → Bytes → ServerState S A → Type 0
ServesIterations G T begin zero said last = (said ≡ []) × (last ≡ begin)
ServesIterations {S} {A} G T begin (suc count) said last = (between : ServerState S A) × (front : Bytes) × (sent : Bytes) × ServesIterations G T begin count front between
    × (between.session.is_over ≡ false) × IsServerIteration G T between sent last × (said ≡ front ++ sent)

-- ---- how a session ends

-- at the end of a session the client has ended it, or the input is at its end between messages; or something comes that is no
-- message. Otherwise an allocation failed for the next message or for what had to be reported, and the client has not ended the
-- session; or a stream failed.
abbrev pub IsSessionEnd : {S A : Type 0} → ServerState S A → SessionEnd → Type 0
IsSessionEnd s end.Done = (s.session.is_over ≡ true) ⊎ (remaining_input s ≡ [])
IsSessionEnd s (end.BrokenFrame why) = (s.session.is_over ≡ false) × IsFrameErrorOfInput why (remaining_input s)
IsSessionEnd s end.Memory = s.session.is_over ≡ false
IsSessionEnd s end.StreamFault = Unit {0}

-- what is written of all that was sent: the whole, or where a stream failed, a front of it
abbrev pub IsOutputWritten : SessionEnd → Bytes → Bytes → Type 0
IsOutputWritten end.Done said written = written ≡ said
IsOutputWritten (end.BrokenFrame why) said written = written ≡ said
IsOutputWritten end.Memory said written = written ≡ said
IsOutputWritten end.StreamFault said written = TextHasPrefix said written

abbrev pub new_session : Session
new_session = record { launched = None; is_over = false }

abbrev pub initial_server_state : {S A : Type 0} → S → A → Bytes → ServerState S A
initial_server_state files arrivals left = record { files = files; arrivals = arrivals; session = new_session; seq = 0; ahead = []; left = left }

-- A client was served: the turns were made, the session ended so after the last, and this was written; this is left of the
-- input.
pub record ServesClient {S A : Type 0} (G : FileReadRelation S) (T : RequestArrivalRelation A) (files : S) (arrivals : A) (input rest written : Bytes) (ending : SessionEnd) : Type 0 where
  pub count : ℕ
  pub said : Bytes
  pub last : ServerState S A
  pub read : Bytes
  pub serves : ServesIterations G T (initial_server_state files arrivals input) count said last
  pub ends : IsSessionEnd last ending
  pub left : remaining_input last ≡ read ++ rest
  pub out : IsOutputWritten ending said written
