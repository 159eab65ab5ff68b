-- What a request does in a session (Debug Adapter Protocol, "Requests"): the messages sent, in order, and the state after them.
use Rattle.std.specs.Prelude.{◌≡◌, ◌≢◌, Bool, true, false, not, ◌&&◌, if◌then◌else◌, [], ◌∷◌, codes, string_bytes, Option, Some, None, is_some}
use Rattle.ga_text.specs.Lines.{Text}
use Rattle.ga_dap_protocol.specs.declared.request.ClientRequest.{ClientRequest}
use Rattle.ga_dap_queries.specs.Capabilities.{AnswersInitialize}
use Rattle.ga_dap_queries.specs.Commands.{command_name}
use Rattle.ga_dap_queries.specs.Sending.{Message, Messages, bare_success_response, refused_response}
use Rattle.ga_dap_queries.specs.declared.debuggee.Debuggee.{Debuggee}
use Rattle.ga_dap_queries.specs.declared.request_name.RequestName.{RequestName}
use Rattle.ga_dap_queries.specs.declared.request_name.RequestName.TheVariants as the
use Rattle.ga_dap_control.specs.Moving.{execution_without_goal}
use Rattle.ga_dap_control.specs.Requests.{AnswersImmediateRequest}
use Rattle.ga_dap_control.specs.declared.execution.Execution.{Execution}
use Rattle.ga_dap_control.specs.declared.launched.LaunchedSession.{LaunchedSession}
use Rattle.ga_dap.specs.declared.session.Session.{Session}
use Rattle.ga_dap.specs.Evaluating.{AnswersEvaluateRequest}
use Rattle.ga_dap.specs.Going.{AnswersStepBack, AnswersReverseContinue}
use Rattle.ga_dap.specs.Launches.{FileReadRelation, AnswersLaunchRequest, bare_event_message}

-- ---- of what was launched

-- requests that need a stopped chip
abbrev pub needs_stopped_chip : RequestName → Bool
needs_stopped_chip the.Continue = true
needs_stopped_chip the.Next = true
needs_stopped_chip the.StepIn = true
needs_stopped_chip the.StepOut = true
needs_stopped_chip the.StepBack = true
needs_stopped_chip the.ReverseContinue = true
needs_stopped_chip the.Evaluate = true
needs_stopped_chip other = false

-- the program alone changes
abbrev pub ChangesProgramOnly : (Messages → Debuggee → Type 0) → LaunchedSession → Messages → LaunchedSession → Type 0
ChangesProgramOnly IsCommandReply l messages new = IsCommandReply messages new.program × (new ≡ record l { program = new.program })

abbrev pub PerformsRequest : RequestName → LaunchedSession → ClientRequest → Messages → LaunchedSession → Type 0
PerformsRequest the.StepBack l request messages new = ChangesProgramOnly (AnswersStepBack l.program request) l messages new
PerformsRequest the.ReverseContinue l request messages new = ChangesProgramOnly (AnswersReverseContinue l.settings l.program request) l messages new
PerformsRequest the.Evaluate l request messages new = ChangesProgramOnly (AnswersEvaluateRequest l.program request) l messages new
PerformsRequest other l request messages new = AnswersImmediateRequest other l request messages new

-- requests that begin a run
abbrev pub begins_run : RequestName → Bool
begins_run the.Continue = true
begins_run the.Next = true
begins_run the.StepIn = true
begins_run the.StepOut = true
begins_run other = false

-- while the chip runs, only requests that read or pause are served; and it begins to run after `configurationDone`
abbrev pub request_refusal_reason : RequestName → Execution → Option Text
request_refusal_reason command r =
    if is_some r.goal && needs_stopped_chip command then Some (codes "the chip runs")
    else if not r.is_configured && begins_run command then Some (codes "configurationDone comes first")
    else None

abbrev pub PerformsRequestUnlessRefused : Option Text → RequestName → LaunchedSession → ClientRequest → Messages → LaunchedSession → Type 0
PerformsRequestUnlessRefused (Some why) command l request messages new = (messages ≡ refused_response request why ∷ []) × (new ≡ l)
PerformsRequestUnlessRefused None command l request messages new = PerformsRequest command l request messages new

abbrev pub AnswersRequestWhileLaunched : RequestName → LaunchedSession → ClientRequest → Messages → LaunchedSession → Type 0
AnswersRequestWhileLaunched command l request messages new = PerformsRequestUnlessRefused (request_refusal_reason command l.execution) command l request messages new

abbrev pub AnswersRequestIfLaunched : RequestName → Option LaunchedSession → ClientRequest → Messages → Option LaunchedSession → Type 0
AnswersRequestIfLaunched command None request messages new = (messages ≡ refused_response request (codes "nothing is launched") ∷ []) × (new ≡ None)
AnswersRequestIfLaunched command (Some l) request messages new = (after : LaunchedSession) × AnswersRequestWhileLaunched command l request messages after × (new ≡ Some after)

-- ---- of the session

-- a request by its name, or that no request has it
abbrev pub NamesRequest : Text → Option RequestName → Type 0
NamesRequest name (Some command) = command_name command ≡ name
NamesRequest name None = (command : RequestName) → command_name command ≢ name

-- `terminate`: the run ends
abbrev pub program_with_run_ended : Option LaunchedSession → Option LaunchedSession
program_with_run_ended None = None
program_with_run_ended (Some l) = Some (record l { execution = execution_without_goal l.execution })

abbrev pub AnswersTerminateRequest : Session → ClientRequest → Messages → Session → Type 0
AnswersTerminateRequest s request messages new =
    (messages ≡ bare_success_response request ∷ bare_event_message (codes "terminated") ∷ []) × (new ≡ record s { launched = program_with_run_ended s.launched })

abbrev pub AnswersDisconnectRequest : Session → ClientRequest → Messages → Session → Type 0
AnswersDisconnectRequest s request messages new = (messages ≡ bare_success_response request ∷ []) × (new ≡ record s { is_over = true })

abbrev pub AnswersInitializeRequest : Session → ClientRequest → Messages → Session → Type 0
AnswersInitializeRequest s request messages new = (message : Message) × AnswersInitialize request message × (messages ≡ message ∷ []) × (new ≡ s)

-- what was launched alone changes
abbrev pub ChangesLaunchedProgramOnly : (Messages → Option LaunchedSession → Type 0) → Session → Messages → Session → Type 0
ChangesLaunchedProgramOnly IsCommandReply s messages new = IsCommandReply messages new.launched × (new ≡ record s { launched = new.launched })

abbrev pub AnswersKnownRequest : {S : Type 0} → FileReadRelation S → S → Session → RequestName → ClientRequest → Messages → S → Session → Type 0
AnswersKnownRequest G host s the.Initialize request messages after new = AnswersInitializeRequest s request messages new × (after ≡ host)
AnswersKnownRequest {S} G host s the.Launch request messages after new =
    ChangesLaunchedProgramOnly (λ (m : Messages) (l : Option LaunchedSession). AnswersLaunchRequest G host s.launched request m after l) s messages new
AnswersKnownRequest G host s the.Disconnect request messages after new = AnswersDisconnectRequest s request messages new × (after ≡ host)
AnswersKnownRequest G host s the.Terminate request messages after new = AnswersTerminateRequest s request messages new × (after ≡ host)
AnswersKnownRequest G host s other request messages after new = ChangesLaunchedProgramOnly (AnswersRequestIfLaunched other s.launched request) s messages new × (after ≡ host)

abbrev pub AnswersRequestIfKnown : {S : Type 0} → FileReadRelation S → S → Session → Option RequestName → ClientRequest → Messages → S → Session → Type 0
AnswersRequestIfKnown G host s None request messages after new = (messages ≡ refused_response request (codes "no such request") ∷ []) × (new ≡ s) × (after ≡ host)
AnswersRequestIfKnown G host s (Some command) request messages after new = AnswersKnownRequest G host s command request messages after new

-- a request is answered: the host and the session before, the messages, and both after
abbrev pub AnswersRequest : {S : Type 0} → FileReadRelation S → S → Session → ClientRequest → Messages → S → Session → Type 0
AnswersRequest G host s request messages after new =
    (command : Option RequestName) × NamesRequest (string_bytes request.command) command × AnswersRequestIfKnown G host s command request messages after new
