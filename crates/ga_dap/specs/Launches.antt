-- `launch` (Debug Adapter Protocol, "LaunchRequest", "InitializedEvent"): a program is opened, or the response has the reason
-- why none is. A host has files: what it gives for one is a relation of its own.
use Rattle.std.specs.Prelude.{◌≡◌, ◌⊎◌, ℕ, true, false, [], ◌∷◌, ◌++◌, replicate, codes, string_bytes, Option, Some, None, Result, Ok, Err}
use Rattle.serde_json.specs.Data.{Data}
use Rattle.serde_json.specs.View.{view}
use Rattle.ga_text.specs.Lines.{Bytes, Text}
use Rattle.ga_scheduler.specs.declared.schedule.Schedule.{Schedule}
use Rattle.ga_dap_protocol.specs.Messages.{bare_event, member_as_text}
use Rattle.ga_dap_protocol.specs.declared.request.ClientRequest.{ClientRequest}
use Rattle.ga_dap_queries.specs.Events.{output_event_body}
use Rattle.ga_dap_queries.specs.Launching.{parse_history_limit, parse_schedule, stops_on_entry}
use Rattle.ga_dap_queries.specs.Sending.{Message, Messages, bare_success_response, refused_response, event_message}
use Rattle.ga_dap_control.specs.declared.configuration.Configuration.{Configuration}
use Rattle.ga_dap_control.specs.declared.launched.LaunchedSession.{LaunchedSession}
use Rattle.ga_dap.specs.declared.sources.SourceError.{SourceError}
use Rattle.ga_dap.specs.declared.sources.SourceError.TheVariants as source
use Rattle.ga_dap.specs.Opening.{OpensProgram, IsRefusedProgramText, AreProgramNodes}

-- what a host gives of a file: the host before, a path, the file's bytes or why there are none, and the host after
abbrev pub FileReadRelation : Type 0 → Type 1
FileReadRelation S = S → Text → Result Bytes SourceError → S → Type 0

abbrev pub source_error_text : SourceError → Text
source_error_text source.Memory = codes "out of memory"
source_error_text source.MissingFile = codes "no such file"
source_error_text source.PathIsFolder = codes "a folder"
source_error_text source.FileTooLong = codes "more than 16777216 bytes"
source_error_text source.UnreadableFile = codes "it can't be read"

-- an event without a body
abbrev pub bare_event_message : Text → Message
bare_event_message name seq = bare_event seq name

abbrev pub output_message : Text → Text → Message
output_message category text = event_message (codes "output") (output_event_body category text)

-- why no program is opened of a file
abbrev pub launch_error_message : ClientRequest → Text → Text → Message
launch_error_message request path why = refused_response request (codes "launch: " ++ path ++ codes ": " ++ why)

-- before the client sets anything there are no breakpoints, and each fault ends a run
pub record IsDefaultConfiguration (set : Configuration) : Type 0 where
  pub points : set.points.points.items ≡ []
  pub placed : set.points.placed.items ≡ []
  pub stops : set.stops ≡ true
  pub stuck : set.stuck ≡ true
  pub broken : set.broken ≡ true
  pub number : set.points.next_id ≡ 1

-- the program is that of the text; its nodes stand at load, to be run in this order
pub record IsProgramLaunched (text : Bytes) (path : Text) (limit : ℕ) (schedule : Schedule) (arguments : Data) (l : LaunchedSession) : Type 0 where
  pub opens : OpensProgram text limit l.program
  pub nodes : AreProgramNodes text l.program.nodes.items
  pub stored_at : string_bytes l.program.path ≡ path
  pub unset : IsDefaultConfiguration l.settings
  pub order : l.execution.schedule ≡ schedule
  pub stands : l.execution.goal ≡ None
  pub not_configured : l.execution.is_configured ≡ false
  pub entry : l.execution.stops_on_entry ≡ stops_on_entry arguments
  pub none_reported : l.execution.reported ≡ replicate 144 false

-- the messages of a launch: the response, the warnings about the source, its place, and that the client may set breakpoints
abbrev pub launch_messages : ClientRequest → Messages → Messages
launch_messages request warned = (bare_success_response request ∷ warned) ++ (bare_event_message (codes "initialized") ∷ [])

abbrev pub AreWarningMessages : Messages → Type 0
AreWarningMessages messages = (messages ≡ []) ⊎ ((warnings : Text) × (messages ≡ output_message (codes "stderr") warnings ∷ []))

abbrev pub LaunchesProgram : Bytes → Text → ℕ → Schedule → ClientRequest → Messages → LaunchedSession → Type 0
LaunchesProgram text path limit schedule request messages l =
    IsProgramLaunched text path limit schedule (view request.arguments) l × (warned : Messages) × AreWarningMessages warned × (messages ≡ launch_messages request warned)

-- a file's text was read: it is a program, or the response has the reason why it is none
abbrev pub LaunchesText : Bytes → Text → ℕ → Schedule → ClientRequest → Messages → Option LaunchedSession → Type 0
LaunchesText text path limit schedule request messages (Some l) = LaunchesProgram text path limit schedule request messages l
LaunchesText text path limit schedule request messages None = IsRefusedProgramText text × (why : Text) × (messages ≡ launch_error_message request path why ∷ [])

abbrev pub LaunchesFileOrTellsReadError : Text → ℕ → Schedule → ClientRequest → Result Bytes SourceError → Messages → Option LaunchedSession → Type 0
LaunchesFileOrTellsReadError path limit schedule request (Ok text) messages new = LaunchesText text path limit schedule request messages new
LaunchesFileOrTellsReadError path limit schedule request (Err why) messages new = (messages ≡ launch_error_message request path (source_error_text why) ∷ []) × (new ≡ None)

abbrev pub ReadsAndLaunchesFile : {S : Type 0} → FileReadRelation S → S → ClientRequest → Text → ℕ → Schedule → Messages → S → Option LaunchedSession → Type 0
ReadsAndLaunchesFile G host request path limit schedule messages after new =
    (given : Result Bytes SourceError) × G host path given after × LaunchesFileOrTellsReadError path limit schedule request given messages new

abbrev pub RefusesLaunch : {S : Type 0} → S → ClientRequest → Text → Messages → S → Option LaunchedSession → Type 0
RefusesLaunch host request why messages after new = (messages ≡ refused_response request why ∷ []) × (after ≡ host) × (new ≡ None)

-- a launch by its arguments: a path, the limit of the history, and the order
abbrev pub LaunchesWithArguments : {S : Type 0} → FileReadRelation S → S → ClientRequest → Option Text → Option ℕ → Option Schedule → Messages → S → Option LaunchedSession → Type 0
LaunchesWithArguments G host request None limit schedule messages after new = RefusesLaunch host request (codes "launch: there is no program") messages after new
LaunchesWithArguments G host request (Some path) None schedule messages after new =
    RefusesLaunch host request (codes "launch: the limit is 1 to 100000000") messages after new
LaunchesWithArguments G host request (Some path) (Some limit) None messages after new =
    RefusesLaunch host request (codes "launch: the order is rounds, greedy, or random with a seed of 0 to 4294967295") messages after new
LaunchesWithArguments G host request (Some path) (Some limit) (Some schedule) messages after new = ReadsAndLaunchesFile G host request path limit schedule messages after new

abbrev pub LaunchesFirstProgram : {S : Type 0} → FileReadRelation S → S → ClientRequest → Messages → S → Option LaunchedSession → Type 0
LaunchesFirstProgram G host request messages after new =
    let d = view request.arguments in LaunchesWithArguments G host request (member_as_text (codes "program") d) (parse_history_limit d) (parse_schedule d) messages after new

-- one program is launched in a session
abbrev pub AnswersLaunchRequest : {S : Type 0} → FileReadRelation S → S → Option LaunchedSession → ClientRequest → Messages → S → Option LaunchedSession → Type 0
AnswersLaunchRequest G host None request messages after new = LaunchesFirstProgram G host request messages after new
AnswersLaunchRequest G host (Some l) request messages after new =
    (messages ≡ refused_response request (codes "launch: a program is launched already") ∷ []) × (after ≡ host) × (new ≡ Some l)
