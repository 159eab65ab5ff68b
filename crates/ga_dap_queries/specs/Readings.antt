-- The requests that read (Debug Adapter Protocol, "ThreadsRequest", "StackTraceRequest", "ScopesRequest", "VariablesRequest", "ExceptionInfoRequest"):
-- what each is answered. The machine stays.
use Rattle.std.specs.Prelude.{ℕ, ◌==◌, Bool, true, false, not, if◌then◌else◌, ◌++◌, codes, bytes_eq, ◌≡◌, List, Option, Some, None}
use Rattle.serde_json.specs.Data.{Data, string, object, array, no_items, no_members, member}
use Rattle.ga_grid.specs.Chip.{node_record_at}
use Rattle.ga_text.specs.Lines.{Text}
use Rattle.ga_lab.specs.Machine.{MachineState, chip_of_machine}
use Rattle.ga_dap_views.specs.Activity.{node_name_and_activity_text}
use Rattle.serde_json.specs.View.{view}
use Rattle.ga_races.specs.Acts.{IsMarkedSubset, AreDeadlocked}
use Rattle.ga_node.specs.Record.{NodeRecord}
use Rattle.ga_grid.specs.declared.node_id.NodeId.{NodeId}
use Rattle.ga_dap_views.specs.declared.frames.SourceFile.{SourceFile}
use Rattle.ga_dap_views.specs.declared.scope.Scope.{Scope}
use Rattle.ga_dap_views.specs.Threads.{threads_body}
use Rattle.ga_dap_views.specs.Frames.{stack_trace_body}
use Rattle.ga_dap_views.specs.Variables.{scopes_body, is_memory_scope, variables_body}
use Rattle.ga_dap_protocol.specs.Messages.{member_as_text}
use Rattle.ga_dap_protocol.specs.declared.request.ClientRequest.{ClientRequest}
use Rattle.ga_dap_queries.specs.declared.debuggee.Debuggee.{Debuggee}
use Rattle.ga_dap_queries.specs.Arguments.{IsThreadArgument, IsFrameArgument, IsVariablesReferenceArgument, number_member_or_default}
use Rattle.ga_dap_queries.specs.Disassembling.{program_debug_info, IsProgramSourceFile}
use Rattle.ga_dap_queries.specs.Sending.{Message, success_response, refused_response}

-- ---- the response to `exceptionInfo` (Debug Adapter Protocol, "ExceptionInfoRequest"): why the node of a thread can't go on

-- the filter for the node: it stopped, or it is deadlocked; else neither
abbrev pub exception_filter_of_node : ℕ → Bool → Text
exception_filter_of_node stop stuck = if stop == 0 then (if stuck then codes "stuck" else codes "none") else codes "stop"

unfoldable pub exception_object : Text → Text → Data
exception_object id description =
    object (member (codes "breakMode") (string (codes "always")) (member (codes "description") (string description) (member (codes "exceptionId") (string id) no_members)))

abbrev pub exception_info_body : MachineState → Bool → ℕ → Data
exception_info_body s stuck n =
    exception_object (exception_filter_of_node (node_record_at (chip_of_machine s) n).stop stuck) (codes "node " ++ node_name_and_activity_text (chip_of_machine s) n)

-- whether a node can never go on: it is in the greatest set of such nodes
abbrev pub TellsIfNodeIsDeadlocked : List NodeRecord → ℕ → Bool → Type 0
TellsIfNodeIsDeadlocked chip n stuck = (marks : ℕ → Bool) × AreDeadlocked chip marks × ((others : ℕ → Bool) → AreDeadlocked chip others → IsMarkedSubset others marks) × (stuck ≡ marks n)

-- `threads`
abbrev pub AnswersThreads : Debuggee → ClientRequest → Message → Type 0
AnswersThreads p request message = message ≡ success_response request (threads_body p.lab p.nodes.items)

-- `stackTrace`
abbrev pub IsStackTraceResponse : Debuggee → ClientRequest → Option NodeId → Message → Type 0
IsStackTraceResponse p request None message = message ≡ refused_response request (codes "stackTrace: no such thread")
IsStackTraceResponse p request (Some node) message = (file : SourceFile) × IsProgramSourceFile p file × (message ≡ success_response request (stack_trace_body file (program_debug_info p) p.lab node
    (number_member_or_default (codes "startFrame") 0 (view request.arguments)) (number_member_or_default (codes "levels") 0 (view request.arguments))))

abbrev pub AnswersStackTrace : Debuggee → ClientRequest → Message → Type 0
AnswersStackTrace p request message = (asked : Option NodeId) × IsThreadArgument (view request.arguments) asked × IsStackTraceResponse p request asked message

-- `scopes`
abbrev pub IsScopesResponse : ClientRequest → Option NodeId → Message → Type 0
IsScopesResponse request None message = message ≡ refused_response request (codes "scopes: no such frame")
IsScopesResponse request (Some node) message = message ≡ success_response request (scopes_body node.number)

abbrev pub AnswersScopes : ClientRequest → Message → Type 0
AnswersScopes request message = (asked : Option NodeId) × IsFrameArgument (view request.arguments) asked × IsScopesResponse request asked message

-- `variables`: those of a memory are indexed, and all others named; a client may ask for one kind
abbrev pub matches_variables_filter : Scope → Option Text → Bool
matches_variables_filter of None = true
matches_variables_filter of (Some filter) = not (bytes_eq filter (if is_memory_scope of then codes "named" else codes "indexed"))

unfoldable pub empty_variables_body : Data
empty_variables_body = object (member (codes "variables") (array no_items) no_members)

abbrev pub filtered_variables_body : Bool → MachineState → Bool → ℕ → Scope → ℕ → ℕ → Data
filtered_variables_body true s stuck n of start count = variables_body s stuck n of start count
filtered_variables_body false s stuck n of start count = empty_variables_body

abbrev pub IsVariablesResponse : Debuggee → ClientRequest → NodeId × Scope → Message → Type 0
IsVariablesResponse p request at message = (stuck : Bool) × TellsIfNodeIsDeadlocked (chip_of_machine p.lab) at.0.number stuck
    × (message ≡ success_response request (filtered_variables_body (matches_variables_filter at.1 (member_as_text (codes "filter") (view request.arguments))) p.lab stuck at.0.number at.1
    (number_member_or_default (codes "start") 0 (view request.arguments)) (number_member_or_default (codes "count") 0 (view request.arguments))))

abbrev pub AnswersVariablesReference : Debuggee → ClientRequest → Option (NodeId × Scope) → Message → Type 0
AnswersVariablesReference p request None message = message ≡ refused_response request (codes "variables: no such reference")
AnswersVariablesReference p request (Some at) message = IsVariablesResponse p request at message

abbrev pub AnswersVariables : Debuggee → ClientRequest → Message → Type 0
AnswersVariables p request message = (asked : Option (NodeId × Scope)) × IsVariablesReferenceArgument (view request.arguments) asked × AnswersVariablesReference p request asked message

-- `exceptionInfo`
abbrev pub IsExceptionInfoResponse : Debuggee → ClientRequest → Option NodeId → Message → Type 0
IsExceptionInfoResponse p request None message = message ≡ refused_response request (codes "exceptionInfo: no such thread")
IsExceptionInfoResponse p request (Some node) message = (stuck : Bool) × TellsIfNodeIsDeadlocked (chip_of_machine p.lab) node.number stuck × (message ≡ success_response request (exception_info_body p.lab stuck node.number))

abbrev pub AnswersExceptionInfo : Debuggee → ClientRequest → Message → Type 0
AnswersExceptionInfo p request message = (asked : Option NodeId) × IsThreadArgument (view request.arguments) asked × IsExceptionInfoResponse p request asked message
