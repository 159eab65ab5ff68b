-- `initialize` (Debug Adapter Protocol, "InitializeRequest", "Capabilities", "ExceptionBreakpointsFilter").
use Rattle.std.specs.Prelude.{◌≡◌, Bool, true, not, if◌then◌else◌, codes, bytes_eq, Option, Some, None, unwrap_or}
use Rattle.serde_json.specs.Data.{Data, string, boolean, object, array, Members, no_members, member, item, no_items}
use Rattle.serde_json.specs.View.{view}
use Rattle.ga_text.specs.Lines.{Text}
use Rattle.ga_dap_protocol.specs.Messages.{member_as_text}
use Rattle.ga_dap_protocol.specs.declared.request.ClientRequest.{ClientRequest}
use Rattle.ga_dap_queries.specs.Arguments.{parse_boolean_member}
use Rattle.ga_dap_queries.specs.Sending.{Message, success_response, refused_response}

-- lines and columns are counted from 1 on, where the client doesn't say otherwise
abbrev pub counts_lines_from_one : Text → Data → Bool
counts_lines_from_one name d = unwrap_or (parse_boolean_member name d) true

-- files are named by their paths
abbrev pub is_path_format : Option Text → Bool
is_path_format None = true
is_path_format (Some format) = bytes_eq format (codes "path")

abbrev pub names_files_by_path : Data → Bool
names_files_by_path d = is_path_format (member_as_text (codes "pathFormat") d)

-- a fault that can end a run; it does until the client says otherwise
unfoldable pub exception_filter_object : Text → Text → Data
exception_filter_object filter label =
    object (member (codes "default") (boolean true) (member (codes "filter") (string filter) (member (codes "label") (string label) no_members)))

abbrev pub exception_breakpoint_filters : Data
exception_breakpoint_filters =
    array (item (exception_filter_object (codes "stop") (codes "A node stops")) (item (exception_filter_object (codes "stuck") (codes "A node can never go on"))
    (item (exception_filter_object (codes "broken") (codes "An expectation is broken")) no_items)))

-- something that can be asked for
abbrev pub members_with_capability : Text → Members → Members
members_with_capability name rest = member name (boolean true) rest

-- what this debugger can do
unfoldable pub debugger_capabilities : Data → Data
debugger_capabilities faults =
    object (member (codes "exceptionBreakpointFilters") faults (members_with_capability (codes "supportsConditionalBreakpoints") (members_with_capability (codes "supportsConfigurationDoneRequest") (members_with_capability (codes "supportsDataBreakpoints")
    (members_with_capability (codes "supportsDisassembleRequest") (members_with_capability (codes "supportsEvaluateForHovers") (members_with_capability (codes "supportsExceptionInfoRequest")
    (members_with_capability (codes "supportsFunctionBreakpoints") (members_with_capability (codes "supportsHitConditionalBreakpoints") (members_with_capability (codes "supportsInstructionBreakpoints") (members_with_capability (codes "supportsStepBack")
    (members_with_capability (codes "supportsSteppingGranularity") (members_with_capability (codes "supportsTerminateRequest") no_members)))))))))))))

-- what the client does otherwise than this debugger
abbrev pub unsupported_client_option : Data → Option Text
unsupported_client_option d =
    if not (counts_lines_from_one (codes "linesStartAt1") d) then Some (codes "initialize: lines are counted from 1 on")
    else if not (counts_lines_from_one (codes "columnsStartAt1") d) then Some (codes "initialize: columns are counted from 1 on")
    else if not (names_files_by_path d) then Some (codes "initialize: files are named by paths")
    else None

abbrev pub initialize_response : ClientRequest → Option Text → Message
initialize_response request None = success_response request (debugger_capabilities exception_breakpoint_filters)
initialize_response request (Some why) = refused_response request why

abbrev pub AnswersInitialize : ClientRequest → Message → Type 0
AnswersInitialize request message = message ≡ initialize_response request (unsupported_client_option (view request.arguments))
