-- The requests that set breakpoints (Debug Adapter Protocol, "SetBreakpointsRequest", "SetFunctionBreakpointsRequest", "SetInstructionBreakpointsRequest",
-- "SetDataBreakpointsRequest", "SetExceptionBreakpointsRequest"). Each replaces those that the same request set before.
use Rattle.std.specs.Prelude.{◌≡◌, ◌==◌, ℕ, List, [], map, filter, length, replicate, Bool, true, false, not, ◌||◌, codes, bytes_eq, string_bytes, Option, Some, None}
use Rattle.std.specs.List.{list_all, list_any}
use Rattle.serde_json.specs.Data.{Data, boolean, string, object, array, no_members, member}
use Rattle.serde_json.specs.View.{view, items_of}
use Rattle.serde_json.specs.Find.{get, as_str}
use Rattle.ga_text.specs.Lines.{Text}
use Rattle.ga_dap_views.specs.Json.{json_object_of_member}
use Rattle.ga_dap_protocol.specs.Messages.{member_as_text}
use Rattle.ga_dap_protocol.specs.declared.request.ClientRequest.{ClientRequest}
use Rattle.ga_dap_queries.specs.declared.debuggee.Debuggee.{Debuggee}
use Rattle.ga_dap_control.specs.declared.configuration.Configuration.{Configuration}
use Rattle.ga_dap_control.specs.declared.configuration.BreakpointKind.{BreakpointKind}
use Rattle.ga_dap_control.specs.declared.configuration.BreakpointKind.TheVariants as family
use Rattle.ga_dap_control.specs.declared.configuration.PlacedBreakpoint.{PlacedBreakpoint}
use Rattle.ga_dap_control.specs.Placing.{BreakpointPlacement, PlacesBreakpoints}
use Rattle.ga_dap_queries.specs.Arguments.{member_list_values}
use Rattle.ga_dap_queries.specs.Sending.{Message, success_response, bare_success_response, refused_response}

-- ---- breakpoints

-- a request that sets breakpoints, by a number; and another request set a breakpoint
abbrev pub breakpoint_kind_number : BreakpointKind → ℕ
breakpoint_kind_number family.Source = 0
breakpoint_kind_number family.Function = 1
breakpoint_kind_number family.Instruction = 2
breakpoint_kind_number family.Data = 3

abbrev pub is_other_breakpoint_kind : BreakpointKind → PlacedBreakpoint → Bool
is_other_breakpoint_kind kind one = not (breakpoint_kind_number one.family == breakpoint_kind_number kind)

-- the breakpoints that other requests set remain, and the requested ones follow them
abbrev pub breakpoints_of_other_kinds : BreakpointKind → Configuration → BreakpointPlacement
breakpoints_of_other_kinds kind set = record { told = []; placed = filter (is_other_breakpoint_kind kind) set.points.placed.items; next = set.points.next_id }

-- these breakpoints are set now, and what else the client set stays
pub record AreBreakpointsSet (placement : BreakpointPlacement) (set new : Configuration) : Type 0 where
  pub placed : new.points.placed.items ≡ placement.placed
  pub points : new.points.points.items ≡ map (λ (one : PlacedBreakpoint). one.breakpoint) placement.placed
  pub next : new.points.next_id ≡ placement.next
  pub others : new ≡ record set { points = new.points }

abbrev pub breakpoints_body : List Data → Data
breakpoints_body told = json_object_of_member (codes "breakpoints") (array (items_of told))

abbrev pub ReplacesBreakpoints : Debuggee → BreakpointKind → Configuration → ClientRequest → Message → Configuration → Type 0
ReplacesBreakpoints p kind set request message new =
    (placement : BreakpointPlacement) × PlacesBreakpoints p kind (member_list_values (codes "breakpoints") (view request.arguments)) (breakpoints_of_other_kinds kind set) placement
    × (message ≡ success_response request (breakpoints_body placement.told)) × AreBreakpointsSet placement set new

-- `setBreakpoints`, for the program's own file; in another no breakpoint can stand
abbrev pub equals_optional_text : Text → Option Text → Bool
equals_optional_text name None = false
equals_optional_text name (Some text) = bytes_eq text name

abbrev pub source_has_path : Text → Option Data → Bool
source_has_path path None = false
source_has_path path (Some source) = equals_optional_text path (member_as_text (codes "path") source)

abbrev pub is_program_file : Debuggee → Data → Bool
is_program_file p d = source_has_path (string_bytes p.path) (get (codes "source") d)

unfoldable pub other_file_breakpoint_object : Data
other_file_breakpoint_object = object (member (codes "message") (string (codes "the program is another file")) (member (codes "verified") (boolean false) no_members))

abbrev pub SetsLineBreakpointsIfOwnFile : Bool → Debuggee → Configuration → ClientRequest → Message → Configuration → Type 0
SetsLineBreakpointsIfOwnFile true p set request message new = ReplacesBreakpoints p family.Source set request message new
SetsLineBreakpointsIfOwnFile false p set request message new =
    (message ≡ success_response request (breakpoints_body (replicate (length (member_list_values (codes "breakpoints") (view request.arguments))) other_file_breakpoint_object))) × (new ≡ set)

abbrev pub SetsLineBreakpoints : Debuggee → Configuration → ClientRequest → Message → Configuration → Type 0
SetsLineBreakpoints p set request message new = SetsLineBreakpointsIfOwnFile (is_program_file p (view request.arguments)) p set request message new

-- ---- filters

abbrev pub is_json_string_equal_to : Text → Data → Bool
is_json_string_equal_to name d = equals_optional_text name (as_str d)

-- a filter: a node that stops, one that can never go on, or an event that breaks an expectation of the source ends a run
abbrev pub is_exception_filter_name : Data → Bool
is_exception_filter_name d = (is_json_string_equal_to (codes "stop") d || is_json_string_equal_to (codes "stuck") d) || is_json_string_equal_to (codes "broken") d

-- the requested filters are set, if each is one
abbrev pub SetsExceptionFiltersIfKnown : Bool → List Data → Configuration → ClientRequest → Message → Configuration → Type 0
SetsExceptionFiltersIfKnown true names set request message new =
    (message ≡ bare_success_response request)
    × (new
    ≡ record set {
      stops = list_any (is_json_string_equal_to (codes "stop")) names;
      stuck = list_any (is_json_string_equal_to (codes "stuck")) names;
      broken = list_any (is_json_string_equal_to (codes "broken")) names;
    })
SetsExceptionFiltersIfKnown false names set request message new =
    (message ≡ refused_response request (codes "setExceptionBreakpoints: the filters are stop, stuck and broken")) × (new ≡ set)

abbrev pub SetsExceptionFilters : Configuration → ClientRequest → Message → Configuration → Type 0
SetsExceptionFilters set request message new =
    let names = member_list_values (codes "filters") (view request.arguments) in SetsExceptionFiltersIfKnown (list_all is_exception_filter_name names) names set request message new
