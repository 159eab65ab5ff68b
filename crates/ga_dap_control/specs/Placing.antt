-- Where the requested breakpoints are (Debug Adapter Protocol, "SourceBreakpoint", "FunctionBreakpoint",
-- "InstructionBreakpoint", "DataBreakpoint"), and what is sent for each ("Breakpoint").
use Rattle.std.specs.Prelude.{◌≡◌, ℕ, ◌+◌, ◌%◌, ◌^◌, ◌==◌, nat_lt, Bool, true, false, not, ◌&&◌, ◌||◌, if◌then◌else◌, is_some, List, [], ◌∷◌, ◌++◌, take, drop, length, slice_index, position, codes, bytes_eq, string_bytes, Option, Some, None, option_map, option_and_then, Result, Ok, Err}
use Rattle.std.specs.List.{slice_get}
use Rattle.serde_json.specs.Data.{Data, string, boolean, object, no_members, member}
use Rattle.ga_text.specs.Lines.{Text}
use Rattle.ga_text.specs.Parsing.{parse_node, u32_if_fits}
use Rattle.ga_grid.specs.declared.node_id.NodeId.{NodeId}
use Rattle.ga_debug_info.specs.declared.notes.LabelAddress.{LabelAddress}
use Rattle.ga_debug_info.specs.declared.notes.DebugInfo.{DebugInfo}
use Rattle.ga_debug_info.specs.Notes.{label_address_of_node}
use Rattle.ga_dap_views.specs.Json.{json_whole_number}
use Rattle.ga_dap_breakpoints.specs.declared.back.WatchedAction.TheVariants.{WritesWatchedCell}
use Rattle.ga_dap_breakpoints.specs.declared.breakpoint.Breakpoint.{Breakpoint}
use Rattle.ga_dap_breakpoints.specs.declared.breakpoint.LineBreakpoint.{LineBreakpoint}
use Rattle.ga_scheduler.specs.Values.{is_test_number_in_range}
use Rattle.ga_scheduler.specs.declared.value_test.ValueTest.{ValueTest}
use Rattle.ga_conditions.specs.Tests.{parsed_value_test}
use Rattle.serde_json.specs.Find.{get, as_str, as_null}
use Rattle.ga_dap_breakpoints.specs.declared.condition.HitCondition.{HitCondition}
use Rattle.ga_dap_breakpoints.specs.Saying.{parse_hit_condition}
use Rattle.ga_dap_breakpoints.specs.Breakpoints.{breakpoint_of_line, breakpoint_of_address}
use Rattle.ga_dap_protocol.specs.Messages.{member_as_text, member_as_number}
use Rattle.ga_dap_queries.specs.declared.debuggee.Debuggee.{Debuggee}
use Rattle.ga_dap_queries.specs.Disassembling.{IsMemoryReference, signed_member_or_zero, wrapped_address_offset, program_debug_info}
use Rattle.ga_dap_control.specs.declared.configuration.BreakpointKind.{BreakpointKind}
use Rattle.ga_dap_control.specs.declared.configuration.BreakpointKind.TheVariants as family
use Rattle.ga_dap_control.specs.declared.configuration.PlacedBreakpoint.{PlacedBreakpoint}
use Rattle.ga_dap_control.specs.declared.finding.BreakpointLocation.{BreakpointLocation}
use Rattle.ga_dap_control.specs.declared.requested_breakpoint.PlacementError.{PlacementError}
use Rattle.ga_dap_control.specs.declared.requested_breakpoint.PlacementError.TheVariants.{NoSuchPlace, UnreadableCondition, ConditionOutOfRange, UnreadableHitCondition, TooManyCountedBreakpoints}

-- ---- on a line of the source

abbrev pub requested_source_line : Data → Option ℕ
requested_source_line d = option_and_then u32_if_fits (member_as_number (codes "line") d)

abbrev pub location_of_line_breakpoint : LineBreakpoint → BreakpointLocation
location_of_line_breakpoint found = record { breakpoint = found.breakpoint; line = Some found.line }

abbrev pub location_without_line : Breakpoint → BreakpointLocation
location_without_line point = record { breakpoint = point; line = None }

abbrev pub source_breakpoint_location : DebugInfo → Data → Option BreakpointLocation
source_breakpoint_location notes d = option_map location_of_line_breakpoint (option_and_then (breakpoint_of_line notes) (requested_source_line d))

-- ---- at a label: LABEL, or that of one node: NNN LABEL or NNN:LABEL

abbrev pub has_label_text : Text → LabelAddress → Bool
has_label_text label name = bytes_eq name.text.items label

abbrev pub breakpoint_of_label : LabelAddress → Option Breakpoint
breakpoint_of_label name = breakpoint_of_address name.node name.address

-- a breakpoint at the label of the first node that has it
abbrev pub breakpoint_of_any_label : List LabelAddress → Text → Option Breakpoint
breakpoint_of_any_label names label = option_and_then breakpoint_of_label (option_and_then (slice_get names) (position (has_label_text label) names))

abbrev pub breakpoint_of_node_label : List LabelAddress → NodeId → Text → Option Breakpoint
breakpoint_of_node_label names node label = option_and_then (breakpoint_of_address node) (label_address_of_node names node label)

abbrev pub has_node_prefix : Text → Bool
has_node_prefix text = nat_lt 3 (length text) && (slice_index text 3 == 58 || slice_index text 3 == 32)

abbrev pub node_of_prefix : Text → Option NodeId
node_of_prefix text = if has_node_prefix text then parse_node (take 3 text) else None

abbrev pub breakpoint_after_node_prefix : List LabelAddress → Text → Option NodeId → Option Breakpoint
breakpoint_after_node_prefix names text None = breakpoint_of_any_label names text
breakpoint_after_node_prefix names text (Some node) = breakpoint_of_node_label names node (drop 4 text)

abbrev pub function_breakpoint : List LabelAddress → Text → Option Breakpoint
function_breakpoint names text = breakpoint_after_node_prefix names text (node_of_prefix text)

-- ---- at an address, and of a cell of RAM

abbrev pub instruction_breakpoint_at : ℕ → NodeId × ℕ → Option Breakpoint
instruction_breakpoint_at on at = let address = (at.1 + on) % 4096 in if nat_lt address 256 then breakpoint_of_address at.0 address else None

abbrev pub ram_write_breakpoint : NodeId × ℕ → Option Breakpoint
ram_write_breakpoint at = if nat_lt at.1 128 then Some (record { node = at.0; watched = WritesWatchedCell at.1; condition = None; hits = None }) else None

abbrev pub IsBreakpointOfReference : (NodeId × ℕ → Option Breakpoint) → Option Text → Option Breakpoint → Type 0
IsBreakpointOfReference place None point = point ≡ None
IsBreakpointOfReference place (Some text) point = (at : Option (NodeId × ℕ)) × IsMemoryReference text at × (point ≡ option_and_then place at)

-- ---- the place of one; none if there is no such place

abbrev pub IsBreakpointLocation : Debuggee → BreakpointKind → Data → Option BreakpointLocation → Type 0
IsBreakpointLocation p family.Source d found = found ≡ source_breakpoint_location (program_debug_info p) d
IsBreakpointLocation p family.Function d found =
    found ≡ option_map location_without_line (option_and_then (function_breakpoint (program_debug_info p).names.items) (member_as_text (codes "name") d))
IsBreakpointLocation p family.Instruction d found =
    (point : Option Breakpoint) × IsBreakpointOfReference (instruction_breakpoint_at (wrapped_address_offset (signed_member_or_zero (codes "offset") d))) (member_as_text (codes "instructionReference") d) point
    × (found ≡ option_map location_without_line point)
IsBreakpointLocation p family.Data d found =
    (point : Option Breakpoint) × IsBreakpointOfReference ram_write_breakpoint (member_as_text (codes "dataId") d) point × (found ≡ option_map location_without_line point)

-- ---- which of its hits end a run: an unreadable condition or hit condition is reported, and nothing is set; null means none

-- a member is there, and is neither text nor null
abbrev pub is_neither_text_nor_null : Option Data → Bool
is_neither_text_nor_null None = false
is_neither_text_nor_null (Some given) = not (is_some (as_str given)) && not (is_some (as_null given))

abbrev pub is_member_not_text : Text → Data → Bool
is_member_not_text name d = is_neither_text_nor_null (get name d)

abbrev pub location_with_parsed_condition : BreakpointLocation → Option ValueTest → Result BreakpointLocation PlacementError
location_with_parsed_condition place None = Err UnreadableCondition
location_with_parsed_condition place (Some test) =
    if is_test_number_in_range test then Ok (record place { breakpoint = record place.breakpoint { condition = Some test } }) else Err ConditionOutOfRange

-- the condition may name a label of the breakpoint's node
abbrev pub location_with_condition : List LabelAddress → BreakpointLocation → Bool → Option Text → Result BreakpointLocation PlacementError
location_with_condition names place true text = Err UnreadableCondition
location_with_condition names place false None = Ok place
location_with_condition names place false (Some text) = location_with_parsed_condition place (parsed_value_test names place.breakpoint.node text)

-- hits are counted of the first 64 breakpoints
abbrev pub location_with_parsed_hit_condition : BreakpointLocation → ℕ → Option HitCondition → Result BreakpointLocation PlacementError
location_with_parsed_hit_condition place before None = Err UnreadableHitCondition
location_with_parsed_hit_condition place before (Some hits) =
    if nat_lt before 64 then Ok (record place { breakpoint = record place.breakpoint { hits = Some hits } }) else Err TooManyCountedBreakpoints

abbrev pub location_with_hit_condition : BreakpointLocation → ℕ → Bool → Option Text → Result BreakpointLocation PlacementError
location_with_hit_condition place before true text = Err UnreadableHitCondition
location_with_hit_condition place before false None = Ok place
location_with_hit_condition place before false (Some text) = location_with_parsed_hit_condition place before (parse_hit_condition text)

abbrev pub location_result_with_hit_condition : ℕ → Data → Result BreakpointLocation PlacementError → Result BreakpointLocation PlacementError
location_result_with_hit_condition before d (Err why) = Err why
location_result_with_hit_condition before d (Ok place) = location_with_hit_condition place before (is_member_not_text (codes "hitCondition") d) (member_as_text (codes "hitCondition") d)

abbrev pub location_with_conditions : List LabelAddress → BreakpointLocation → ℕ → Data → Result BreakpointLocation PlacementError
location_with_conditions names place before d = location_result_with_hit_condition before d (location_with_condition names place (is_member_not_text (codes "condition") d) (member_as_text (codes "condition") d))

-- the requested breakpoint, given the number of breakpoints before it; else why it is not set
abbrev pub requested_breakpoint : List LabelAddress → Option BreakpointLocation → ℕ → Data → Result BreakpointLocation PlacementError
requested_breakpoint names None before d = Err NoSuchPlace
requested_breakpoint names (Some place) before d = location_with_conditions names place before d

-- ---- what is sent for one, by its number

abbrev pub no_location_text : BreakpointKind → Text
no_location_text family.Source = codes "no code stands on this line or behind it"
no_location_text family.Function = codes "no node has this label"
no_location_text family.Instruction = codes "no such memory"
no_location_text family.Data = codes "no such cell of RAM"

abbrev pub placement_error_text : BreakpointKind → PlacementError → Text
placement_error_text kind NoSuchPlace = no_location_text kind
placement_error_text kind UnreadableCondition = codes "condition: a register or [HH], then = != < <= > or >=, then a number, port or label"
placement_error_text kind ConditionOutOfRange = codes "condition: the number is past 0x3ffff, the last word"
placement_error_text kind UnreadableHitCondition = codes "hitCondition: N, >= N or % N, from 1 on"
placement_error_text kind TooManyCountedBreakpoints = codes "hitCondition: hits are counted of 64 breakpoints at most"

unfoldable pub unverified_breakpoint_object : ℕ → Text → Data
unverified_breakpoint_object id why =
    object (member (codes "id") (json_whole_number id) (member (codes "message") (string why) (member (codes "verified") (boolean false) no_members)))

unfoldable pub verified_breakpoint_object : ℕ → Data
verified_breakpoint_object id = object (member (codes "id") (json_whole_number id) (member (codes "verified") (boolean true) no_members))

unfoldable pub verified_line_breakpoint_object : Text → Text → ℕ → ℕ → Data
verified_line_breakpoint_object name path id line =
    object (member (codes "id") (json_whole_number id) (member (codes "line") (json_whole_number line)
    (member (codes "source") (object (member (codes "name") (string name) (member (codes "path") (string path) no_members)))
    (member (codes "verified") (boolean true) no_members))))

abbrev pub breakpoint_object_with_line_if_any : Debuggee → ℕ → Option ℕ → Data
breakpoint_object_with_line_if_any p id None = verified_breakpoint_object id
breakpoint_object_with_line_if_any p id (Some line) = verified_line_breakpoint_object (string_bytes p.name) (string_bytes p.path) id line

abbrev pub breakpoint_object : Debuggee → BreakpointKind → ℕ → Result BreakpointLocation PlacementError → Data
breakpoint_object p kind id (Err why) = unverified_breakpoint_object id (placement_error_text kind why)
breakpoint_object p kind id (Ok found) = breakpoint_object_with_line_if_any p id found.line

-- ---- those of a request, one after another: what was sent for them, the breakpoints that are set, and the number of the next
-- one

pub record BreakpointPlacement : Type 0 where
  pub told : List Data
  pub placed : List PlacedBreakpoint
  pub next : ℕ

abbrev pub placed_breakpoint_or_empty : BreakpointKind → ℕ → Result BreakpointLocation PlacementError → List PlacedBreakpoint
placed_breakpoint_or_empty kind id (Err why) = []
placed_breakpoint_or_empty kind id (Ok found) = record { breakpoint = found.breakpoint; family = kind; id = id } ∷ []

abbrev pub placement_after_breakpoint : Debuggee → BreakpointKind → Result BreakpointLocation PlacementError → BreakpointPlacement → BreakpointPlacement
placement_after_breakpoint p kind found old =
    record { told = old.told ++ breakpoint_object p kind old.next found ∷ []; placed = old.placed ++ placed_breakpoint_or_empty kind old.next found; next = (old.next + 1) % 2 ^ 64 }

abbrev pub PlacesBreakpoint : Debuggee → BreakpointKind → Data → BreakpointPlacement → BreakpointPlacement → Type 0
PlacesBreakpoint p kind d old new = (found : Option BreakpointLocation) × IsBreakpointLocation p kind d found × (new ≡ placement_after_breakpoint p kind (requested_breakpoint (program_debug_info p).names.items found (length old.placed) d) old)

abbrev pub PlacesBreakpoints : Debuggee → BreakpointKind → List Data → BreakpointPlacement → BreakpointPlacement → Type 0
PlacesBreakpoints p kind [] old new = new ≡ old
PlacesBreakpoints p kind (d ∷ rest) old new = (between : BreakpointPlacement) × PlacesBreakpoint p kind d old between × PlacesBreakpoints p kind rest between new
