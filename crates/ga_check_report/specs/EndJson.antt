-- What `ga144 check --json` prints of the ends of a program (docs/JSON.md; this project's own): the search; of each kind of end an object with a row for
-- each node that isn't idle; and the event that decides that it isn't clean, before the other.
use Rattle.std.specs.Prelude.{ℕ, zero, suc, ◌+◌, pos, Bool, true, false, not, ◌||◌, List, [], ◌∷◌, ◌++◌, length, codes, slice_index_or, Option, Some, None}
use Rattle.ga_text.specs.Lines.{Text}
use Rattle.ga_explorer_text.specs.Waiting.{name_text_of_node}
use Rattle.ga_event.specs.declared.made.MadeEvent.{MadeEvent}
use Rattle.ga_json.specs.Values.{JsonValue, boolean, number, string, JsonItems, no_items, item}
use Rattle.ga_json.specs.FieldValues.{text_json}
use Rattle.ga_json.specs.Fields.{NamedValue, json_object, json_report}
use Rattle.ga_json.specs.Compact.{json_line}
use Rattle.ga_state_search.specs.declared.fault.SearchFault.{SearchFault}
use Rattle.ga_state_ends.specs.Ends.{EndSearchResult, is_unclean}
use Rattle.ga_state_ends.specs.Decisions.{EndDecision}
use Rattle.ga_state_ends.specs.declared.end_kind.EndKind.{EndKind}
use Rattle.ga_state_ends.specs.declared.end_kind.NodeEnd.{NodeEnd}
use Rattle.ga_state_ends.specs.declared.end_kind.NodeEnd.TheVariants.{KeepsRunning, Idle, Reads, Writes, Stopped}
use Rattle.ga_check_report.specs.EndTexts.{node_end_at}
use Rattle.ga_check_report.specs.JsonValues.{optional_text_json, search_result_fields}
use Rattle.ga_check_report.specs.EventJson.{event_detail_fields}

-- ---- the row of a node

-- what a node does at an end, in a word
abbrev pub node_end_keyword : NodeEnd → Text
node_end_keyword KeepsRunning = codes "goes on"
node_end_keyword Idle = codes "awaits code"
node_end_keyword Reads = codes "reads"
node_end_keyword Writes = codes "writes"
node_end_keyword (Stopped code) = codes "stop"

abbrev pub node_stop_detail_fields : NodeEnd → List NamedValue
node_stop_detail_fields KeepsRunning = []
node_stop_detail_fields Idle = []
node_stop_detail_fields Reads = []
node_stop_detail_fields Writes = []
node_stop_detail_fields (Stopped code) = (codes "stop", number (pos code)) ∷ []

-- the row of the node of this number, which does this, and makes no further step and doesn't rest cleanly, or not so
abbrev pub node_action_fields : ℕ → Text → Bool → List NamedValue → List NamedValue
node_action_fields n does unclean more =
    (codes "node", string (name_text_of_node n)) ∷ (codes "does", string does) ∷ (codes "clean", boolean (not unclean)) ∷ more

abbrev pub node_end_fields : ℕ → NodeEnd → Bool → List NamedValue
node_end_fields n end unclean = node_action_fields n (node_end_keyword end) unclean (node_stop_detail_fields end)

abbrev pub is_idle_node_end : NodeEnd → Bool
is_idle_node_end KeepsRunning = false
is_idle_node_end Idle = true
is_idle_node_end Reads = false
is_idle_node_end Writes = false
is_idle_node_end (Stopped code) = false

-- a node with a row: it isn't idle, or it isn't clean
abbrev pub is_listed_node_end : NodeEnd → Bool → Bool
is_listed_node_end end unclean = not (is_idle_node_end end) || unclean

abbrev pub optional_json_row : Bool → List NamedValue → JsonItems → JsonItems
optional_json_row true fields rows = item (json_object fields) rows
optional_json_row false fields rows = rows

abbrev pub node_row_fields : EndKind → ℕ → List NamedValue
node_row_fields kind n = node_end_fields n (node_end_at kind.nodes n) (slice_index_or kind.unclean n false)

-- the row of the node of this number, if it has one, and rows after it
abbrev pub end_node_row : EndKind → ℕ → JsonItems → JsonItems
end_node_row kind n rows = optional_json_row (is_listed_node_end (node_end_at kind.nodes n) (slice_index_or kind.unclean n false)) (node_row_fields kind n) rows

-- the rows of a number of nodes, from this one on
unfoldable pub end_node_rows : EndKind → ℕ → ℕ → JsonItems
end_node_rows kind n zero = no_items
end_node_rows kind n (suc more) = end_node_row kind n (end_node_rows kind (n + 1) more)

-- ---- a kind of end, which has this number

abbrev pub end_kind_fields : Text → ℕ → EndKind → List NamedValue
end_kind_fields file place kind =
    (codes "answer", string (codes "end")) ∷ (codes "file", text_json file) ∷ (codes "number", number (pos place)) ∷ (codes "clean", boolean (not (is_unclean kind)))
    ∷ (codes "ways", number (pos kind.ends)) ∷ []

abbrev pub end_kind_object : Text → ℕ → EndKind → JsonValue
end_kind_object file place kind = json_report (end_kind_fields file place kind) (end_node_rows kind 0 144)

-- an event of what decides: it was taken, or the other could have been
abbrev pub decision_json_fields : Text → ℕ → Bool → List NamedValue
decision_json_fields file place taken =
    (codes "answer", string (codes "decision")) ∷ (codes "file", text_json file) ∷ (codes "number", number (pos place)) ∷ (codes "taken", boolean taken) ∷ []

abbrev pub decision_json_object : Text → ℕ → Bool → MadeEvent → JsonValue
decision_json_object file place taken made = json_object (decision_json_fields file place taken ++ event_detail_fields made)

abbrev pub decision_json_objects_text : Text → ℕ → Option EndDecision → Text
decision_json_objects_text file place None = []
decision_json_objects_text file place (Some decision) =
    json_line (decision_json_object file place true decision.0) ++ json_line (decision_json_object file place false decision.1)

abbrev pub end_kind_and_decision_objects : Text → ℕ → EndKind → Option EndDecision → Text
end_kind_and_decision_objects file place kind decision = json_line (end_kind_object file place kind) ++ decision_json_objects_text file place decision

-- the objects of the kinds from this place on
abbrev pub end_kinds_objects : Text → List (Option EndDecision) → ℕ → List EndKind → Text
end_kinds_objects file decisions place [] = []
end_kinds_objects file decisions place (kind ∷ kinds) =
    end_kind_and_decision_objects file (place + 1) kind (slice_index_or decisions place None) ++ end_kinds_objects file decisions (place + 1) kinds

-- ---- the whole answer

-- whether some order never ends: before an end, or only at one
abbrev pub endless_path_place_keyword : Bool → Bool → Text
endless_path_place_keyword true cycle = codes "before"
endless_path_place_keyword false true = codes "at an end"
endless_path_place_keyword false false = codes "none"

-- it isn't known if a bound was met
abbrev pub known_endless_path_place_keyword : Option SearchFault → Bool → Bool → Option Text
known_endless_path_place_keyword None before cycle = Some (endless_path_place_keyword before cycle)
known_endless_path_place_keyword (Some fault) before cycle = None

abbrev pub ends_head_fields : Text → EndSearchResult → List NamedValue
ends_head_fields file found =
    search_result_fields (codes "ends") file found
    ++ (codes "kinds", number (pos (length found.kinds))) ∷ (codes "endless", optional_text_json (known_endless_path_place_keyword found.fault found.has_cycle_before found.has_cycle)) ∷ []

abbrev pub ends_json : Text → EndSearchResult → Text
ends_json file found = json_line (json_object (ends_head_fields file found)) ++ end_kinds_objects file found.decisions 0 found.kinds
