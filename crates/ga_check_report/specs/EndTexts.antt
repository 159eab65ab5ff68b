-- What `ga144 check` prints of the ends of a program, whatever the order in which its nodes run (docs/REFERENCE.md, "Every order"; this
-- project's own): the number of states, each kind of end with what the nodes do there, and whether some order never comes to an end.
use Rattle.std.specs.Prelude.{ℕ, ◌+◌, ◌==◌, Bool, true, false, if◌then◌else◌, List, [], ◌∷◌, ◌++◌, length, codes, decimal, slice_index_or, Option, Some, None}
use Rattle.ga_text.specs.Lines.{Text}
use Rattle.ga_explorer_text.specs.Waiting.{name_text_of_node, concatenated_node_texts}
use Rattle.ga_state_search.specs.declared.fault.SearchFault.{SearchFault}
use Rattle.ga_state_search.specs.declared.fault.SearchFault.TheVariants as fault
use Rattle.ga_state_ends.specs.Ends.{EndSearchResult}
use Rattle.ga_state_ends.specs.Decisions.{EndDecision}
use Rattle.ga_state_ends.specs.declared.end_kind.EndKind.{EndKind}
use Rattle.ga_state_ends.specs.declared.end_kind.NodeEnd.{NodeEnd}
use Rattle.ga_check_report.specs.declared.request.CheckRequest.{CheckRequest}
use Rattle.ga_check_report.specs.DecisionTexts.{end_decision_text}
use Rattle.ga_check_report.specs.declared.end_nodes.EndPart.{EndPart}
use Rattle.ga_check_report.specs.declared.end_nodes.EndPart.TheVariants.{Continuing, Reading, Writing}
use Rattle.ga_state_ends.specs.declared.end_kind.NodeEnd.TheVariants.{KeepsRunning, Idle, Reads, Writes, Stopped}

-- ---- the nodes of an end

-- what a node does at an end
abbrev pub node_end_at : List NodeEnd → ℕ → NodeEnd
node_end_at nodes n = slice_index_or nodes n Idle

-- a node that stopped, and why, after a comma
abbrev pub stopped_node_text : NodeEnd → ℕ → Text
stopped_node_text KeepsRunning n = []
stopped_node_text Idle n = []
stopped_node_text Reads n = []
stopped_node_text Writes n = []
stopped_node_text (Stopped code) n = codes ", " ++ name_text_of_node n ++ codes " stop " ++ decimal code

-- a node after a blank, if it is to be named
abbrev pub optional_node_name_text : Bool → ℕ → Text
optional_node_name_text true n = codes " " ++ name_text_of_node n
optional_node_name_text false n = []

-- a node that can always make another step
abbrev pub can_node_continue : NodeEnd → Bool
can_node_continue KeepsRunning = true
can_node_continue Idle = false
can_node_continue Reads = false
can_node_continue Writes = false
can_node_continue (Stopped code) = false

-- a node that waits to read
abbrev pub waits_to_read : NodeEnd → Bool
waits_to_read KeepsRunning = false
waits_to_read Idle = false
waits_to_read Reads = true
waits_to_read Writes = false
waits_to_read (Stopped code) = false

-- a node that waits to write
abbrev pub waits_to_write : NodeEnd → Bool
waits_to_write KeepsRunning = false
waits_to_write Idle = false
waits_to_write Reads = false
waits_to_write Writes = true
waits_to_write (Stopped code) = false

-- a node of this part
abbrev pub is_node_end_in_part : EndPart → NodeEnd → Bool
is_node_end_in_part Continuing end = can_node_continue end
is_node_end_in_part Reading end = waits_to_read end
is_node_end_in_part Writing end = waits_to_write end

abbrev pub stopped_nodes_text : List NodeEnd → Text
stopped_nodes_text nodes = concatenated_node_texts (λ n. stopped_node_text (node_end_at nodes n) n) 0 144

-- the nodes of this part
abbrev pub end_part_names_text : EndPart → List NodeEnd → Text
end_part_names_text part nodes = concatenated_node_texts (λ n. optional_node_name_text (is_node_end_in_part part (node_end_at nodes n)) n) 0 144

-- the nodes that make no further step and don't rest cleanly
abbrev pub unclean_node_names_text : List Bool → Text
unclean_node_names_text unclean = concatenated_node_texts (λ n. optional_node_name_text (slice_index_or unclean n false) n) 0 144

-- ---- the line of a kind of end

-- some nodes between two texts; nothing where there are none
abbrev pub names_between_texts : Text → Text → Text → Text
names_between_texts before after [] = []
names_between_texts before after (blank ∷ names) = before ++ (blank ∷ names) ++ after

-- what the nodes do that make no further step, each part after a comma: those that stopped, those that wait to read, those that wait to write
abbrev pub halted_nodes_text : Text → Text → Text → Text
halted_nodes_text stops reading writing =
    stops ++ names_between_texts (codes ",") (codes " waiting to read") reading ++ names_between_texts (codes ",") (codes " waiting to write") writing

-- an end at which no node runs on; the first part has no comma before it
abbrev pub quiet_end_text : Text → Text
quiet_end_text [] = codes "ends quiet"
quiet_end_text (comma ∷ still) = codes "ends with" ++ still

-- an end at which these nodes go on
abbrev pub endless_end_text : Text → Text → Text
endless_end_text going [] = codes "goes on for ever" ++ going
endless_end_text going (comma ∷ still) = codes "goes on for ever" ++ going ++ codes ", with" ++ still

-- an end at which these nodes go on, and the others do this
abbrev pub end_description_text : Text → Text → Text
end_description_text [] still = quiet_end_text still
end_description_text (blank ∷ going) still = endless_end_text (blank ∷ going) still

abbrev pub node_ends_text : List NodeEnd → Text
node_ends_text nodes = end_description_text (end_part_names_text Continuing nodes) (halted_nodes_text (stopped_nodes_text nodes) (end_part_names_text Reading nodes) (end_part_names_text Writing nodes))

-- how many ends are of the kind, if they are several
abbrev pub ends_of_kind_count_text : ℕ → Text
ends_of_kind_count_text ends = if ends == 1 then [] else codes ", in " ++ decimal ends ++ codes " ways"

-- the line of a kind of end, which has this number
abbrev pub end_kind_line : ℕ → Text → ℕ → Text
end_kind_line number end ends = end ++ ends_of_kind_count_text ends ++ codes ": --session " ++ decimal number ++ codes "\n"

-- the line of the nodes that don't rest cleanly, if there are any
abbrev pub unclean_nodes_line : Text → Text
unclean_nodes_line nodes = names_between_texts (codes "  not clean:") (codes "\n") nodes

abbrev pub end_kind_text : ℕ → EndKind → Text
end_kind_text number kind = end_kind_line number (node_ends_text kind.nodes) kind.ends ++ unclean_nodes_line (unclean_node_names_text kind.unclean)

-- the lines of a kind of end, and the line of what decides that it isn't clean
abbrev pub end_kind_with_decision_text : ℕ → EndKind → Option EndDecision → Text
end_kind_with_decision_text number kind decision = end_kind_text number kind ++ end_decision_text decision

-- the lines of the kinds from this place on, and of each what decides; the kinds are numbered from 1 on
abbrev pub end_kinds_text : List (Option EndDecision) → ℕ → List EndKind → Text
end_kinds_text decisions place [] = []
end_kinds_text decisions place (kind ∷ kinds) =
    end_kind_with_decision_text (place + 1) kind (slice_index_or decisions place None) ++ end_kinds_text decisions (place + 1) kinds

-- ---- the whole answer

-- a number of things
abbrev pub counted_noun_text : ℕ → Text → Text
counted_noun_text n thing = decimal n ++ thing ++ (if n == 1 then [] else codes "s")

-- there may be more
abbrev pub at_least_text : Bool → Text
at_least_text true = []
at_least_text false = codes "at least "

-- each state was explored
abbrev pub is_fully_explored : Option SearchFault → Bool
is_fully_explored None = true
is_fully_explored (Some fault) = false

-- the numbers of states and of kinds of end
abbrev pub ends_header : Bool → ℕ → ℕ → Text
ends_header whole states kinds =
    at_least_text whole ++ counted_noun_text states (codes " state") ++ codes ", " ++ at_least_text whole ++ counted_noun_text kinds (codes " kind") ++ codes " of end\n"

-- why the search stopped before its end, and which option lets it go on
abbrev pub search_stop_text : CheckRequest → SearchFault → Text
search_stop_text request fault.Full = codes "stopped at --most " ++ decimal request.most ++ codes " states\n"
search_stop_text request fault.Stopped = codes "stopped after --seconds " ++ decimal request.seconds ++ codes "\n"
search_stop_text request fault.Memory = codes "stopped: no memory for more states\n"
search_stop_text request fault.ExceedsAssumptions = codes "stopped: begun anew too often\n"

-- whether some order never comes to an end; nothing where it can go on for ever at an end alone
abbrev pub termination_text : Bool → Bool → Text
termination_text true cycle = codes "it can go on for ever before\n"
termination_text false true = []
termination_text false false = codes "every order comes to an end\n"

-- the last line: which bound was met, or whether some order never comes to an end
abbrev pub final_line_text : CheckRequest → Option SearchFault → Bool → Bool → Text
final_line_text request None before cycle = termination_text before cycle
final_line_text request (Some fault) before cycle = search_stop_text request fault

-- the head, the lines of these kinds, and the last line
abbrev pub ends_report_text : CheckRequest → EndSearchResult → List EndKind → Text
ends_report_text request found kinds =
    ends_header (is_fully_explored found.fault) (length found.searched.chips) (length kinds) ++ end_kinds_text found.decisions 0 kinds
    ++ final_line_text request found.fault found.has_cycle_before found.has_cycle

abbrev pub ends_text : CheckRequest → EndSearchResult → Text
ends_text request found = ends_report_text request found found.kinds

-- there is no kind of end of this number: there are as many as were found, or at least as many
abbrev pub no_such_end_kind_text : ℕ → EndSearchResult → Text
no_such_end_kind_text asked found =
    codes "no kind " ++ decimal asked ++ codes ": there are " ++ at_least_text (is_fully_explored found.fault) ++ decimal (length found.kinds) ++ codes "\n"
