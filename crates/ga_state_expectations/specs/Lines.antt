-- What the lines of a source expect (docs/REFERENCE.md, "Expectations"; this project's own): of each node in whose program a line is, unless the
-- line names another node or speaks of all.
use Rattle.std.specs.Prelude.{ℕ, ◌==◌, length, Bool, true, false, ◌&&◌, ◌||◌, not, if◌then◌else◌, List, [], ◌∷◌, ◌++◌, flat_map, position, slice_get, codes, bytes_eq, Option, Some, None, option_and_then, is_some, Result, Ok, Err}
use Rattle.ga_text.specs.Lines.{Text}
use Rattle.ga_text.specs.Digits.{name_of_node}
use Rattle.ga_grid.specs.declared.node_id.NodeId.{NodeId}
use Rattle.ga_debug_info.specs.declared.notes.DebugInfo.{DebugInfo}
use Rattle.ga_parser.specs.declared.expectations.ExpectationLine.{ExpectationLine}
use Rattle.ga_state_expectations.specs.declared.source.Expectation.{Expectation}
use Rattle.ga_state_expectations.specs.declared.source.LineExpectation.{LineExpectation}
use Rattle.ga_state_expectations.specs.declared.cause.ExpectationFaultCause.{ExpectationFaultCause}
use Rattle.ga_state_expectations.specs.declared.cause.ExpectationFault.{ExpectationFault}
use Rattle.ga_state_expectations.specs.declared.cause.ExpectationsError.{ExpectationsError}
use Rattle.ga_state_expectations.specs.declared.cause.ExpectationsError.TheVariants.{Memory, FaultyLines}
use Rattle.ga_state_expectations.specs.Spelling.{split_first_word, is_whole_chip_keyword, begins_with_digit, parsed_expectation}

-- ---- of which nodes a line speaks

-- the text says itself of what it speaks: a node, a link, or all nodes
abbrev pub names_expectation_subject : Text → Bool
names_expectation_subject text =
    bytes_eq (split_first_word text).0 (codes "never")
    || (bytes_eq (split_first_word text).0 (codes "pass") || (is_whole_chip_keyword (split_first_word text).0 || begins_with_digit (split_first_word text).0))

abbrev pub is_nonempty_node_list : List NodeId → Bool
is_nonempty_node_list [] = false
is_nonempty_node_list (node ∷ nodes) = true

-- the line speaks of each node in whose program it is
abbrev pub applies_to_nodes_of_own_program : ExpectationLine → Bool
applies_to_nodes_of_own_program line = is_nonempty_node_list line.nodes.items && not (names_expectation_subject line.text.items)

-- ---- faults

abbrev pub expectation_parse_fault_cause : Result Expectation ExpectationFaultCause → Option ExpectationFaultCause
expectation_parse_fault_cause (Ok expectation) = None
expectation_parse_fault_cause (Err cause) = Some cause

abbrev pub node_expectation_fault_cause : Option DebugInfo → Text → NodeId → Option ExpectationFaultCause
node_expectation_fault_cause notes text node = expectation_parse_fault_cause (parsed_expectation notes (Some node) text)

-- the text says nothing of the node
abbrev pub is_expectation_faulty_for_node : Option DebugInfo → Text → NodeId → Bool
is_expectation_faulty_for_node notes text node = is_some (node_expectation_fault_cause notes text node)

abbrev pub fault_cause_for_optional_node : Option DebugInfo → Text → Option NodeId → Option ExpectationFaultCause
fault_cause_for_optional_node notes text None = None
fault_cause_for_optional_node notes text (Some node) = node_expectation_fault_cause notes text node

-- what is wrong with what a text says of the first node of which it says nothing
abbrev pub first_faulty_node_cause : Option DebugInfo → Text → List NodeId → Option ExpectationFaultCause
first_faulty_node_cause notes text nodes = fault_cause_for_optional_node notes text (option_and_then (slice_get nodes) (position (is_expectation_faulty_for_node notes text) nodes))

abbrev pub line_expectation_fault_cause : Option DebugInfo → ExpectationLine → Option ExpectationFaultCause
line_expectation_fault_cause notes line =
    if applies_to_nodes_of_own_program line then first_faulty_node_cause notes line.text.items line.nodes.items else expectation_parse_fault_cause (parsed_expectation notes None line.text.items)

abbrev pub faults_of_optional_cause_at_line : ℕ → Option ExpectationFaultCause → List ExpectationFault
faults_of_optional_cause_at_line line None = []
faults_of_optional_cause_at_line line (Some cause) = record { line = line; cause = cause } ∷ []

-- the fault of a line, if it has one
abbrev pub expectation_faults_of_line : Option DebugInfo → ExpectationLine → List ExpectationFault
expectation_faults_of_line notes line = faults_of_optional_cause_at_line line.line (line_expectation_fault_cause notes line)

abbrev pub expectation_faults_of_lines : Option DebugInfo → List ExpectationLine → List ExpectationFault
expectation_faults_of_lines notes lines = flat_map (expectation_faults_of_line notes) lines

-- ---- expectations

-- an expectation with its line and how it is written
pub record LineExpectationContent : Type 0 where
  pub line : ℕ
  pub text : Text
  pub expectation : Expectation

abbrev pub line_expectation_content : LineExpectation → LineExpectationContent
line_expectation_content one = record { line = one.line; text = one.text.items; expectation = one.expectation }

-- a text with the name of a node in front
abbrev pub text_after_node_name : NodeId → Text → Text
text_after_node_name node text = name_of_node node ++ 32 ∷ text

abbrev pub line_expectation_if_parsed : ℕ → Text → Result Expectation ExpectationFaultCause → List LineExpectationContent
line_expectation_if_parsed line text (Ok expectation) = record { line = line; text = text; expectation = expectation } ∷ []
line_expectation_if_parsed line text (Err cause) = []

-- what a line expects of a node of its program
abbrev pub line_expectations_for_node : Option DebugInfo → ExpectationLine → NodeId → List LineExpectationContent
line_expectations_for_node notes line node =
    line_expectation_if_parsed line.line (text_after_node_name node line.text.items) (parsed_expectation notes (Some node) line.text.items)

abbrev pub line_expectations : Option DebugInfo → ExpectationLine → List LineExpectationContent
line_expectations notes line =
    if applies_to_nodes_of_own_program line then flat_map (line_expectations_for_node notes line) line.nodes.items
    else line_expectation_if_parsed line.line line.text.items (parsed_expectation notes None line.text.items)

abbrev pub expectations_of_source_lines : Option DebugInfo → List ExpectationLine → List LineExpectationContent
expectations_of_source_lines notes lines = flat_map (line_expectations notes) lines

-- the expectations, unless a line is at fault
abbrev pub expectations_unless_faulty : List LineExpectationContent → List ExpectationFault → Result (List LineExpectationContent) (List ExpectationFault)
expectations_unless_faulty expectations [] = Ok expectations
expectations_unless_faulty expectations (fault ∷ faults) = Err (fault ∷ faults)

-- what lines expect, or the fault of each line that has one
abbrev pub expectations_or_faults_of_lines : Option DebugInfo → List ExpectationLine → Result (List LineExpectationContent) (List ExpectationFault)
expectations_or_faults_of_lines notes lines = expectations_unless_faulty (expectations_of_source_lines notes lines) (expectation_faults_of_lines notes lines)

-- the lines that say what is expected, where there is source
abbrev pub expectation_lines_of_source : Option DebugInfo → List ExpectationLine
expectation_lines_of_source None = []
expectation_lines_of_source (Some notes) = notes.expectations.items

-- what a source expects, or the faults of its lines
abbrev pub source_expectations : Option DebugInfo → Result (List LineExpectationContent) (List ExpectationFault)
source_expectations notes = expectations_or_faults_of_lines notes (expectation_lines_of_source notes)

-- what is so of the faults, if memory sufficed
abbrev pub HoldsForExpectationFaults : ExpectationsError → (List ExpectationFault → Type 0) → Type 0
HoldsForExpectationFaults Memory P = Unit {0}
HoldsForExpectationFaults (FaultyLines faults) P = P faults.items

abbrev pub expectations_if_known : Result (List LineExpectationContent) (List ExpectationFault) → List LineExpectationContent
expectations_if_known (Ok expectations) = expectations
expectations_if_known (Err faults) = []

-- what a source expects; nothing if a line of it has a fault
abbrev pub known_expectations : Option DebugInfo → List LineExpectationContent
known_expectations notes = expectations_if_known (source_expectations notes)

-- no line of the source says what is expected
abbrev pub expects_nothing : Option DebugInfo → Bool
expects_nothing notes = length (expectation_lines_of_source notes) == 0
