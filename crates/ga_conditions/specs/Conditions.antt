-- Conditions of a run and of a search back, as text: words with one space between two of them (docs/REFERENCE.md, "Exploring"; this
-- project's own). Nodes and numbers of steps have the form that they have in the debugger's commands.
use Rattle.std.specs.Prelude.{ℕ, nat_eq, if◌then◌else◌, codes, Option, Some, option_map, option_and_then, zero, suc, ◌==◌, ◌&&◌, List, [], ◌∷◌, ◌++◌, replicate, None}
use Rattle.std.specs.Cmp.Lexicographic.{pointwise}
use Rattle.ga_text.specs.Lines.{Line}
use Rattle.ga_text.specs.Parsing.{parse_number, parts_with_prepended_byte, split_at_space, parse_node}
use Rattle.ga_text.specs.Digits.{hex_byte_value}
use Rattle.ga_ports.specs.Steps.{◌>>=◌}
use Rattle.ga_grid.specs.declared.node_id.NodeId.{NodeId}
use Rattle.ga_scheduler.specs.Values.{is_test_number_in_range}
use Rattle.ga_scheduler.specs.declared.value_test.NodeValue.TheVariants.{P, Cell}
use Rattle.ga_scheduler.specs.declared.value_test.Comparison.TheVariants.{Equal}
use Rattle.ga_scheduler.specs.declared.value_test.ValueTest.{ValueTest}
use Rattle.ga_scheduler.specs.declared.condition.Condition.{Condition}
use Rattle.ga_scheduler.specs.declared.condition.Condition.TheVariants.{Never, PassesWord, PassesNthWord, MakesNumberedStep, AnyNodeStops, GivenNodeStops, GivenNodeWaits, HoldsPlaceValue, ReachesAddress, WritesRamCell as WritesTo, Broken}
use Rattle.ga_debug_info.specs.declared.notes.DebugInfo.{DebugInfo}
use Rattle.ga_debug_info.specs.declared.notes.LabelAddress.{LabelAddress}
use Rattle.ga_debug_info.specs.Notes.{line_address, label_address_of_node}
use Rattle.ga_conditions.specs.Numbers.{word_if_in_range, parsed_hex_word, parsed_operand, first_known_operand}
use Rattle.ga_conditions.specs.Tests.{parsed_comparison, parsed_value_test}

-- ---- a condition: `reach` and `change` hold only at the event that makes it so

-- the labels of a program, where there is source
abbrev pub labels_of_debug_info : Option DebugInfo → List LabelAddress
labels_of_debug_info None = []
labels_of_debug_info (Some notes) = notes.names.items

-- a number that is a word
abbrev pub parse_operand_word : List LabelAddress → NodeId → Line → Option ℕ
parse_operand_word names node text = option_and_then word_if_in_range (parsed_operand names node text)

-- `= NUMBER`
unfoldable pub parse_equal_word : List LabelAddress → NodeId → Line → Option ℕ
parse_equal_word names node text = do
  parts ← split_at_space text
  if pointwise nat_eq parts.0 (codes "=") then parse_operand_word names node parts.1 else None

-- the test, if its number is a word or counts steps
abbrev pub value_test_if_in_range : ValueTest → Option ValueTest
value_test_if_in_range test = if is_test_number_in_range test then Some test else None

-- `VALUE OP NUMBER` of a node
unfoldable pub parse_test_condition : Option DebugInfo → NodeId → Line → Option Condition
parse_test_condition notes node text = do
  test ← parsed_value_test (labels_of_debug_info notes) node text
  possible ← value_test_if_in_range test
  Some (HoldsPlaceValue node possible)

-- `NNN K`
unfoldable pub parse_step_condition : Line → Option Condition
parse_step_condition text = do
  parts ← split_at_space text
  node ← parse_node parts.0
  step ← parse_number parts.1
  Some (MakesNumberedStep node step)

-- `OP NUMBER` of a word that passes
unfoldable pub parse_word_condition : NodeId → NodeId → Line → Line → Option Condition
parse_word_condition writer reader sign text = do
  comparison ← parsed_comparison sign
  word ← parse_operand_word [] reader text
  Some (PassesWord writer reader comparison word)

-- `OP NUMBER` or `J` after `NNN MMM`
abbrev pub link_condition_from_split : NodeId → NodeId → Option (Line × Line) → Line → Option Condition
link_condition_from_split writer reader None text = option_map (PassesNthWord writer reader) (parse_number text)
link_condition_from_split writer reader (Some parts) text = parse_word_condition writer reader parts.0 parts.1

abbrev pub parse_link_condition : NodeId → NodeId → Line → Option Condition
parse_link_condition writer reader text = link_condition_from_split writer reader (split_at_space text) text

-- `NNN MMM OP NUMBER` or `NNN MMM J`
unfoldable pub parse_pass_condition : Line → Option Condition
parse_pass_condition text = do
  first ← split_at_space text
  second ← split_at_space first.1
  writer ← parse_node first.0
  reader ← parse_node second.0
  parse_link_condition writer reader second.1

-- the word at an address of the node's memory is this one
abbrev pub cell_equals_condition : NodeId → ℕ → ℕ → Condition
cell_equals_condition node address word = HoldsPlaceValue node (record { value = Cell address; comparison = Equal; number = word })

-- P of the node is this address
abbrev pub p_equals_condition : NodeId → ℕ → Condition
p_equals_condition node address = HoldsPlaceValue node (record { value = P; comparison = Equal; number = address })

-- `NNN HH = NUMBER`
unfoldable pub parse_memory_condition : Option DebugInfo → Line → Option Condition
parse_memory_condition notes text = do
  first ← split_at_space text
  second ← split_at_space first.1
  node ← parse_node first.0
  address ← hex_byte_value second.0
  word ← parse_equal_word (labels_of_debug_info notes) node second.1
  Some (cell_equals_condition node address word)

-- the address of the first instruction word of a node that a line begins, which only source gives
abbrev pub source_line_address : Option DebugInfo → NodeId → ℕ → Option ℕ
source_line_address None node line = None
source_line_address (Some notes) node line = line_address notes.notes.items node line

-- `line N`
unfoldable pub parse_line_address : Option DebugInfo → NodeId → Line → Line → Option ℕ
parse_line_address notes node name text =
    if pointwise nat_eq name (codes "line") then (do
      line ← parse_number text
      source_line_address notes node line)
    else None

abbrev pub label_or_line_from_split : Option DebugInfo → NodeId → Option (Line × Line) → Line → Option ℕ
label_or_line_from_split notes node None text = label_address_of_node (labels_of_debug_info notes) node text
label_or_line_from_split notes node (Some parts) text = parse_line_address notes node parts.0 parts.1

-- a label, or `line N`
abbrev pub parse_label_or_line : Option DebugInfo → NodeId → Line → Option ℕ
parse_label_or_line notes node text = label_or_line_from_split notes node (split_at_space text) text

-- an address, or else a label or a line
abbrev pub parse_address_or_label : Option DebugInfo → NodeId → Line → Option ℕ
parse_address_or_label notes node text = first_known_operand (parsed_hex_word text) (parse_label_or_line notes node text)

-- `NNN X`
unfoldable pub parse_node_and_address : Option DebugInfo → Line → Option (NodeId × ℕ)
parse_node_and_address notes text = do
  parts ← split_at_space text
  node ← parse_node parts.0
  address ← parse_address_or_label notes node parts.1
  Some (node, address)

-- `HH` or `HH = NUMBER` after `NNN`
abbrev pub cell_write_condition_from_split : List LabelAddress → NodeId → Option (Line × Line) → Line → Option Condition
cell_write_condition_from_split names node None text = do
  address ← hex_byte_value text
  Some (WritesTo node address None)
cell_write_condition_from_split names node (Some parts) text = do
  address ← hex_byte_value parts.0
  word ← parse_equal_word names node parts.1
  Some (WritesTo node address (Some word))

abbrev pub parse_cell_write_condition : List LabelAddress → NodeId → Line → Option Condition
parse_cell_write_condition names node text = cell_write_condition_from_split names node (split_at_space text) text

-- `NNN HH` or `NNN HH = NUMBER`
unfoldable pub parse_change_condition : Option DebugInfo → Line → Option Condition
parse_change_condition notes text = do
  parts ← split_at_space text
  node ← parse_node parts.0
  parse_cell_write_condition (labels_of_debug_info notes) node parts.1

-- a condition of one word
unfoldable pub parse_keyword_condition : Line → Option Condition
parse_keyword_condition name = if pointwise nat_eq name (codes "stop") then Some AnyNodeStops else None

-- a condition of a word and what follows it
unfoldable pub condition_by_keyword : Option DebugInfo → Line → Line → Option Condition
condition_by_keyword notes name text =
    if pointwise nat_eq name (codes "stop") then option_map GivenNodeStops (parse_node text)
    else if pointwise nat_eq name (codes "wait") then option_map GivenNodeWaits (parse_node text)
    else if pointwise nat_eq name (codes "step") then parse_step_condition text
    else if pointwise nat_eq name (codes "pass") then parse_pass_condition text
    else if pointwise nat_eq name (codes "mem") then parse_memory_condition notes text
    else if pointwise nat_eq name (codes "p") then (do
      it ← parse_node_and_address notes text
      Some (p_equals_condition it.0 it.1))
    else if pointwise nat_eq name (codes "reach") then (do
      it ← parse_node_and_address notes text
      Some (ReachesAddress it.0 it.1))
    else if pointwise nat_eq name (codes "change") then parse_change_condition notes text
    else (do
      node ← parse_node name
      parse_test_condition notes node text)

abbrev pub parse_split_condition : Option DebugInfo → Option (Line × Line) → Line → Option Condition
parse_split_condition notes None text = parse_keyword_condition text
parse_split_condition notes (Some parts) text = condition_by_keyword notes parts.0 parts.1

abbrev pub parsed_run_condition : Option DebugInfo → Line → Option Condition
parsed_run_condition notes text = parse_split_condition notes (split_at_space text) text

-- ---- conditions with ` or ` between them

-- what follows ` or ` if a text begins with that
unfoldable pub text_after_or_keyword : Line → Option Line
text_after_or_keyword (a ∷ b ∷ c ∷ d ∷ rest) = if (a == 32) && ((b == 111) && ((c == 114) && (d == 32))) then Some rest else None
text_after_or_keyword _ = None

abbrev pub first_or_keyword_split : Option Line → Option (Line × Line) → Option (Line × Line)
first_or_keyword_split None later = later
first_or_keyword_split (Some rest) later = Some ([], rest)

-- what comes before the first ` or ` of a text, and what follows it
abbrev pub split_at_or_keyword : Line → Option (Line × Line)
split_at_or_keyword [] = None
split_at_or_keyword (b ∷ text) = first_or_keyword_split (text_after_or_keyword (b ∷ text)) (parts_with_prepended_byte b (split_at_or_keyword text))

-- the first condition, and those after it if there are some
abbrev pub first_condition_and_rest : Option (Line × Line) → Line → Line × Option Line
first_condition_and_rest None text = (text, None)
first_condition_and_rest (Some parts) text = (parts.0, Some parts.1)

abbrev pub split_first_condition : Line → Line × Option Line
split_first_condition text = first_condition_and_rest (split_at_or_keyword text) text

-- how many are watched at most
abbrev pub condition_limit : ℕ
condition_limit = 8

-- the condition of a run or of a search back: that an expectation is broken, or one of an event
unfoldable pub parsed_condition : Option DebugInfo → Line → Option Condition
parsed_condition notes text = if pointwise nat_eq text (codes "broken") then Some Broken else parsed_run_condition notes text

-- some conditions in front of others
abbrev pub prepend_conditions : List Condition → Option (List Condition) → Option (List Condition)
prepend_conditions front others = option_map (λ more. front ++ more) others

abbrev pub prepend_condition : Option Condition → Option (List Condition) → Option (List Condition)
prepend_condition None others = None
prepend_condition (Some one) others = prepend_conditions (one ∷ []) others

-- the conditions after the first, or otherwise as many that never hold as there are places left
abbrev pub remaining_conditions : ℕ → (Line → Option (List Condition)) → Option Line → Option (List Condition)
remaining_conditions more others None = Some (replicate more Never)
remaining_conditions more others (Some text) = others text

abbrev pub conditions_from_split : Option DebugInfo → ℕ → (Line → Option (List Condition)) → Line × Option Line → Option (List Condition)
conditions_from_split notes more others parts = prepend_condition (parsed_condition notes parts.0) (remaining_conditions more others parts.1)

-- conditions with ` or ` between them, for a number of places
unfoldable pub parsed_conditions_within : Option DebugInfo → ℕ → Line → Option (List Condition)
parsed_conditions_within notes zero text = None
parsed_conditions_within notes (suc more) text = conditions_from_split notes more (parsed_conditions_within notes more) (split_first_condition text)

abbrev pub parsed_run_conditions : Option DebugInfo → Line → Option (List Condition)
parsed_run_conditions notes text = parsed_conditions_within notes condition_limit text

-- the conditions where none is given: each holds never
abbrev pub never_holding_conditions : List Condition
never_holding_conditions = replicate condition_limit Never

-- `until COND or COND ..`
unfoldable pub parsed_until_conditions : Option DebugInfo → Line → Option (List Condition)
parsed_until_conditions notes text = do
  parts ← split_at_space text
  if pointwise nat_eq parts.0 (codes "until") then parsed_run_conditions notes parts.1 else None
