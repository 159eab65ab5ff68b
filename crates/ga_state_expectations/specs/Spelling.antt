-- What a line of source expects of a program, as text: words with one space between two of them, after `expect` (docs/REFERENCE.md,
-- "Expectations"; this project's own). Values, comparisons and numbers are those of conditions.
use Rattle.std.specs.Prelude.{ℕ, zero, suc, ◌+◌, nat_le, Bool, true, false, ◌&&◌, ◌||◌, if◌then◌else◌, List, [], ◌∷◌, ◌++◌, ◌^◌, nat_lt, codes, bytes_eq, Option, Some, None, Result, Ok, Err}
use Rattle.ga_text.specs.Lines.{Text}
use Rattle.ga_text.specs.Parsing.{split_at_space, parse_node}
use Rattle.ga_ports.specs.declared.side.Side.{Side}
use Rattle.ga_ports.specs.declared.side.Side.TheVariants.{Right, Down, Left, Up}
use Rattle.ga_ports.specs.Address.{single_side_set, has_side}
use Rattle.ga_grid.specs.declared.node_id.NodeId.{NodeId}
use Rattle.ga_debug_info.specs.declared.notes.DebugInfo.{DebugInfo}
use Rattle.ga_debug_info.specs.declared.notes.LabelAddress.{LabelAddress}
use Rattle.ga_scheduler.specs.Values.{is_test_number_in_range, is_step_count_value}
use Rattle.ga_scheduler.specs.declared.value_test.NodeValue.{NodeValue}
use Rattle.ga_scheduler.specs.declared.value_test.Comparison.{Comparison}
use Rattle.ga_scheduler.specs.declared.value_test.ValueTest.{ValueTest}
use Rattle.ga_conditions.specs.Conditions.{labels_of_debug_info}
use Rattle.ga_conditions.specs.Numbers.{parsed_operand}
use Rattle.ga_conditions.specs.Tests.{parsed_node_value, parsed_comparison}
use Rattle.ga_races.specs.HappensBefore.{are_neighbours}
use Rattle.ga_state_links.specs.declared.expectation.LinkExpectation.{LinkExpectation}
use Rattle.ga_state_conditions.specs.Asked.{parsed_state_conditions}
use Rattle.ga_state_conditions.specs.declared.condition.StateCondition.{StateCondition}
use Rattle.ga_state_conditions.specs.declared.asked.ConditionFault.{ConditionFault}
use Rattle.ga_state_expectations.specs.declared.expectation.NodeRequirement.{NodeRequirement}
use Rattle.ga_state_expectations.specs.declared.expectation.NodeRequirement.TheVariants.{PassesValueTest, ReadsFromSides, WritesToSide, AwaitsCode, Stopped}
use Rattle.ga_state_expectations.specs.declared.source.Expectation.{Expectation}
use Rattle.ga_state_expectations.specs.declared.source.Expectation.TheVariants.{NodeAtEveryEnd, Never as IsNever, LinkPassesWords, EveryOrderEnds, OneEnd}
use Rattle.ga_state_expectations.specs.declared.cause.ExpectationFaultCause.{ExpectationFaultCause}
use Rattle.ga_state_expectations.specs.declared.cause.ExpectationFaultCause.TheVariants.{NoExpectation, NoSuchChipExpectation, NoNode, NoSuchNode, NoSuchValue, CountsSteps, NoSuchComparison, NoNumber, NoSuchNumber, OutOfRange, NoSide, NoSuchSide, TooManySides, AwaitedNotCode, NoSuchStop, NotLink, NotNeighbours, NoLinkWords, TooManyLinkWords, WordsAfterEnd, NeverConditionFault}

-- the first word of a text and those after it; without a space, nothing comes after it
abbrev pub split_or_whole_text : Option (Text × Text) → Text → Text × Text
split_or_whole_text None text = (text, [])
split_or_whole_text (Some parts) text = parts

abbrev pub split_first_word : Text → Text × Text
split_first_word text = split_or_whole_text (split_at_space text) text

abbrev pub is_text_without_words : Text → Bool
is_text_without_words [] = true
is_text_without_words (byte ∷ text) = false

-- ---- sides

abbrev pub parsed_side_name : Text → Option Side
parsed_side_name word =
    if bytes_eq word (codes "right") then Some Right
    else if bytes_eq word (codes "down") then Some Down
    else if bytes_eq word (codes "left") then Some Left
    else if bytes_eq word (codes "up") then Some Up
    else None

-- a set of sides with one more, if that isn't in it
abbrev pub side_set_with_side : ℕ → Side → ℕ
side_set_with_side sides side = if has_side sides side then sides else sides + single_side_set side

-- the sides after one, if there are words left
abbrev pub parsed_sides_after_side : (ℕ → Text → Result ℕ ExpectationFaultCause) → ℕ → Option Side → Text → Result ℕ ExpectationFaultCause
parsed_sides_after_side others sides None rest = Err NoSuchSide
parsed_sides_after_side others sides (Some side) rest = if is_text_without_words rest then Ok (side_set_with_side sides side) else others (side_set_with_side sides side) rest

-- a set of sides with those that a text names, at most this number of them
unfoldable pub parsed_sides_within : ℕ → ℕ → Text → Result ℕ ExpectationFaultCause
parsed_sides_within zero sides text = Err TooManySides
parsed_sides_within (suc more) sides text = parsed_sides_after_side (parsed_sides_within more) sides (parsed_side_name (split_first_word text).0) (split_first_word text).1

-- the set of sides that a text names
abbrev pub parsed_sides : Text → Result ℕ ExpectationFaultCause
parsed_sides text = if is_text_without_words text then Err NoSide else parsed_sides_within 4 0 text

-- ---- what is required of a node

abbrev pub reads_from_sides_requirement : Result ℕ ExpectationFaultCause → Result NodeRequirement ExpectationFaultCause
reads_from_sides_requirement (Ok sides) = Ok (ReadsFromSides sides)
reads_from_sides_requirement (Err cause) = Err cause

abbrev pub writes_to_side_requirement : Option Side → Result NodeRequirement ExpectationFaultCause
writes_to_side_requirement (Some side) = Ok (WritesToSide side)
writes_to_side_requirement None = Err NoSuchSide

-- `SIDE` after `writes`
abbrev pub parsed_writes_requirement : Text → Result NodeRequirement ExpectationFaultCause
parsed_writes_requirement text =
    if is_text_without_words text then Err NoSide
    else if is_text_without_words (split_first_word text).1 then writes_to_side_requirement (parsed_side_name (split_first_word text).0)
    else Err TooManySides

-- `code` after `awaits`
abbrev pub parsed_awaits_requirement : Text → Result NodeRequirement ExpectationFaultCause
parsed_awaits_requirement text = if bytes_eq text (codes "code") then Ok AwaitsCode else Err AwaitedNotCode

-- `N` after `stops`: 1, 2 or 3
abbrev pub parsed_stops_requirement : Text → Result NodeRequirement ExpectationFaultCause
parsed_stops_requirement text =
    if bytes_eq text (codes "1") then Ok (Stopped 1)
    else if bytes_eq text (codes "2") then Ok (Stopped 2)
    else if bytes_eq text (codes "3") then Ok (Stopped 3)
    else Err NoSuchStop

-- the test, if its number is a word
abbrev pub requirement_of_value_test : ValueTest → Result NodeRequirement ExpectationFaultCause
requirement_of_value_test test = if is_test_number_in_range test then Ok (PassesValueTest test) else Err OutOfRange

abbrev pub requirement_of_comparison : NodeValue → Comparison → Option ℕ → Result NodeRequirement ExpectationFaultCause
requirement_of_comparison value comparison None = Err NoSuchNumber
requirement_of_comparison value comparison (Some number) = requirement_of_value_test (record { value = value; comparison = comparison; number = number })

-- `NUMBER` after a value and a sign
abbrev pub requirement_of_number_text : List LabelAddress → NodeId → NodeValue → Option Comparison → Text → Result NodeRequirement ExpectationFaultCause
requirement_of_number_text names node value None text = Err NoSuchComparison
requirement_of_number_text names node value (Some comparison) text =
    if is_text_without_words text then Err NoNumber else requirement_of_comparison value comparison (parsed_operand names node text)

-- `OP NUMBER` after a value, which isn't the number of steps
abbrev pub requirement_of_comparison_text : List LabelAddress → NodeId → Option NodeValue → Text → Result NodeRequirement ExpectationFaultCause
requirement_of_comparison_text names node None text = Err NoSuchValue
requirement_of_comparison_text names node (Some value) text =
    if is_step_count_value value then Err CountsSteps
    else requirement_of_number_text names node value (parsed_comparison (split_first_word text).0) (split_first_word text).1

-- what is required by a first word and the others
abbrev pub parse_requirement_words : List LabelAddress → NodeId → Text → Text → Result NodeRequirement ExpectationFaultCause
parse_requirement_words names node word text =
    if bytes_eq word (codes "reads") then reads_from_sides_requirement (parsed_sides text)
    else if bytes_eq word (codes "writes") then parsed_writes_requirement text
    else if bytes_eq word (codes "awaits") then parsed_awaits_requirement text
    else if bytes_eq word (codes "stops") then parsed_stops_requirement text
    else requirement_of_comparison_text names node (parsed_node_value word) text

-- what a text requires of a node
unfoldable pub parsed_requirement : List LabelAddress → NodeId → Text → Result NodeRequirement ExpectationFaultCause
parsed_requirement names node text =
    if is_text_without_words text then Err NoExpectation else parse_requirement_words names node (split_first_word text).0 (split_first_word text).1

-- ---- the words over a link

-- the number of a word, if it is one of a word of the chip
abbrev pub valid_word_or_fault_cause : Option ℕ → Result ℕ ExpectationFaultCause
valid_word_or_fault_cause None = Err NoSuchNumber
valid_word_or_fault_cause (Some number) = if nat_lt number (2 ^ 18) then Ok number else Err OutOfRange

-- the word that a text names, with the labels of the node that gives it
abbrev pub parsed_link_word : List LabelAddress → NodeId → Text → Result ℕ ExpectationFaultCause
parsed_link_word names giver word = valid_word_or_fault_cause (parsed_operand names giver word)

abbrev pub link_expectation_with_word : LinkExpectation → ℕ → LinkExpectation
link_expectation_with_word expected word = record expected { words = record { items = expected.words.items ++ word ∷ [] } }

-- `..`, and these words after it
abbrev pub mark_link_words_open : LinkExpectation → Text → Result LinkExpectation ExpectationFaultCause
mark_link_words_open expected rest = if is_text_without_words rest then Ok (record expected { is_open = true }) else Err WordsAfterEnd

-- one word more, and those after it
abbrev pub link_expectation_after_word : (LinkExpectation → Text → Result LinkExpectation ExpectationFaultCause) → LinkExpectation → Result ℕ ExpectationFaultCause → Text → Result LinkExpectation ExpectationFaultCause
link_expectation_after_word others expected (Err cause) rest = Err cause
link_expectation_after_word others expected (Ok word) rest = if is_text_without_words rest then Ok (link_expectation_with_word expected word) else others (link_expectation_with_word expected word) rest

-- an expectation with the words that a text names after its own, at most this number of them; `..` comes last, if others may come
unfoldable pub parsed_link_words_within : List LabelAddress → ℕ → LinkExpectation → Text → Result LinkExpectation ExpectationFaultCause
parsed_link_words_within names zero expected text =
    if bytes_eq (split_first_word text).0 (codes "..") then mark_link_words_open expected (split_first_word text).1 else Err TooManyLinkWords
parsed_link_words_within names (suc more) expected text =
    if bytes_eq (split_first_word text).0 (codes "..") then mark_link_words_open expected (split_first_word text).1
    else link_expectation_after_word (parsed_link_words_within names more) expected (parsed_link_word names expected.from (split_first_word text).0) (split_first_word text).1

abbrev pub link_expectation_without_words : NodeId → NodeId → LinkExpectation
link_expectation_without_words from to = record { from = from; to = to; words = record { items = [] }; is_open = false }

-- `NUMBER ..` after two nodes and `=`
abbrev pub parsed_link_words : List LabelAddress → NodeId → NodeId → Text → Result LinkExpectation ExpectationFaultCause
parsed_link_words names from to text = if is_text_without_words text then Err NoLinkWords else parsed_link_words_within names 64 (link_expectation_without_words from to) text

-- the same after what two names name
abbrev pub link_expectation_between : List LabelAddress → Option NodeId → Option NodeId → Text → Result LinkExpectation ExpectationFaultCause
link_expectation_between names None to text = Err NoSuchNode
link_expectation_between names (Some from) None text = Err NoSuchNode
link_expectation_between names (Some from) (Some to) text = if are_neighbours from.number to.number then parsed_link_words names from to text else Err NotNeighbours

-- the same after two names and a sign
abbrev pub parse_link_expectation_words : List LabelAddress → Text → Text → Text → Text → Result LinkExpectation ExpectationFaultCause
parse_link_expectation_words names from to sign text = if bytes_eq sign (codes "=") then link_expectation_between names (parse_node from) (parse_node to) text else Err NotLink

-- `NNN MMM = NUMBER ..` after `pass`, split after `NNN` and after `MMM`
abbrev pub parse_split_link_expectation : List LabelAddress → Text × Text → Text × Text → Text × Text → Result LinkExpectation ExpectationFaultCause
parse_split_link_expectation names first second third = parse_link_expectation_words names first.0 second.0 third.0 third.1

unfoldable pub parsed_link_expectation : List LabelAddress → Text → Result LinkExpectation ExpectationFaultCause
parsed_link_expectation names text =
    parse_split_link_expectation names (split_first_word text) (split_first_word (split_first_word text).1) (split_first_word (split_first_word (split_first_word text).1).1)

-- ---- what a line expects

abbrev pub expectation_of_requirement : NodeId → Result NodeRequirement ExpectationFaultCause → Result Expectation ExpectationFaultCause
expectation_of_requirement node (Ok requirement) = Ok (NodeAtEveryEnd (record { node = node; requirement = requirement }))
expectation_of_requirement node (Err cause) = Err cause

-- what is expected of a node, if there is one
abbrev pub parsed_node_expectation : Option DebugInfo → Option NodeId → ExpectationFaultCause → Text → Result Expectation ExpectationFaultCause
parsed_node_expectation notes None cause text = Err cause
parsed_node_expectation notes (Some node) cause text = expectation_of_requirement node (parsed_requirement (labels_of_debug_info notes) node text)

abbrev pub never_expectation : Result (List StateCondition) ConditionFault → Result Expectation ExpectationFaultCause
never_expectation (Ok conditions) = Ok (IsNever (record { items = conditions }))
never_expectation (Err fault) = Err (NeverConditionFault fault)

abbrev pub expectation_of_passed_words : Result LinkExpectation ExpectationFaultCause → Result Expectation ExpectationFaultCause
expectation_of_passed_words (Ok expected) = Ok (LinkPassesWords expected)
expectation_of_passed_words (Err cause) = Err cause

-- `every order ends` and `one end`
abbrev pub parsed_whole_chip_expectation : Text → Result Expectation ExpectationFaultCause
parsed_whole_chip_expectation text =
    if bytes_eq text (codes "every order ends") then Ok EveryOrderEnds
    else if bytes_eq text (codes "one end") then Ok OneEnd
    else Err NoSuchChipExpectation

-- the word is that of an expectation of all nodes together
abbrev pub is_whole_chip_keyword : Text → Bool
is_whole_chip_keyword word = bytes_eq word (codes "every") || bytes_eq word (codes "one")

-- the word begins with a digit, as a node's name and no value does
abbrev pub begins_with_digit : Text → Bool
begins_with_digit [] = false
begins_with_digit (byte ∷ word) = nat_le 48 byte && nat_le byte 57

-- what is expected, by the first word of a text and the others; the node is that of the line's program
abbrev pub parse_expectation_words : Option DebugInfo → Option NodeId → Text → Text → Text → Result Expectation ExpectationFaultCause
parse_expectation_words notes node text word rest =
    if bytes_eq word (codes "never") then never_expectation (parsed_state_conditions notes rest)
    else if bytes_eq word (codes "pass") then expectation_of_passed_words (parsed_link_expectation (labels_of_debug_info notes) rest)
    else if is_whole_chip_keyword word then parsed_whole_chip_expectation text
    else if begins_with_digit word then parsed_node_expectation notes (parse_node word) NoSuchNode rest
    else parsed_node_expectation notes node NoNode text

unfoldable pub parsed_expectation : Option DebugInfo → Option NodeId → Text → Result Expectation ExpectationFaultCause
parsed_expectation notes node text =
    if is_text_without_words text then Err NoExpectation else parse_expectation_words notes node text (split_first_word text).0 (split_first_word text).1
