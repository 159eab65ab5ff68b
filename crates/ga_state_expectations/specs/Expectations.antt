-- What is expected of a node at an end: a value that it holds, or how it waits or is stopped (F18A Technology Reference DB001, registers, memory
-- map and ports; the stops are this project's own). It speaks of the node's record alone, so not of how many steps it made.
use Rattle.std.specs.Prelude.{ℕ, ◌==◌, ◌&&◌, Bool, true, false, not, List}
use Rattle.ga_node.specs.Record.{NodeRecord}
use Rattle.ga_node.specs.declared.wait.Wait.{Wait}
use Rattle.ga_node.specs.declared.wait.Wait.TheVariants.{Nothing, Fetch, Read, Write}
use Rattle.ga_grid.specs.Chip.{node_record_at}
use Rattle.ga_event.specs.Apply.{waits_to_write_side}
use Rattle.ga_scheduler.specs.Values.{is_value_test_passed, is_step_count_value}
use Rattle.ga_scheduler.specs.declared.value_test.ValueTest.{ValueTest}
use Rattle.ga_state_expectations.specs.declared.expectation.NodeExpectation.{NodeExpectation}
use Rattle.ga_state_expectations.specs.declared.expectation.NodeRequirement.{NodeRequirement}
use Rattle.ga_state_expectations.specs.declared.expectation.NodeRequirement.TheVariants.{PassesValueTest, ReadsFromSides, WritesToSide, AwaitsCode, Stopped}

-- the node waits to read a word from exactly these sides
abbrev pub awaits_word_from_sides : Wait → ℕ → Bool
awaits_word_from_sides Nothing sides = false
awaits_word_from_sides (Fetch awaited) sides = false
awaits_word_from_sides (Read awaited) sides = awaited == sides
awaits_word_from_sides (Write side) sides = false

abbrev pub waits_for_code : Wait → Bool
waits_for_code Nothing = false
waits_for_code (Fetch awaited) = true
waits_for_code (Read awaited) = false
waits_for_code (Write side) = false

-- the node's stop has this number; number 0 is no stop
abbrev pub is_stopped_with_number : ℕ → ℕ → Bool
is_stopped_with_number stop number = not (number == 0) && (stop == number)

-- a value of the node, which isn't the number of its steps, passes the test
abbrev pub node_passes_value_test : NodeRecord → ValueTest → Bool
node_passes_value_test node test = not (is_step_count_value test.value) && is_value_test_passed test node 0

-- the node has what is required
abbrev pub meets_requirement : NodeRequirement → NodeRecord → Bool
meets_requirement (PassesValueTest test) node = node_passes_value_test node test
meets_requirement (ReadsFromSides sides) node = awaits_word_from_sides node.wait sides
meets_requirement (WritesToSide side) node = waits_to_write_side node.wait side
meets_requirement AwaitsCode node = waits_for_code node.wait
meets_requirement (Stopped number) node = is_stopped_with_number node.stop number

-- a node with this record satisfies the expectation
abbrev pub is_expectation_satisfied_by_node : NodeExpectation → NodeRecord → Bool
is_expectation_satisfied_by_node expectation node = meets_requirement expectation.requirement node

-- its node does on the chip
abbrev pub meets_expectation_on_chip : NodeExpectation → List NodeRecord → Bool
meets_expectation_on_chip expectation chip = is_expectation_satisfied_by_node expectation (node_record_at chip expectation.node.number)
