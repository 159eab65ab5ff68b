-- What a node holds or does on a chip on which an expectation isn't met (F18A Technology Reference DB001, registers, memory map and ports; the
-- stops are this project's own).
use Rattle.std.specs.Prelude.{ℕ, zero, suc, ◌%◌}
use Rattle.ga_word.specs.Word.{word_modulus}
use Rattle.ga_node.specs.Record.{NodeRecord}
use Rattle.ga_node.specs.declared.wait.Wait.{Wait}
use Rattle.ga_node.specs.declared.wait.Wait.TheVariants.{Nothing, Fetch, Read, Write}
use Rattle.ga_scheduler.specs.Values.{node_value}
use Rattle.ga_state_expectations.specs.declared.expectation.NodeRequirement.{NodeRequirement}
use Rattle.ga_state_expectations.specs.declared.expectation.NodeRequirement.TheVariants as required
use Rattle.ga_state_expectations.specs.declared.observation.NodeObservation.{NodeObservation}
use Rattle.ga_state_expectations.specs.declared.observation.NodeObservation.TheVariants.{Is, Runs, AwaitsCode, Reads, Writes, Stopped}

-- what a node does that waits so and isn't stopped
abbrev pub observation_of_wait : Wait → NodeObservation
observation_of_wait Nothing = Runs
observation_of_wait (Fetch sides) = AwaitsCode
observation_of_wait (Read sides) = Reads sides
observation_of_wait (Write side) = Writes side

-- the same by the number of its stop, which is 0 if it isn't stopped
abbrev pub observation_of_stop_or_wait : ℕ → Wait → NodeObservation
observation_of_stop_or_wait zero wait = observation_of_wait wait
observation_of_stop_or_wait (suc k) wait = Stopped (suc k)

-- what a node does
abbrev pub observed_node_activity : NodeRecord → NodeObservation
observed_node_activity node = observation_of_stop_or_wait node.stop node.wait

-- what it has of what is required: the value that is tested, as a word, or else what it does
abbrev pub observation_for_requirement : NodeRequirement → NodeRecord → NodeObservation
observation_for_requirement (required.PassesValueTest test) node = Is (node_value node 0 test.value % word_modulus)
observation_for_requirement (required.ReadsFromSides sides) node = observed_node_activity node
observation_for_requirement (required.WritesToSide side) node = observed_node_activity node
observation_for_requirement required.AwaitsCode node = observed_node_activity node
observation_for_requirement (required.Stopped number) node = observed_node_activity node
