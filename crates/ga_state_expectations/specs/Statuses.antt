-- The status of an expectation in a session: over its history and the chip now (docs/REFERENCE.md, "Exploring"; this project's own). It is broken or held only if
-- nothing that may still come in this session changes this. What is expected of the whole program, one order can't show.
use Rattle.std.specs.Prelude.{ℕ, ◌+◌, nat_lt, Bool, if◌then◌else◌, List, [], ◌∷◌, length, Option, Some, None}
use Rattle.ga_grid.specs.Chip.{node_record_at}
use Rattle.ga_grid.specs.declared.node_id.NodeId.{NodeId}
use Rattle.ga_event.specs.Told.{made_event_at_place}
use Rattle.ga_event.specs.declared.made.MadeEvent.{MadeEvent}
use Rattle.ga_lab.specs.Machine.{MachineState, chip_of_machine, machine_events_with_outcomes}
use Rattle.ga_scheduler.specs.Words.{link_transfers}
use Rattle.ga_scheduler.specs.declared.words.Transfer.{Transfer}
use Rattle.ga_state_conditions.specs.declared.condition.StateCondition.{StateCondition}
use Rattle.ga_state_conditions.specs.declared.condition.StateCondition.TheVariants.{HoldsAfterEvent, NodeIsStuck}
use Rattle.ga_state_links.specs.declared.expectation.LinkExpectation.{LinkExpectation}
use Rattle.ga_state_links.specs.declared.expectation.LinkFault.{LinkFault}
use Rattle.ga_state_links.specs.declared.expectation.LinkFault.TheVariants.{OtherWord, ExtraWord, MissingWord}
use Rattle.ga_state_expectations.specs.declared.expectation.NodeExpectation.{NodeExpectation}
use Rattle.ga_state_expectations.specs.declared.source.Expectation.{Expectation}
use Rattle.ga_state_expectations.specs.declared.source.Expectation.TheVariants.{NodeAtEveryEnd, Never, LinkPassesWords, EveryOrderEnds, OneEnd}
use Rattle.ga_state_expectations.specs.declared.status.ExpectationStatus.{ExpectationStatus}
use Rattle.ga_state_expectations.specs.declared.status.ExpectationStatus.TheVariants.{Held, Broken, Pending}
use Rattle.ga_state_expectations.specs.declared.status.SessionBreach.TheVariants as by
use Rattle.ga_state_expectations.specs.Expectations.{meets_expectation_on_chip}
use Rattle.ga_state_expectations.specs.Breaking.{oldest_event_of_never}
use Rattle.ga_state_expectations.specs.Observations.{observation_for_requirement}
use Rattle.ga_state_expectations.specs.Violations.{is_unexpected_word}

-- held if no event is possible
abbrev pub held_if_quiet : Bool → ExpectationStatus
held_if_quiet is_quiet = if is_quiet then Held else Pending

-- ---- a node at each end: decided if no event is possible, by what it then has

abbrev pub node_status : Bool → NodeExpectation → MachineState → ExpectationStatus
node_status is_quiet expected s =
    if is_quiet then
    (if meets_expectation_on_chip expected (chip_of_machine s) then Held else Broken (by.Unmet (observation_for_requirement expected.requirement (node_record_at (chip_of_machine s) expected.node.number))))
    else Pending

-- ---- conditions that should never hold: broken by the oldest event after which one did, or if a node is deadlocked that should never be stuck

-- the first node that should never be stuck, and is among the deadlocked ones
abbrev pub node_if_stuck : (ℕ → Bool) → StateCondition → Option NodeId → Option NodeId
node_if_stuck stuck (HoldsAfterEvent condition) others = others
node_if_stuck stuck (NodeIsStuck node) others = if stuck node.number then Some node else others

abbrev pub first_stuck_node : (ℕ → Bool) → List StateCondition → Option NodeId
first_stuck_node stuck [] = None
first_stuck_node stuck (condition ∷ others) = node_if_stuck stuck condition (first_stuck_node stuck others)

abbrev pub optional_stuck_status : Option NodeId → Bool → ExpectationStatus
optional_stuck_status None is_quiet = held_if_quiet is_quiet
optional_stuck_status (Some node) is_quiet = Broken (by.Stuck node)

-- after no event one held
abbrev pub stuck_status : (ℕ → Bool) → Bool → List StateCondition → ExpectationStatus
stuck_status stuck is_quiet conditions = optional_stuck_status (first_stuck_node stuck conditions) is_quiet

abbrev pub reached_status : Option MadeEvent → ExpectationStatus
reached_status None = Pending
reached_status (Some told) = Broken (by.Reached told)

abbrev pub never_status_by_place : (ℕ → Bool) → Bool → List StateCondition → Option ℕ → MachineState → ExpectationStatus
never_status_by_place stuck is_quiet conditions None s = stuck_status stuck is_quiet conditions
never_status_by_place stuck is_quiet conditions (Some place) s = reached_status (made_event_at_place (machine_events_with_outcomes s) place)

abbrev pub never_status : (ℕ → Bool) → Bool → List StateCondition → MachineState → ExpectationStatus
never_status stuck is_quiet conditions s = never_status_by_place stuck is_quiet conditions (oldest_event_of_never conditions s) s

-- ---- the words over a link: broken by the first that isn't allowed, or if one is missing and no event is possible

abbrev pub fault_of_unexpected_word : LinkExpectation → ℕ → ℕ → LinkFault
fault_of_unexpected_word expected before word = if nat_lt before (length expected.words.items) then OtherWord word else ExtraWord word

-- the first word that isn't allowed, of those after this number of others: how many came before it, and how it breaks the expectation
unfoldable pub first_link_fault : LinkExpectation → ℕ → List Transfer → Option (ℕ × LinkFault)
first_link_fault expected before [] = None
first_link_fault expected before (sent ∷ others) =
    if is_unexpected_word expected before sent.word then Some (before, fault_of_unexpected_word expected before sent.word) else first_link_fault expected (before + 1) others

-- this number of words came, and each is allowed
abbrev pub link_status_without_fault : LinkExpectation → Bool → ℕ → ExpectationStatus
link_status_without_fault expected is_quiet words =
    if nat_lt words (length expected.words.items) then (if is_quiet then Broken (by.OverLink words MissingWord) else Pending)
    else if expected.is_open then Held
    else held_if_quiet is_quiet

abbrev pub optional_link_fault_status : LinkExpectation → Bool → ℕ → Option (ℕ × LinkFault) → ExpectationStatus
optional_link_fault_status expected is_quiet words None = link_status_without_fault expected is_quiet words
optional_link_fault_status expected is_quiet words (Some fault) = Broken (by.OverLink fault.0 fault.1)

abbrev pub link_status_of_words : LinkExpectation → Bool → List Transfer → ExpectationStatus
link_status_of_words expected is_quiet words = optional_link_fault_status expected is_quiet (length words) (first_link_fault expected 0 words)

abbrev pub link_status : Bool → LinkExpectation → MachineState → ExpectationStatus
link_status is_quiet expected s = link_status_of_words expected is_quiet (link_transfers s expected.from.number expected.to.number)

-- ---- each kind

-- these nodes are deadlocked; no event is possible, or one is
abbrev pub expectation_status : (ℕ → Bool) → Bool → Expectation → MachineState → ExpectationStatus
expectation_status stuck is_quiet (NodeAtEveryEnd expected) s = node_status is_quiet expected s
expectation_status stuck is_quiet (Never conditions) s = never_status stuck is_quiet conditions.items s
expectation_status stuck is_quiet (LinkPassesWords expected) s = link_status is_quiet expected s
expectation_status stuck is_quiet EveryOrderEnds s = Pending
expectation_status stuck is_quiet OneEnd s = Pending
