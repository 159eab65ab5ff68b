-- Which event of a session broke an expectation: the oldest in the history that violates it (docs/REFERENCE.md, "Conditions" and "Expectations in a
-- session"; this project's own).
use Rattle.std.specs.Prelude.{ℕ, zero, suc, ◌+◌, ◌==◌, max, Bool, true, false, if◌then◌else◌, List, [], ◌∷◌, length, Option, Some, None, option_map}
use Rattle.std.specs.List.{list_any}
use Rattle.ga_grid.specs.declared.node_id.NodeId.{NodeId}
use Rattle.ga_event.specs.Told.{made_event_at_place}
use Rattle.ga_event.specs.declared.made.MadeEvent.{MadeEvent}
use Rattle.ga_lab.specs.Machine.{MachineState, machine_events_with_outcomes, earlier_state}
use Rattle.ga_scheduler.specs.Words.{link_transfer_count}
use Rattle.ga_scheduler.specs.Conditions.{holds_after_made_event}
use Rattle.ga_scheduler.specs.Backward.{find_newest_matching_event, is_step_of_optional_node}
use Rattle.ga_scheduler.specs.Oldest.{earlier_place, find_oldest_matching_event}
use Rattle.ga_scheduler.specs.declared.condition.Condition.{Condition}
use Rattle.ga_scheduler.specs.declared.condition.Condition.TheVariants as condition
use Rattle.ga_state_conditions.specs.declared.condition.StateCondition.{StateCondition}
use Rattle.ga_state_conditions.specs.declared.condition.StateCondition.TheVariants.{HoldsAfterEvent, NodeIsStuck}
use Rattle.ga_state_links.specs.declared.expectation.LinkExpectation.{LinkExpectation}
use Rattle.ga_state_expectations.specs.declared.source.Expectation.{Expectation}
use Rattle.ga_state_expectations.specs.declared.source.Expectation.TheVariants.{NodeAtEveryEnd, Never, LinkPassesWords, EveryOrderEnds, OneEnd}
use Rattle.ga_state_expectations.specs.declared.source.LineExpectation.{LineExpectation}
use Rattle.ga_state_expectations.specs.Violations.{is_unexpected_transfer}

-- ---- the oldest event that violates an expectation, by its place

-- conditions that should never hold; that a node is stuck is seen from no one event
abbrev pub oldest_event_of_never_condition : StateCondition → MachineState → Option ℕ
oldest_event_of_never_condition (HoldsAfterEvent until) s = find_oldest_matching_event (until ∷ []) s
oldest_event_of_never_condition (NodeIsStuck node) s = None

abbrev pub oldest_event_of_never : List StateCondition → MachineState → Option ℕ
oldest_event_of_never [] s = None
oldest_event_of_never (until ∷ others) s = earlier_place (oldest_event_of_never_condition until s) (oldest_event_of_never others s)

-- words over a link
abbrev pub is_unexpected_optional_transfer : LinkExpectation → Option MadeEvent → MachineState → Bool
is_unexpected_optional_transfer expected None s = false
is_unexpected_optional_transfer expected (Some told) s = is_unexpected_transfer expected (link_transfer_count s expected.from.number expected.to.number) told

abbrev pub is_unexpected_transfer_at : LinkExpectation → MachineState → ℕ → Bool
is_unexpected_transfer_at expected s place = is_unexpected_optional_transfer expected (made_event_at_place (machine_events_with_outcomes s) place) (earlier_state s (place + 1))

-- of the first `n` events
abbrev pub oldest_unexpected_transfer : LinkExpectation → MachineState → ℕ → Option ℕ
oldest_unexpected_transfer expected s zero = None
oldest_unexpected_transfer expected s (suc place) =
    earlier_place (oldest_unexpected_transfer expected s place) (if is_unexpected_transfer_at expected s place then Some place else None)

-- The event that broke an expectation. None breaks what is expected of a node at each end, or of the whole program.
abbrev pub oldest_violation : Expectation → MachineState → Option ℕ
oldest_violation (NodeAtEveryEnd expected) s = None
oldest_violation (Never conditions) s = oldest_event_of_never conditions.items s
oldest_violation (LinkPassesWords expected) s = oldest_unexpected_transfer expected s (length s.kept)
oldest_violation EveryOrderEnds s = None
oldest_violation OneEnd s = None

-- ---- the newest event

-- the place of the last of `n` events
abbrev pub is_last_place : Option ℕ → ℕ → Bool
is_last_place None count = false
is_last_place (Some place) count = count == place + 1

-- the newest event broke the expectation
abbrev pub breaks_expectation : Expectation → MachineState → Bool
breaks_expectation expectation s = is_last_place (oldest_violation expectation s) (length s.kept)

abbrev pub breaks_one_expectation : List LineExpectation → MachineState → Bool
breaks_one_expectation expectations s = list_any (λ one. breaks_expectation one.expectation s) expectations

-- the line of the first that it broke
abbrev pub line_broken_by_newest_event : List LineExpectation → MachineState → Option ℕ
line_broken_by_newest_event [] s = None
line_broken_by_newest_event (one ∷ others) s = if breaks_expectation one.expectation s then Some one.line else line_broken_by_newest_event others s

-- ---- conditions, where these expectations are known

-- the condition holds after the newest event, which broke an expectation or none
abbrev pub condition_holds_given_breach : Bool → Condition → MadeEvent → MachineState → Bool
condition_holds_given_breach breaks condition.Broken told s = breaks
condition_holds_given_breach breaks until told s = holds_after_made_event until told s

-- the place of the first that does
unfoldable pub first_condition_given_breach : Bool → List Condition → MadeEvent → MachineState → Option ℕ
first_condition_given_breach breaks [] told s = None
first_condition_given_breach breaks (until ∷ others) told s =
    if condition_holds_given_breach breaks until told s then Some 0 else option_map suc (first_condition_given_breach breaks others told s)

abbrev pub first_condition_expecting : List LineExpectation → List Condition → MadeEvent → MachineState → Option ℕ
first_condition_expecting expectations until told s = first_condition_given_breach (breaks_one_expectation expectations s) until told s

-- `broken` is among the conditions
abbrev pub is_broken_asked : Condition → Bool
is_broken_asked condition.Broken = true
is_broken_asked other = false

abbrev pub has_broken_among : List Condition → Bool
has_broken_among until = list_any is_broken_asked until

-- ---- back to an event that broke an expectation

-- the later of two places, of which there may be none
abbrev pub later_place : Option ℕ → Option ℕ → Option ℕ
later_place None other = other
later_place (Some place) None = Some place
later_place (Some place) (Some other) = Some (max place other)

-- a place, if the event there is considered: each one is, or each step of a node
abbrev pub place_if_considered : Option NodeId → MachineState → Option ℕ → Option ℕ
place_if_considered only s None = None
place_if_considered only s (Some place) = if is_step_of_optional_node only (made_event_at_place (machine_events_with_outcomes s) place) then Some place else None

-- the newest event that is considered and broke one of the expectations
abbrev pub newest_breach : List LineExpectation → Option NodeId → MachineState → Option ℕ
newest_breach [] only s = None
newest_breach (one ∷ others) only s = later_place (place_if_considered only s (oldest_violation one.expectation s)) (newest_breach others only s)

-- the newest that did or after which one of the conditions held
abbrev pub newest_event_expecting : List LineExpectation → List Condition → Option NodeId → MachineState → Option ℕ
newest_event_expecting expectations until only s = later_place (find_newest_matching_event until only s) (newest_breach expectations only s)
