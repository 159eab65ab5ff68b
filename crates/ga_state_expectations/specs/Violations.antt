-- Whether an event violates an expectation, in one session: from its history and the chip after the event (docs/REFERENCE.md, "Expectations in a session";
-- this project's own).
use Rattle.std.specs.Prelude.{◌≡◌, ℕ, ◌+◌, ◌-◌, ◌<◌, ◌==◌, ◌&&◌, Bool, true, false, not, List, length, slice_get, Option, Some, None}
use Rattle.std.specs.List.{list_any}
use Rattle.ga_event.specs.declared.made.MadeEvent.{MadeEvent}
use Rattle.ga_event.specs.declared.made.MadeEvent.TheVariants as made
use Rattle.ga_event.specs.Told.{made_event_at_place}
use Rattle.ga_lab.specs.Machine.{MachineState, machine_events_with_outcomes, earlier_state}
use Rattle.ga_scheduler.specs.Words.{link_transfer_count}
use Rattle.ga_scheduler.specs.Conditions.{holds_after_made_event}
use Rattle.ga_state_conditions.specs.declared.condition.StateCondition.{StateCondition}
use Rattle.ga_state_conditions.specs.declared.condition.StateCondition.TheVariants.{HoldsAfterEvent, NodeIsStuck}
use Rattle.ga_state_links.specs.declared.expectation.LinkExpectation.{LinkExpectation}
use Rattle.ga_state_expectations.specs.declared.source.Expectation.{Expectation}
use Rattle.ga_state_expectations.specs.declared.source.Expectation.TheVariants.{NodeAtEveryEnd, Never, LinkPassesWords, EveryOrderEnds, OneEnd}

-- ---- the words over a link

-- a word isn't the one that is expected at its place, or comes after all that are, where no other may
abbrev pub is_other_word : Option ℕ → Bool → ℕ → Bool
is_other_word None is_open word = not is_open
is_other_word (Some wanted) is_open word = not (wanted == word)

-- the word that comes after this number of others isn't allowed
abbrev pub is_unexpected_word : LinkExpectation → ℕ → ℕ → Bool
is_unexpected_word expected before word = is_other_word (slice_get expected.words.items before) expected.is_open word

-- the event transfers a word over the link that isn't allowed: the one with this number, from 1 on
abbrev pub is_unexpected_transfer : LinkExpectation → ℕ → MadeEvent → Bool
is_unexpected_transfer expected number (made.Own n k what) = false
is_unexpected_transfer expected number (made.Pass w k r j word) =
    (w.number == expected.from.number) && ((r.number == expected.to.number) && is_unexpected_word expected (number - 1) word)

-- ---- an event, which left this machine

-- A condition that should never hold, holds after the event. That a node is stuck is seen from no one event.
abbrev pub never_condition_holds : StateCondition → MadeEvent → MachineState → Bool
never_condition_holds (HoldsAfterEvent condition) told s = holds_after_made_event condition told s
never_condition_holds (NodeIsStuck node) told s = false

abbrev pub one_never_condition_holds : List StateCondition → MadeEvent → MachineState → Bool
one_never_condition_holds conditions told s = list_any (λ condition. never_condition_holds condition told s) conditions

-- The event violates the expectation: it transfers a word over the link that isn't allowed, or a condition that should never hold, holds after it. No
-- event violates what is expected of a node at each end, or of the whole program.
abbrev pub violates_expectation : Expectation → MadeEvent → MachineState → Bool
violates_expectation (NodeAtEveryEnd expected) told s = false
violates_expectation (Never conditions) told s = one_never_condition_holds conditions.items told s
violates_expectation (LinkPassesWords expected) told s = is_unexpected_transfer expected (link_transfer_count s expected.from.number expected.to.number) told
violates_expectation EveryOrderEnds told s = false
violates_expectation OneEnd told s = false

-- the event at a place of the history does
abbrev pub violates_as_optional_event : Expectation → Option MadeEvent → MachineState → Bool
violates_as_optional_event expectation None s = false
violates_as_optional_event expectation (Some told) s = violates_expectation expectation told s

abbrev pub is_violated_at : Expectation → MachineState → ℕ → Bool
is_violated_at expectation s place = violates_as_optional_event expectation (made_event_at_place (machine_events_with_outcomes s) place) (earlier_state s (place + 1))

-- The event at a place is the oldest that violates the expectation.
pub record IsOldestViolation (expectation : Expectation) (s : MachineState) (place : ℕ) : Type 0 where
  pub within : place < length s.kept
  pub here : is_violated_at expectation s place ≡ true
  pub earlier : (n : ℕ) → n < place → is_violated_at expectation s n ≡ false
