-- The oldest event after which a condition held (this project's own).
use Rattle.std.specs.Prelude.{◌≡◌, ℕ, zero, suc, ◌+◌, ◌<◌, min, Bool, true, false, if◌then◌else◌, List, [], ◌∷◌, length, Option, Some, None}
use Rattle.ga_event.specs.Told.{made_event_at_place}
use Rattle.ga_event.specs.declared.made.MadeEvent.{MadeEvent}
use Rattle.ga_lab.specs.Machine.{MachineState, machine_events_with_outcomes, earlier_state}
use Rattle.ga_scheduler.specs.declared.condition.Condition.{Condition}
use Rattle.ga_scheduler.specs.Conditions.{holds_after_made_event}
use Rattle.ga_scheduler.specs.Backward.{has_condition_held_at}

-- the earlier of two places, of which there may be none
abbrev pub earlier_place : Option ℕ → Option ℕ → Option ℕ
earlier_place None other = other
earlier_place (Some place) None = Some place
earlier_place (Some place) (Some other) = Some (min place other)

-- the condition held after the event with this report
abbrev pub holds_after_optional_event : Condition → Option MadeEvent → MachineState → Bool
holds_after_optional_event until None s = false
holds_after_optional_event until (Some told) s = holds_after_made_event until told s

-- the condition held after the event at the place
abbrev pub has_held_at : Condition → MachineState → ℕ → Bool
has_held_at until s place = holds_after_optional_event until (made_event_at_place (machine_events_with_outcomes s) place) (earlier_state s (place + 1))

-- the place of the oldest of the first `n` events after which the condition held
abbrev pub oldest_holding_event : Condition → MachineState → ℕ → Option ℕ
oldest_holding_event until s zero = None
oldest_holding_event until s (suc place) = earlier_place (oldest_holding_event until s place) (if has_held_at until s place then Some place else None)

-- of several conditions
abbrev pub oldest_event_of_conditions : List Condition → MachineState → ℕ → Option ℕ
oldest_event_of_conditions [] s count = None
oldest_event_of_conditions (until ∷ others) s count = earlier_place (oldest_holding_event until s count) (oldest_event_of_conditions others s count)

abbrev pub find_oldest_matching_event : List Condition → MachineState → Option ℕ
find_oldest_matching_event until s = oldest_event_of_conditions until s (length s.kept)

-- The event at a place is the oldest after which one of the conditions held: after no earlier one did one hold.
pub record IsOldestMatchingEvent (until : List Condition) (s : MachineState) (place : ℕ) : Type 0 where
  pub within : place < length s.kept
  pub here : has_condition_held_at until None s place ≡ true
  pub earlier : (n : ℕ) → n < place → has_condition_held_at until None s n ≡ false
