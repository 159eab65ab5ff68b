-- Back to where a condition held: the history is searched from the newest event on, up to the first after which one of some
-- conditions held (after Danos and Krivine 2004, as to what is then removed; this project's own).
use Rattle.std.specs.Prelude.{◌≡◌, ℕ, zero, suc, ◌+◌, ◌-◌, ◌<◌, ◌==◌, Bool, true, false, ◌&&◌, if◌then◌else◌, is_some, List, length, Option, Some, None}
use Rattle.std.specs.Result.{result_ok}
use Rattle.ga_grid.specs.declared.node_id.NodeId.{NodeId}
use Rattle.ga_event.specs.Told.{made_event_at_place}
use Rattle.ga_event.specs.declared.made.MadeEvent.{MadeEvent}
use Rattle.ga_event.specs.declared.made.MadeEvent.TheVariants as made
use Rattle.ga_lab.specs.Machine.{MachineState, machine_events_with_outcomes, earlier_state, state_after_undo, rewind_answer, state_after_rewind}
use Rattle.ga_scheduler.specs.declared.condition.Condition.{Condition}
use Rattle.ga_scheduler.specs.Conditions.{is_step_of_node}
use Rattle.ga_scheduler.specs.Running.{first_condition_held_by_event}

-- which of the conditions held first just after the event at a place, if the machine was the one after it
abbrev pub first_held_condition_index : List Condition → MachineState → ℕ → Option ℕ
first_held_condition_index until s place = first_condition_held_by_event until (made_event_at_place (machine_events_with_outcomes s) place) (earlier_state s (place + 1))

-- an event is considered: each one is, or each step of a node
abbrev pub is_step_of_optional_node : Option NodeId → Option MadeEvent → Bool
is_step_of_optional_node only None = false
is_step_of_optional_node None (Some told) = true
is_step_of_optional_node (Some node) (Some told) = is_step_of_node node.number told

abbrev pub has_condition_held_at : List Condition → Option NodeId → MachineState → ℕ → Bool
has_condition_held_at until only s place = is_step_of_optional_node only (made_event_at_place (machine_events_with_outcomes s) place) && is_some (first_held_condition_index until s place)

-- the place of the newest of the first `n` events that is considered and after which one of the conditions held
abbrev pub newest_matching_event_before : List Condition → Option NodeId → MachineState → ℕ → Option ℕ
newest_matching_event_before until only s zero = None
newest_matching_event_before until only s (suc place) = if has_condition_held_at until only s place then Some place else newest_matching_event_before until only s place

abbrev pub find_newest_matching_event : List Condition → Option NodeId → MachineState → Option ℕ
find_newest_matching_event until only s = newest_matching_event_before until only s (length s.kept)

-- The event at a place is the newest of the first `n` that is considered and after which a condition held: for no later one
-- both hold.
pub record IsNewestMatchingEvent (until : List Condition) (only : Option NodeId) (s : MachineState) (count place : ℕ) : Type 0 where
  pub within : place < count
  pub here : has_condition_held_at until only s place ≡ true
  pub later : (n : ℕ) → place < n → n < count → has_condition_held_at until only s n ≡ false

-- the number of a node's step that an event was
abbrev pub step_number_of_event : ℕ → Option MadeEvent → ℕ
step_number_of_event node None = 0
step_number_of_event node (Some (made.Own n k what)) = k
step_number_of_event node (Some (made.Pass w k r j word)) = if w.number == node then k else j

-- The machine without what is taken: the events from a place on; or of a node its step there, with what depends on it.
abbrev pub machine_after_back_until : Option NodeId → MachineState → Option ℕ → MachineState
machine_after_back_until only s None = s
machine_after_back_until None s (Some place) = earlier_state s place
machine_after_back_until (Some node) s (Some place) = state_after_rewind s node.number (step_number_of_event node.number (made_event_at_place (machine_events_with_outcomes s) place))

-- how many events are taken back: those from a place on, or a node's step there with what depends on it; none where there is no place
abbrev pub event_count_removed_by_back_until : Option NodeId → MachineState → Option ℕ → Option ℕ
event_count_removed_by_back_until only s None = None
event_count_removed_by_back_until None s (Some place) = Some (length s.kept - place)
event_count_removed_by_back_until (Some node) s (Some place) = result_ok (rewind_answer s node.number (step_number_of_event node.number (made_event_at_place (machine_events_with_outcomes s) place)))

-- a machine after `n` undos
abbrev pub machine_after_undos : ℕ → MachineState → MachineState
machine_after_undos zero s = s
machine_after_undos (suc count) s = state_after_undo (machine_after_undos count s)
