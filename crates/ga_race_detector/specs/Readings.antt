-- Looks that could have read another word in `io`: whether a look comes before or after a change of what is shown to it
-- depended on the order in which nodes happened to run (after Netzer and Miller, "Optimal tracing and replay for debugging
-- message-passing parallel programs", 1992; that a look races is this project's own, as looks are).
use Rattle.std.specs.Prelude.{◌≡◌, ◌≢◌, ◌⊎◌, ℕ, ◌+◌, nat_lt, true, if◌then◌else◌, List, Contains, Option, Some, IfSome}
use Rattle.ga_node.specs.Io.{io_word}
use Rattle.ga_ports.specs.declared.side.Side.{Side}
use Rattle.ga_grid.specs.declared.node_id.NodeId.{NodeId}
use Rattle.ga_grid.specs.Grid.{neighbour_number}
use Rattle.ga_event.specs.declared.event.Event.TheVariants as event
use Rattle.ga_event.specs.Apply.{neighbour_states}
use Rattle.ga_event.specs.Told.{count_steps}
use Rattle.ga_causal.specs.Dependence.{event_at}
use Rattle.ga_causal.specs.Steps.{IsKthStep}
use Rattle.ga_races.specs.HappensBefore.{trace_actions_of_events, trace_action_at, IsRacingPair}
use Rattle.ga_lab.specs.Machine.{MachineState, chip_of_machine, machine_events_with_looks, earlier_state, state_after_rewind}
use Rattle.ga_race_detector.specs.declared.readings.LookRace.{LookRace}
use Rattle.ga_race_detector.specs.Races.{is_next_event_look}

-- the step that a rollback removes for the look to read the other word: its own, if the change came after it, else the change
abbrev pub step_removed_for_look : LookRace → NodeId × ℕ
step_removed_for_look reading = if reading.is_look_first then (reading.node, reading.step) else (reading.neighbour, reading.change)

abbrev pub machine_without_step : MachineState → LookRace → MachineState
machine_without_step s reading = state_after_rewind s (step_removed_for_look reading).0.number (step_removed_for_look reading).1

-- The step is a look, which read the word. After a rollback of the one step, the next step of its node is this step again, a
-- look that reads the other word.
pub record IsRealizableLookRace (s : MachineState) (reading : LookRace) : Type 0 where
  pub place : ℕ
  pub stands : IsKthStep (machine_events_with_looks s) reading.node.number reading.step place
  pub looked : event_at (machine_events_with_looks s) place ≡ record { event = event.Own reading.node; look = true }
  pub read : reading.word ≡ io_word (neighbour_states (chip_of_machine (earlier_state s place)) reading.node.number)
  pub next : is_next_event_look (chip_of_machine (machine_without_step s reading)) reading.node.number ≡ true
  pub step : count_steps reading.node.number (machine_without_step s reading).kept + 1 ≡ reading.step
  pub other : reading.other ≡ io_word (neighbour_states (chip_of_machine (machine_without_step s reading)) reading.node.number)
  pub differ : reading.other ≢ reading.word

-- Nothing happens between the look and the change, which is by a step of a neighbour of the node that looked, that orders them.
pub record IsNearLookRace (s : MachineState) (reading : LookRace) : Type 0 where
  pub look : ℕ
  pub change : ℕ
  pub looks : IsKthStep (machine_events_with_looks s) reading.node.number reading.step look
  pub changes : IsKthStep (machine_events_with_looks s) reading.neighbour.number reading.change change
  pub side : Side
  pub beside : neighbour_number reading.node.number side ≡ Some reading.neighbour.number
  pub shown : (trace_action_at (trace_actions_of_events s.load s.kept) change).changes reading.node.number ≡ true
  pub near : IsRacingPair s.load s.kept look change ⊎ IsRacingPair s.load s.kept change look
  pub order : reading.is_look_first ≡ nat_lt look change

-- the look could have read the other word, and is of the requested node, if one was
abbrev pub IsReportedLookRace : MachineState → Option NodeId → LookRace → Type 0
IsReportedLookRace s only reading = IsRealizableLookRace s reading × IfSome only (λ node. reading.node ≡ node)

-- no look is left out that could have read another word where a change that is near to it comes on its other side
abbrev pub HasAllNearLookRaces : MachineState → Option NodeId → List LookRace → Type 0
HasAllNearLookRaces s only readings = (reading : LookRace) → IsReportedLookRace s only reading → IsNearLookRace s reading → Contains readings reading
