-- Looks with the changes that race with them, as they are reported, except for the other word.
use Rattle.std.specs.Prelude.{◌≡◌, ◌<◌, ◌≤◌, true, ℕ, List, length, take, slice_index, slice_index_or, ◌+◌, ◌^◌, [], Some, nat_lt, if◌then◌else◌, Contains, Option, None, IfSome}
use Rattle.ga_node.specs.Io.{io_word}
use Rattle.ga_node.specs.State.{wait_of_code, IsWaitCode}
use Rattle.ga_grid.specs.declared.node_id.NodeId.{NodeId}
use Rattle.ga_grid.specs.Chip.{node_record_at}
use Rattle.ga_event.specs.declared.event.Event.{Event}
use Rattle.ga_event.specs.declared.event.Event.TheVariants.{Own, Pass}
use Rattle.ga_event.specs.declared.event.EventWithLook.{EventWithLook}
use Rattle.ga_event.specs.Apply.{neighbour_states}
use Rattle.ga_event.specs.Told.{count_steps}
use Rattle.ga_causal.specs.Dependence.{event_at, events_after_rewind}
use Rattle.ga_races.specs.declared.act.EventAccess.{EventAccess}
use Rattle.ga_races.specs.HappensBefore.{trace_actions_of_events, trace_action_at, are_neighbours}
use Rattle.ga_races.specs.Acts.{trace_action_of_event_access}
use Rattle.ga_lab.specs.Machine.{MachineState, chip_of_machine, machine_events_with_looks, earlier_state, state_after_rewind}
use Rattle.ga_race_detector.specs.declared.moments.StepCounts.{StepCounts}
use Rattle.ga_ports.specs.declared.side.Side.{Side}
use Rattle.ga_ports.specs.declared.side.Side.TheVariants.{Right, Down, Left, Up}
use Rattle.ga_grid.specs.Grid.{neighbour_number}
use Rattle.ga_causal.specs.Steps.{count_touching_events, IsKthStep}
use Rattle.ga_race_detector.specs.declared.around.Around.{Around}
use Rattle.ga_race_detector.specs.declared.around.StepsLeftNearby.{StepsLeftNearby}
use Rattle.ga_race_detector.specs.declared.around.Sweep.{Sweep}
use Rattle.ga_race_detector.specs.declared.left.StepsLeft.{StepsLeft}
use Rattle.ga_race_detector.specs.inner.Writers.{AreStepsLeftByRollbacks, IsStepsLeftUpdated}
use Rattle.ga_races.specs.declared.racing_pairs.RacingPair.{RacingPair}
use Rattle.ga_race_detector.specs.declared.readings.LookRace.{LookRace}
use Rattle.ga_race_detector.specs.Races.{is_next_event_look}
use Rattle.ga_race_detector.specs.Readings.{IsReportedLookRace}
use Rattle.ga_race_detector.specs.declared.look_changes.LookChange.{LookChange}

-- ---- nodes as they were before a place of the history, and the event at the place as it was made

-- before the place the node had this wait, by number, and had made `count` steps
pub record HadWaitAndSteps (s : MachineState) (m place code count : ℕ) : Type 0 where
  pub wait : (node_record_at (chip_of_machine (earlier_state s place)) m).wait ≡ wait_of_code code
  pub valid : IsWaitCode code
  pub steps : count ≡ count_steps m (take place s.kept)

-- before the place each node of the chip had its wait, by number, and its number of steps in these lists
abbrev pub AllNodesHadWaitsAndSteps : MachineState → ℕ → List ℕ → List ℕ → Type 0
AllNodesHadWaitsAndSteps s place waits steps = (m : ℕ) → m < 144 → HadWaitAndSteps s m place (slice_index waits m) (slice_index steps m)

-- this is the event at the place of the history
pub record IsEventAtPosition (s : MachineState) (place : ℕ) (cause : EventWithLook) : Type 0 where
  pub within : place < length s.kept
  pub is : event_at (machine_events_with_looks s) place ≡ cause

-- the act has what the event at the place changed of what is shown to each node of the chip
abbrev pub IsAccessOfEventAtPosition : MachineState → ℕ → EventAccess → Type 0
IsAccessOfEventAtPosition s place act = (n : ℕ) → n < 144 → (trace_action_of_event_access act).changes n ≡ (trace_action_at (trace_actions_of_events s.load s.kept) place).changes n

-- the node of an event, of a pass its writer
abbrev pub event_node_or_writer : Event → NodeId
event_node_or_writer (Own n) = n
event_node_or_writer (Pass w r side) = w

-- the node of an event, of a pass its reader
abbrev pub event_node_or_reader : Event → NodeId
event_node_or_reader (Own n) = n
event_node_or_reader (Pass w r side) = r

-- before the event at the place its nodes had made these numbers of steps, and if it looks it reads this word
pub record AreEventStepCounts (s : MachineState) (place : ℕ) (cause : EventWithLook) (moment : StepCounts) : Type 0 where
  pub first : moment.first ≡ count_steps (event_node_or_writer cause.event).number (take place s.kept)
  pub last : moment.last ≡ count_steps (event_node_or_reader cause.event).number (take place s.kept)
  pub word : cause.look ≡ true → moment.word ≡ io_word (neighbour_states (chip_of_machine (earlier_state s place)) (event_node_or_writer cause.event).number)

-- the moment that is read past the end of a list of moments
abbrev pub zero_step_counts : StepCounts
zero_step_counts = record { first = 0; last = 0; word = 0 }

-- from a place on each of the events has its moment
abbrev pub AreStepCountsOfEventsFrom : MachineState → ℕ → List EventWithLook → List StepCounts → Type 0
AreStepCountsOfEventsFrom s place causes moments = (i : ℕ) → place ≤ i → i < length moments → AreEventStepCounts s i (event_at causes i) (slice_index_or moments i zero_step_counts)

-- each of the events has its moment in the list
pub record AreEventsStepCounts (s : MachineState) (causes : List EventWithLook) (moments : List StepCounts) : Type 0 where
  pub size : length moments ≡ length causes
  pub each : AreStepCountsOfEventsFrom s 0 causes moments

-- ---- how many steps of a node and of its neighbours a rollback of a step leaves

-- how many steps of the neighbour on a side are left
abbrev pub kept_steps_of_neighbour : Around → Side → ℕ
kept_steps_of_neighbour around Right = around.right
kept_steps_of_neighbour around Down = around.down
kept_steps_of_neighbour around Left = around.left
kept_steps_of_neighbour around Up = around.up

-- the list of how many steps of the neighbour on a side are left
abbrev pub side_steps_left_list : StepsLeftNearby → Side → List ℕ
side_steps_left_list lists Right = lists.right.items
side_steps_left_list lists Down = lists.down.items
side_steps_left_list lists Left = lists.left.items
side_steps_left_list lists Up = lists.up.items

-- what is known of a side, for the events so far
abbrev pub sweep_steps_left_on_side : Sweep → Side → StepsLeft
sweep_steps_left_on_side sweep Right = sweep.right
sweep_steps_left_on_side sweep Down = sweep.down
sweep_steps_left_on_side sweep Left = sweep.left
sweep_steps_left_on_side sweep Up = sweep.up

-- nothing is known of a node yet: no step was counted, and the list is empty
pub record IsEmptyStepsLeft (left : StepsLeft) : Type 0 where
  pub count : left.count ≡ 0
  pub list : left.list.items ≡ []

-- nothing is known yet of the node and of its neighbours
pub record IsEmptySweep (node : NodeId) (sweep : Sweep) : Type 0 where
  pub here : IsEmptyStepsLeft sweep.here
  pub beside : (side : Side) → IsEmptyStepsLeft (sweep_steps_left_on_side sweep side)
  pub own : sweep.here.node ≡ node
  pub nodes : (side : Side) (m : ℕ) → neighbour_number node.number side ≡ Some m → (sweep_steps_left_on_side sweep side).node.number ≡ m

-- one more event was taken in for the node and for each side
pub record IsEventAddedToSweep (old new : Sweep) (cause : EventWithLook) (depth : ℕ) : Type 0 where
  pub here : IsStepsLeftUpdated old.here new.here cause depth
  pub beside : (side : Side) → IsStepsLeftUpdated (sweep_steps_left_on_side old side) (sweep_steps_left_on_side new side) cause depth

-- for no node the number of counted steps is so great that one more doesn't fit
pub record HasRoomInStepCounts (sweep : Sweep) : Type 0 where
  pub here : sweep.here.count + 1 < 2 ^ 32
  pub right : sweep.right.count + 1 < 2 ^ 32
  pub down : sweep.down.count + 1 < 2 ^ 32
  pub left : sweep.left.count + 1 < 2 ^ 32
  pub up : sweep.up.count + 1 < 2 ^ 32

-- a rollback of step k of node b leaves these numbers of steps of node n and of each of its neighbours
pub record IsStepsLeftAround (causes : List EventWithLook) (b k n : ℕ) (around : Around) : Type 0 where
  pub node : around.node ≡ count_touching_events n (events_after_rewind causes b k)
  pub beside : (side : Side) (m : ℕ) → neighbour_number n side ≡ Some m → kept_steps_of_neighbour around side ≡ count_touching_events m (events_after_rewind causes b k)

-- the lists have how many steps of node n and of its neighbours a rollback of each step of node b leaves
pub record AreStepsLeftNearby (causes : List EventWithLook) (b n : ℕ) (lists : StepsLeftNearby) : Type 0 where
  pub node : AreStepsLeftByRollbacks causes b n lists.node.items
  pub beside : (side : Side) (m : ℕ) → neighbour_number n side ≡ Some m → AreStepsLeftByRollbacks causes b m (side_steps_left_list lists side)

-- ---- what private contracts, invariants and bridges cite

-- the node of an event that is a neighbour of another, of a pass the writer if that is one
abbrev pub neighbour_node_of_event : Event → ℕ → NodeId
neighbour_node_of_event (Own own) n = own
neighbour_node_of_event (Pass writer reader side) n = if are_neighbours n writer.number then writer else reader

-- the look and the change of a reading are at these two places
pub record IsLookRaceAtPositions (s : MachineState) (near : RacingPair) (reading : LookRace) : Type 0 where
  pub looks : IsKthStep (machine_events_with_looks s) reading.node.number reading.step near.look
  pub changes : IsKthStep (machine_events_with_looks s) reading.neighbour.number reading.change near.change
  pub side : Side
  pub beside : neighbour_number reading.node.number side ≡ Some reading.neighbour.number
  pub order : reading.is_look_first ≡ nat_lt near.look near.change

-- the step that a rollback removes for the look to read another word
abbrev pub rollback_step_of_look_change : LookChange → NodeId × ℕ
rollback_step_of_look_change glance = if glance.is_look_first then (glance.node, glance.step) else (glance.neighbour, glance.change)

-- two looks are of one node, and the removed steps for both are of one node
pub record HaveSameRollbackNodes (one other : LookChange) : Type 0 where
  pub node : one.node.number ≡ other.node.number
  pub taken : (rollback_step_of_look_change one).0.number ≡ (rollback_step_of_look_change other).0.number

-- the look and the change are at these places
pub record IsLookChangeAtPositions (s : MachineState) (near : RacingPair) (glance : LookChange) : Type 0 where
  pub look : near.look < length (machine_events_with_looks s)
  pub change_at : near.change < length (machine_events_with_looks s)
  pub looked : event_at (machine_events_with_looks s) near.look ≡ record { event = Own glance.node; look = true }
  pub step : glance.step ≡ count_touching_events glance.node.number (take near.look (machine_events_with_looks s)) + 1
  pub word : glance.word ≡ io_word (neighbour_states (chip_of_machine (earlier_state s near.look)) glance.node.number)
  pub neighbour : glance.neighbour ≡ neighbour_node_of_event (event_at (machine_events_with_looks s) near.change).event glance.node.number
  pub change : glance.change ≡ count_touching_events glance.neighbour.number (take near.change (machine_events_with_looks s)) + 1
  pub is_look_first : glance.is_look_first ≡ nat_lt near.look near.change

-- the look and the change are at some places, and the node that looked is the requested one, if one was
abbrev pub IsRequestedLookChange : MachineState → Option NodeId → LookChange → Type 0
IsRequestedLookChange s only glance = ((near : RacingPair) × IsLookChangeAtPositions s near glance) × IfSome only (λ node. glance.node ≡ node)

-- one of the list is the look and the change at the places
abbrev pub IsRacingPairListed : MachineState → RacingPair → List LookChange → Type 0
IsRacingPairListed s near list = (glance : LookChange) × Contains list glance × IsLookChangeAtPositions s near glance

-- for each reading to be reported that is at listed places, one of the list is the look and the change there
abbrev pub AreReportedPairsListed : MachineState → Option NodeId → List RacingPair → List LookChange → Type 0
AreReportedPairsListed s only nears list = (reading : LookRace) (near : RacingPair) → Contains nears near → IsReportedLookRace s only reading → IsLookRaceAtPositions s near reading → IsRacingPairListed s near list

-- how many steps of the node that looked, and of its neighbours, a rollback of the step for it to read another word leaves
abbrev pub AreStepsKeptByLookRollback : List EventWithLook → LookChange → Around → Type 0
AreStepsKeptByLookRollback causes glance around = IsStepsLeftAround causes (rollback_step_of_look_change glance).0.number (rollback_step_of_look_change glance).1 glance.node.number around

-- the step that is removed for the look to read another word was made
pub record IsRemovedStepMade (causes : List EventWithLook) (glance : LookChange) : Type 0 where
  pub first : 0 < (rollback_step_of_look_change glance).1
  pub within : (rollback_step_of_look_change glance).1 ≤ count_touching_events (rollback_step_of_look_change glance).0.number causes

-- what is known of how many steps are left around some of the looks is true
abbrev pub AreKnownStepsLeftCorrect : List EventWithLook → List LookChange → List (Option Around) → Type 0
AreKnownStepsLeftCorrect causes glances known =
    (i : ℕ) (glance : LookChange) (around : Around) → glance ≡ slice_index_or glances i glance → slice_index_or known i None ≡ Some around → AreStepsKeptByLookRollback causes glance around

-- After a rollback of the one step, the look comes next and reads the word.
pub record IsOtherReadWord (s : MachineState) (glance : LookChange) (word : ℕ) : Type 0 where
  pub is : word ≡ io_word (neighbour_states (chip_of_machine (state_after_rewind s (rollback_step_of_look_change glance).0.number (rollback_step_of_look_change glance).1)) glance.node.number)
  pub next : is_next_event_look (chip_of_machine (state_after_rewind s (rollback_step_of_look_change glance).0.number (rollback_step_of_look_change glance).1)) glance.node.number ≡ true
  pub step : count_steps glance.node.number (state_after_rewind s (rollback_step_of_look_change glance).0.number (rollback_step_of_look_change glance).1).kept + 1 ≡ glance.step

-- no reading of these looks and changes that is to be reported is left out
abbrev pub AreAllLookRacesFound : MachineState → Option NodeId → List LookChange → List LookRace → Type 0
AreAllLookRacesFound s only glances list =
    (near : RacingPair) (glance : LookChange) (reading : LookRace) → Contains glances glance → IsLookChangeAtPositions s near glance → IsReportedLookRace s only reading → IsLookRaceAtPositions s near reading
    → Contains list reading
