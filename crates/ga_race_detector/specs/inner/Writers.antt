-- Sides of a node over which nothing is ever offered.
use Rattle.std.specs.Prelude.{◌≡◌, ◌<◌, ◌≤◌, ◌+◌, ◌==◌, ◌&&◌, max, ℕ, if◌then◌else◌, List, [], ◌∷◌, length, slice_index, Option, Some, None, Bool, false}
use Rattle.ga_ports.specs.declared.side.Side.{Side}
use Rattle.ga_ports.specs.declared.side.Side.TheVariants.{Right, Down, Left, Up}
use Rattle.ga_node.specs.Record.{NodeRecord}
use Rattle.ga_node.specs.Table.{register_t}
use Rattle.ga_grid.specs.Grid.{neighbour_number}
use Rattle.ga_event.specs.declared.event.EventWithLook.{EventWithLook}
use Rattle.ga_event.specs.Apply.{waits_to_write_side}
use Rattle.ga_event.specs.Touches.{nodes_observed_by_event}
use Rattle.ga_event.specs.declared.made.MadeEvent.{MadeEvent}
use Rattle.ga_event.specs.declared.made.MadeEvent.TheVariants.{Own, Pass}
use Rattle.ga_causal.specs.Dependence.{event_with_look_touches_node, events_after_rewind}
use Rattle.ga_causal.specs.Steps.{count_touching_events}
use Rattle.ga_race_detector.specs.declared.left.LeftBeside.{LeftBeside}
use Rattle.ga_race_detector.specs.declared.left.StepsLeft.{StepsLeft}
use Rattle.ga_lab.specs.Machine.{MachineState, chip_of_machine, state_after_rewind, machine_events_with_looks}
use Rattle.ga_race_detector.specs.Races.{alternative_word}
use Rattle.ga_race_detector.specs.declared.writers.Writers.{Writers}
use Rattle.ga_race_detector.specs.declared.races.Besides.{Besides}

-- ---- how many steps of a node a rollback of each step of another leaves

-- the greatest of the numbers of some nodes
abbrev pub greatest_of_node_numbers : (ℕ → ℕ) → List ℕ → ℕ
greatest_of_node_numbers known [] = 0
greatest_of_node_numbers known (n ∷ ns) = max (known n) (greatest_of_node_numbers known ns)

-- the greater of a number and that of a node, where there is one
abbrev pub max_with_optional_node_number : (ℕ → ℕ) → Option ℕ → ℕ → ℕ
max_with_optional_node_number known None number = number
max_with_optional_node_number known (Some n) number = max (known n) number

-- The depth of an event: on how many of a node's first steps it depends, itself among them. `made` steps of the node come
-- before it, and `known` has the depth of the newest event of each node.
abbrev pub event_depth : (ℕ → ℕ) → ℕ → ℕ → EventWithLook → ℕ
event_depth known n made cause = if event_with_look_touches_node cause n then made + 1 else greatest_of_node_numbers known (nodes_observed_by_event cause)

-- the list has how many steps of node m a rollback of each of the first steps of node n leaves
abbrev pub AreStepsLeftByFirstRollbacks : List EventWithLook → ℕ → ℕ → List ℕ → Type 0
AreStepsLeftByFirstRollbacks causes n m left = (k : ℕ) → k < length left → slice_index left k ≡ count_touching_events m (events_after_rewind causes n (k + 1))

-- the list has how many steps of node m a rollback of each step of node n leaves
pub record AreStepsLeftByRollbacks (causes : List EventWithLook) (n m : ℕ) (left : List ℕ) : Type 0 where
  pub size : length left ≡ count_touching_events n causes
  pub each : AreStepsLeftByFirstRollbacks causes n m left

-- a list was filled up to a length with a number
pub record IsListPaddedWith (old new : List ℕ) (to number : ℕ) : Type 0 where
  pub size : length new ≡ max (length old) to
  pub same : (k : ℕ) → k < length old → slice_index new k ≡ slice_index old k
  pub more : (k : ℕ) → length old ≤ k → k < length new → slice_index new k ≡ number

-- One more event, with this depth, was added: if it is a step of the node, the list is filled up to the depth with the number
-- of the node's steps before it, since a rollback of any of these steps removes it.
pub record IsStepsLeftUpdated (old new : StepsLeft) (cause : EventWithLook) (depth : ℕ) : Type 0 where
  pub node : new.node ≡ old.node
  pub count : new.count ≡ old.count + (if event_with_look_touches_node cause old.node.number then 1 else 0)
  pub list : IsListPaddedWith old.list.items new.list.items (if event_with_look_touches_node cause old.node.number then depth else length old.list.items) old.count

-- the word that a node waits to write over the side
abbrev pub posted_word_over_side : NodeRecord → Side → Option ℕ
posted_word_over_side node side = if waits_to_write_side node.wait side then Some (register_t node) else None

-- the word of a pass from the one node to the other
abbrev pub word_passed_between : ℕ → ℕ → MadeEvent → Option ℕ
word_passed_between writer reader (Own node step kind) = None
word_passed_between writer reader (Pass from i to j word) = if from.number == writer && to.number == reader then Some word else None

-- the list of how many steps of the neighbour on a side are left
abbrev pub neighbour_steps_left_list : LeftBeside → Side → List ℕ
neighbour_steps_left_list beside Right = beside.right.items
neighbour_steps_left_list beside Down = beside.down.items
neighbour_steps_left_list beside Left = beside.left.items
neighbour_steps_left_list beside Up = beside.up.items

-- the list of each side has how many steps of the neighbour there a rollback of each of the first steps of the node leaves
abbrev pub AreNeighbourStepsLeft : List EventWithLook → ℕ → LeftBeside → Type 0
AreNeighbourStepsLeft causes n beside = (side : Side) (m : ℕ) → neighbour_number n side ≡ Some m → AreStepsLeftByFirstRollbacks causes n m (neighbour_steps_left_list beside side)

-- the flag of a side
abbrev pub is_side_flagged_for_writer : Writers → Side → Bool
is_side_flagged_for_writer flags Right = flags.right
is_side_flagged_for_writer flags Down = flags.down
is_side_flagged_for_writer flags Left = flags.left
is_side_flagged_for_writer flags Up = flags.up

-- a rollback of none of the node's steps leaves a word offered to it over the side
abbrev pub IsNeverOfferedOverSide : MachineState → ℕ → Side → Type 0
IsNeverOfferedOverSide s n side = (k : ℕ) → alternative_word (chip_of_machine (state_after_rewind s n k)) n side ≡ None

-- a rollback of none of the node's steps leaves a word offered to it over a side that has no flag
abbrev pub AreUnflaggedSidesSilent : MachineState → ℕ → Writers → Type 0
AreUnflaggedSidesSilent s n flags = (side : Side) → is_side_flagged_for_writer flags side ≡ false → IsNeverOfferedOverSide s n side

-- ---- what is known of the neighbours of a node while its races are looked for

pub record IsNeighbourKnowledgeTrue (s : MachineState) (n : ℕ) (beside : Besides) : Type 0 where
  pub silent : AreUnflaggedSidesSilent s n beside.writers
  pub left : AreNeighbourStepsLeft (machine_events_with_looks s) n beside.left
