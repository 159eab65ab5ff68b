-- Which event of a list comes before which in each order of it: happens-before (Lamport, "Time, clocks, and the ordering of
-- events in a distributed system", 1978), as the order of a trace (Mazurkiewicz, "Trace theory", 1987): two dependent events of
-- a list keep their order, and so do those that a chain of such joins. Netzer and Miller ("Optimal tracing and replay for
-- debugging message-passing parallel programs", 1992) decide by it what races. That a look keeps its place among the changes of
-- what is shown to it is this project's own, as looks are.
use Rattle.std.specs.Prelude.{◌≡◌, ℕ, Bool, true, ◌||◌, ◌⊎◌, Some, zero, suc, ◌+◌, ◌<◌, ◌≤◌, ◌==◌, max, ◌↔◌, false, not, ◌&&◌, if◌then◌else◌, List, [], ◌∷◌, length, map, take, slice_index_or}
use Rattle.ga_ports.specs.declared.side.Side.{Side}
use Rattle.ga_ports.specs.declared.side.Side.TheVariants.{Right, Down, Left, Up}
use Rattle.ga_grid.specs.Grid.{neighbour_number}
use Rattle.ga_event.specs.Apply.{equals_optional_number, waits_to_write_side, waits_to_read_side, neighbour_states, event_result, event_with_look_on_chip}
use Rattle.std.specs.List.{list_any}
use Rattle.ga_node.specs.Io.{io_word}
use Rattle.ga_node.specs.Record.{NodeRecord}
use Rattle.ga_grid.specs.Chip.{node_record_at}
use Rattle.ga_event.specs.declared.event.Event.{Event}
use Rattle.ga_event.specs.declared.event.EventWithLook.{EventWithLook}
use Rattle.ga_event.specs.Touches.{touches}
use Rattle.ga_causal.specs.Dependence.{touched_nodes, event_with_look_touches_node, default_event_with_look}
use Rattle.ga_causal.specs.Steps.{count_touching_events, IsKthStep}
use Rattle.ga_races.specs.Orders.{AreConflictingPasses}

-- ---- nodes at which an event can change what the next event is: those that it touches and their neighbours (F18A Technology
-- Reference DB001, ports; G144A12 Chip Reference DB002, links). A node's next event depends on its own wait and stop and on the
-- waits of its neighbours.

-- whether the node of this number is marked or has a marked neighbour
abbrev pub IsMarkedOrNeighbour : (ℕ → Bool) → ℕ → Type 0
IsMarkedOrNeighbour marks n = (t : ℕ) × (marks t ≡ true) × ((n ≡ t) ⊎ ((side : Side) × (neighbour_number t side ≡ Some n)))

-- the nodes of these numbers are neighbours
abbrev pub are_neighbours : ℕ → ℕ → Bool
are_neighbours n m =
    equals_optional_number (neighbour_number n Right) m || (equals_optional_number (neighbour_number n Down) m || (equals_optional_number (neighbour_number n Left) m || equals_optional_number (neighbour_number n Up) m))

-- an event as it was made (a symbol of a trace's alphabet): with whether it looked, and the nodes to which it changed what
-- their neighbours show
pub record TraceAction : Type 0 where
  pub cause : EventWithLook
  pub changes : ℕ → Bool

-- the event, with whether it looks, and the nodes that would read another word in `io` after it than before it
abbrev pub trace_action_of_event : List NodeRecord → Event → TraceAction
trace_action_of_event chip event = record {
  cause = event_with_look_on_chip chip event;
  changes = λ n. not (io_word (neighbour_states (event_result chip event).0 n) == io_word (neighbour_states chip n));
}

-- the events of a list that can be made, each as it is made
abbrev pub trace_actions_of_events : List NodeRecord → List Event → List TraceAction
trace_actions_of_events chip [] = []
trace_actions_of_events chip (event ∷ events) = trace_action_of_event chip event ∷ trace_actions_of_events (event_result chip event).0 events

abbrev pub events_with_looks_of_trace_actions : List TraceAction → List EventWithLook
events_with_looks_of_trace_actions trace_actions_of_events = map (λ (action : TraceAction). action.cause) trace_actions_of_events

-- the action that is read past the end of a list
abbrev pub default_trace_action : TraceAction
default_trace_action = record { cause = default_event_with_look; changes = λ n. false }

abbrev pub trace_action_at : List TraceAction → ℕ → TraceAction
trace_action_at trace_actions_of_events place = slice_index_or trace_actions_of_events place default_trace_action

-- the first action is a look, and the second changes what is shown to it
abbrev pub is_look_changed_by : TraceAction → TraceAction → Bool
is_look_changed_by look change = look.cause.look && list_any change.changes (touched_nodes look.cause)

-- Whether two actions touch a common node, or one is a look and the other changes what is shown to it, in whichever order: the
-- dependence of a trace's symbols. Neighbours in a list are so exactly if they are not independent (law `reorderings_keep_happens_before`).
abbrev pub are_dependent_actions : TraceAction → TraceAction → Bool
are_dependent_actions first second =
    list_any (event_with_look_touches_node first.cause) (touched_nodes second.cause) || (is_look_changed_by first second || is_look_changed_by second first)

-- whether the action at the place `later` depends directly on the one at the place `earlier`
pub record HappensDirectlyBefore (actions : List TraceAction) (earlier later : ℕ) : Type 0 where
  pub before : earlier < later
  pub within : later < length actions
  pub bound : are_dependent_actions (trace_action_at actions earlier) (trace_action_at actions later) ≡ true

-- the action at one place happens before that at another: the least transitive relation that contains `HappensDirectlyBefore`
pub data HappensBefore (actions : List TraceAction) (first : ℕ) : ℕ → Type 0 where
  directly : {later : ℕ} → HappensDirectlyBefore actions first later → HappensBefore actions first later
  through : {middle later : ℕ} → HappensBefore actions first middle → HappensDirectlyBefore actions middle later → HappensBefore actions first later

-- the action at the place is the k-th that touches the node: the node's step k
abbrev pub IsStepOfNode : List NodeRecord → List Event → ℕ → ℕ → ℕ → Type 0
IsStepOfNode chip events n k place = IsKthStep (events_with_looks_of_trace_actions (trace_actions_of_events chip events)) n k place

-- whether, in another order of a list, the event at the place `first` comes before the one at the place `later`: each is a step
-- there of the same number of each of its nodes
abbrev pub IsEarlierInReordering : List NodeRecord → List Event → List Event → ℕ → ℕ → Type 0
IsEarlierInReordering chip events others first later = (n k m l p q : ℕ) → IsStepOfNode chip events n k first → IsStepOfNode chip events m l later
    → IsStepOfNode chip others n k p → IsStepOfNode chip others m l q → p < q

-- the chip after `place` of the events
abbrev pub chip_after_prefix : List NodeRecord → List Event → ℕ → List NodeRecord
chip_after_prefix chip [] place = chip
chip_after_prefix chip (event ∷ events) zero = chip
chip_after_prefix chip (event ∷ events) (suc place) = chip_after_prefix (event_result chip event).0 events place

abbrev pub event_at_place : List NodeRecord → List Event → ℕ → Event
event_at_place chip events place = (trace_action_at (trace_actions_of_events chip events) place).cause.event

-- Two dependent actions that touch no common node, and between which nothing happens.
pub record AreRacingActions (actions : List TraceAction) (first later : ℕ) : Type 0 where
  pub bound : HappensDirectlyBefore actions first later
  pub apart : (n : ℕ) → touches (trace_action_at actions first).cause.event n ≡ true → touches (trace_action_at actions later).cause.event n ≡ false
  pub none : (middle : ℕ) → HappensBefore actions first middle → HappensBefore actions middle later → ⊥

-- A racing pair: a look and a change of what is shown to it that keep their order only by this, in whichever order.
abbrev pub IsRacingPair : List NodeRecord → List Event → ℕ → ℕ → Type 0
IsRacingPair chip events first later = AreRacingActions (trace_actions_of_events chip events) first later

-- The event at the place is a pass, and another writer could have been there first: the reader waits for it too, and after
-- `posted` events, none of which is a step of this writer that happens after the pass, it waits to write to the reader.
pub record IsContendedPass (chip : List NodeRecord) (events : List Event) (place : ℕ) (other : Event) : Type 0 where
  pub rivals : AreConflictingPasses (event_at_place chip events place) other
  pub stands : place < length events
  pub posted : ℕ
  pub before : place ≤ posted
  pub within : posted ≤ length events
  pub near : neighbour_number rivals.second.number rivals.other ≡ Some rivals.reader.number
  pub reads : waits_to_read_side (node_record_at (chip_after_prefix chip events place) rivals.reader.number).wait rivals.other ≡ true
  pub writes : waits_to_write_side (node_record_at (chip_after_prefix chip events posted) rivals.second.number).wait rivals.other ≡ true
  pub none : (step : ℕ) → step < posted → touches (event_at_place chip events step) rivals.second.number ≡ true
      → HappensBefore (trace_actions_of_events chip events) place step → ⊥

-- The clock of the place has of each node how many of its steps happen before the action there or are it (the vector clocks of Fidge,
-- "Timestamps in message-passing systems that preserve the partial ordering", 1988, and Mattern, "Virtual time and global states of
-- distributed systems", 1989).
abbrev pub IsVectorClock : List TraceAction → ℕ → (ℕ → ℕ) → Type 0
IsVectorClock trace_actions_of_events place clock = (n k step : ℕ) → IsKthStep (events_with_looks_of_trace_actions trace_actions_of_events) n k step
    → (k ≤ clock n ↔ ((step ≡ place) ⊎ HappensBefore trace_actions_of_events step place))

-- the greatest number that one of some clocks has for a node; each clock is paired with its place
abbrev pub joined_clock : List (ℕ × (ℕ → ℕ)) → ℕ → ℕ
joined_clock [] n = 0
joined_clock (known ∷ others) n = max (known.1 n) (joined_clock others n)

-- the clock of a place made of clocks of earlier ones: of a node that the action touches its own step there
abbrev pub clock_at_place : List TraceAction → ℕ → List (ℕ × (ℕ → ℕ)) → ℕ → ℕ
clock_at_place trace_actions_of_events place known n =
    if event_with_look_touches_node (trace_action_at trace_actions_of_events place).cause n then count_touching_events n (take (place + 1) (events_with_looks_of_trace_actions trace_actions_of_events)) else joined_clock known n
