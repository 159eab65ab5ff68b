-- What only private contracts and proofs name.
use Rattle.std.specs.Prelude.{◌≡◌, ◌<◌, ◌≤◌, ◌⊎◌, ◌&&◌, ℕ, Bool, true, List, Contains, ◌==◌, not, length, false, ◌||◌, Option, Some, None, is_some}
use Rattle.ga_ports.specs.declared.side.Side.{Side}
use Rattle.ga_grid.specs.Grid.{neighbour_number}
use Rattle.ga_event.specs.Apply.{equals_optional_number, shown_wait_state, waits_to_write_side, waits_to_read_side}
use Rattle.ga_races.specs.declared.act.EventAccess.{EventAccess}
use Rattle.ga_races.specs.declared.act.SideSet.{SideSet}
use Rattle.ga_races.specs.declared.racing_pairs.RacingPair.{RacingPair}
use Rattle.ga_races.specs.HappensBefore.{trace_action_at, TraceAction, are_dependent_actions, HappensBefore}
use Rattle.ga_races.specs.Acts.{has_side_towards_node, trace_actions_of_accesses, is_look_of_node, IsRacingLook, awaits_side}
use Rattle.ga_ports.specs.declared.side.Side.TheVariants.{Right, Down, Left, Up}
use Rattle.ga_node.specs.declared.seen.NeighbourState.{NeighbourState}
use Rattle.ga_node.specs.declared.seen.NeighbourState.TheVariants.{Nobody, Idle, Reading, Writing}
use Rattle.ga_node.specs.declared.wait.Wait.{Wait}
use Rattle.ga_node.specs.Record.{NodeRecord}
use Rattle.ga_grid.specs.Chip.{node_record_at}
use Rattle.ga_event.specs.declared.event.Event.{Event}
use Rattle.ga_event.specs.declared.event.Event.TheVariants.{Own, Pass}
use Rattle.ga_node.specs.Table.{refusal_of_own_event}
use Rattle.ga_causal.specs.inner.{is_optional_node_marked}
use Rattle.std.specs.List.{list_any}
use Rattle.ga_event.specs.Touches.{touches}
use Rattle.ga_causal.specs.Dependence.{touched_nodes}

-- ---- which racing pairs a part of a list adds

-- A list of pairs after an addition: it has its old pairs, else only racing pairs, and all racing pairs of the requested ones.
pub record AddsRacingPairs (acts : List EventAccess) (asked : RacingPair → Type 0) (old new : List RacingPair) : Type 0 where
  pub kept : (near : RacingPair) → Contains old near → Contains new near
  pub sound : (near : RacingPair) → Contains new near → Contains old near ⊎ IsRacingLook acts near
  pub all : (near : RacingPair) → asked near → IsRacingLook acts near → Contains new near

-- whether the look and the change are at these two places
abbrev pub IsPairAtPlaces : ℕ → ℕ → RacingPair → Type 0
IsPairAtPlaces look change near = (near.look ≡ look) × (near.change ≡ change)

-- whether the look is at this place, and the change before it from a place on
abbrev pub IsPairWithLookAtPlace : ℕ → ℕ → RacingPair → Type 0
IsPairWithLookAtPlace look from near = (near.look ≡ look) × (near.change < look) × (from ≤ near.change)

-- whether the change is at this place, and before it a look of the node
abbrev pub IsPairWithChangeAtPlace : List EventAccess → ℕ → ℕ → RacingPair → Type 0
IsPairWithChangeAtPlace acts change n near =
    (near.change ≡ change) × (near.look < change) × (is_look_of_node (trace_action_at (trace_actions_of_accesses acts) near.look) n ≡ true)

-- whether the change is at this place, and before it a look of the neighbour on a side of a node, if `has` is true
abbrev pub IsPairWithLookOverSide : List EventAccess → ℕ → ℕ → Side → Bool → RacingPair → Type 0
IsPairWithLookOverSide acts change m side has near = (n : ℕ) × IsPairWithChangeAtPlace acts change n near × ((has && equals_optional_number (neighbour_number m side) n) ≡ true)

-- whether the change is at this place, and before it a look of the neighbour on one of the sides of a node
abbrev pub IsPairWithLookOverSides : List EventAccess → ℕ → ℕ → SideSet → RacingPair → Type 0
IsPairWithLookOverSides acts change m sides near = (n : ℕ) × IsPairWithChangeAtPlace acts change n near × (has_side_towards_node sides m n ≡ true)

-- whether the later of the look and the change is at the place
abbrev pub IsPairWithLaterAtPlace : ℕ → RacingPair → Type 0
IsPairWithLaterAtPlace place near = ((near.look ≡ place) × (near.change < place)) ⊎ ((near.change ≡ place) × (near.look < place))

-- whether the look and the change are both before the place
abbrev pub IsPairBelowPlace : ℕ → RacingPair → Type 0
IsPairBelowPlace place near = (near.look < place) × (near.change < place)

-- each node that looks before the place is marked
abbrev pub AreLookingNodesMarked : List EventAccess → ℕ → (ℕ → Bool) → Type 0
AreLookingNodesMarked acts place marks = (q n : ℕ) → q < place → is_look_of_node (trace_action_at (trace_actions_of_accesses acts) q) n ≡ true → marks n ≡ true

-- ---- on which sides of a node what it shows there changes

-- the number of what a side shows: 0 for nothing, 1 for a node that waits to read there, 2 for one that waits to write
abbrev pub shown_state_number : NeighbourState → ℕ
shown_state_number Nobody = 0
shown_state_number Idle = 0
shown_state_number Reading = 1
shown_state_number Writing = 2

-- a node that waited so, and then so, shows something else on the side
abbrev pub is_shown_state_changed : Wait → Wait → Side → Bool
is_shown_state_changed before behind side = not (shown_state_number (shown_wait_state before side) == shown_state_number (shown_wait_state behind side))

abbrev pub sides_of_changed_shown_state : Wait → Wait → SideSet
sides_of_changed_shown_state before behind = record {
  right = is_shown_state_changed before behind Right;
  down = is_shown_state_changed before behind Down;
  left = is_shown_state_changed before behind Left;
  up = is_shown_state_changed before behind Up;
}

-- the act has of each node of the event the sides on which it shows something else on the second chip
abbrev pub HasSidesChangedByEvent : List NodeRecord → List NodeRecord → EventAccess → Event → Type 0
HasSidesChangedByEvent c d act (Own m) = act.first ≡ sides_of_changed_shown_state (node_record_at c m.number).wait (node_record_at d m.number).wait
HasSidesChangedByEvent c d act (Pass w r side) =
    (act.first ≡ sides_of_changed_shown_state (node_record_at c w.number).wait (node_record_at d w.number).wait)
    × (act.second ≡ sides_of_changed_shown_state (node_record_at c r.number).wait (node_record_at d r.number).wait)

-- two lists have the same causes, which change what is shown to the same nodes of the chip
pub record AreActionListsAlike (xs ys : List TraceAction) : Type 0 where
  pub size : length xs ≡ length ys
  pub cause : (i : ℕ) → i < length xs → (trace_action_at xs i).cause ≡ (trace_action_at ys i).cause
  pub changes : (i n : ℕ) → i < length xs → n < 144 → (trace_action_at xs i).changes n ≡ (trace_action_at ys i).changes n

-- ---- what private contracts, invariants and bridges cite

-- whether the neighbour of this number, if there is one, may free a node that waits so for it: it isn't marked, or it can take
-- a word from the node now
abbrev pub may_free_waiting_node : List NodeRecord → (ℕ → Bool) → Wait → Side → Option ℕ → Bool
may_free_waiting_node chip marks wait side None = false
may_free_waiting_node chip marks wait side (Some m) = not (marks m) || (waits_to_write_side wait side && waits_to_read_side (node_record_at chip m).wait side)

-- whether a node awaits a neighbour that may free it: on this side, and in `is_freed` on any
abbrev pub is_freed_over_side : List NodeRecord → (ℕ → Bool) → ℕ → Side → Bool
is_freed_over_side chip marks n side =
    awaits_side (node_record_at chip n).wait side && may_free_waiting_node chip marks (node_record_at chip n).wait side (neighbour_number n side)

unfoldable pub is_freed : List NodeRecord → (ℕ → Bool) → ℕ → Bool
is_freed chip marks n =
    is_freed_over_side chip marks n Right || (is_freed_over_side chip marks n Down || (is_freed_over_side chip marks n Left || is_freed_over_side chip marks n Up))

-- whether each node of the chip is marked exactly if it waits or is stopped
abbrev pub MarksHaltedNodes : List NodeRecord → (ℕ → Bool) → Type 0
MarksHaltedNodes chip marks = (n : ℕ) → n < 144 → marks n ≡ is_some (refusal_of_own_event (node_record_at chip n))

-- no marked node is freed
abbrev pub HasNoFreedNode : List NodeRecord → (ℕ → Bool) → Type 0
HasNoFreedNode chip marks = (n : ℕ) → marks n ≡ true → is_freed chip marks n ≡ false

-- ---- sides of a node with a marked neighbour

-- the neighbour on one of the sides of a node is marked
abbrev pub has_marked_neighbour_on_sides : (ℕ → Bool) → SideSet → ℕ → Bool
has_marked_neighbour_on_sides marks sides m =
    (sides.right && is_optional_node_marked marks (neighbour_number m Right)) || ((sides.down && is_optional_node_marked marks (neighbour_number m Down))
    || ((sides.left && is_optional_node_marked marks (neighbour_number m Left)) || (sides.up && is_optional_node_marked marks (neighbour_number m Up))))

-- ---- what one pass over a list finds of what happens after one of its actions

-- the action touches the node; in `action_changes_view` it changes what is shown to the node, in `has_looked` it is a look that touches the node
abbrev pub action_touches_node : TraceAction → ℕ → Bool
action_touches_node action n = touches action.cause.event n

abbrev pub action_changes_view : TraceAction → ℕ → Bool
action_changes_view action n = action.changes n

abbrev pub has_looked : TraceAction → ℕ → Bool
has_looked action n = action.cause.look && touches action.cause.event n

-- an event whose nodes change on these sides what they show, shows something else to a marked node
abbrev pub shows_change_to_marked_node : (ℕ → Bool) → Event → SideSet → SideSet → Bool
shows_change_to_marked_node marks (Own m) first second = has_marked_neighbour_on_sides marks first m.number
shows_change_to_marked_node marks (Pass w r side) first second = has_marked_neighbour_on_sides marks first w.number || has_marked_neighbour_on_sides marks second r.number

-- whether an action is dependent with one of some that touch these nodes, change what is shown to those, and look in these
abbrev pub is_dependent_on_reached_actions : (ℕ → Bool) → (ℕ → Bool) → (ℕ → Bool) → EventAccess → Bool
is_dependent_on_reached_actions touched shown looked act =
    list_any touched (touched_nodes act.cause)
    || ((act.cause.look && list_any shown (touched_nodes act.cause)) || shows_change_to_marked_node looked act.cause.event act.first act.second)

-- the action at the place is the first, or that happens before it
abbrev pub IsFirstOrHappensAfter : List TraceAction → ℕ → ℕ → Type 0
IsFirstOrHappensAfter actions first place = (first ≡ place) ⊎ HappensBefore actions first place

-- the marked nodes are those that the reached actions before a place have
pub record AreNodeMarksOfReachedActions (actions : List TraceAction) (first place : ℕ) (has : TraceAction → ℕ → Bool) (marks : ℕ → Bool) : Type 0 where
  pub some : (n : ℕ) → marks n ≡ true → (m : ℕ) × (m < place) × IsFirstOrHappensAfter actions first m × (has (trace_action_at actions m) n ≡ true)
  pub all : (m n : ℕ) → m < place → IsFirstOrHappensAfter actions first m → has (trace_action_at actions m) n ≡ true → marks n ≡ true

-- the three sets have the nodes that the reached actions before a place touch, change what is shown to, and look in; of these
-- actions only the first can be dependent with the one at the place `later`
pub record AreNodeSetsOfReachedActions (actions : List TraceAction) (first later place : ℕ) (one two three : ℕ → Bool) : Type 0 where
  pub touched : AreNodeMarksOfReachedActions actions first place action_touches_node one
  pub shown : AreNodeMarksOfReachedActions actions first place action_changes_view two
  pub looked : AreNodeMarksOfReachedActions actions first place has_looked three
  pub none : (m : ℕ) → m < place → HappensBefore actions first m → are_dependent_actions (trace_action_at actions m) (trace_action_at actions later) ≡ false

-- ---- the parts in which two nodes are compared

-- two nodes hold the same outside of stacks and memories, but for what they wait for
pub record HasSameRegisters (one other : NodeRecord) : Type 0 where
  pub a : one.a ≡ other.a
  pub b : one.b ≡ other.b
  pub p : one.p ≡ other.p
  pub i : one.i ≡ other.i
  pub io : one.io ≡ other.io
  pub carry : one.carry ≡ other.carry
  pub slot : one.slot ≡ other.slot
  pub stop : one.stop ≡ other.stop
