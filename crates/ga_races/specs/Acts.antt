-- Actions as they are stored: of each event whether it looks, and on which sides of the nodes that it touches what it shows
-- there changes.
use Rattle.std.specs.Prelude.{◌≡◌, ℕ, ◌<◌, Bool, true, ◌≢◌, false, ◌||◌, List, Some, None, ◌⊎◌, ◌==◌, ◌&&◌, map}
use Rattle.ga_ports.specs.declared.side.Side.{Side}
use Rattle.ga_node.specs.Record.{NodeRecord}
use Rattle.ga_node.specs.Table.{refusal_of_own_event}
use Rattle.ga_node.specs.declared.wait.Wait.{Wait}
use Rattle.ga_grid.specs.Grid.{neighbour_number}
use Rattle.ga_grid.specs.Chip.{node_record_at}
use Rattle.ga_event.specs.Apply.{waits_to_write_side, waits_to_read_side, equals_optional_number}
use Rattle.ga_ports.specs.declared.side.Side.TheVariants.{Right, Down, Left, Up}
use Rattle.ga_event.specs.declared.event.Event.{Event}
use Rattle.ga_event.specs.declared.event.Event.TheVariants.{Own, Pass}
use Rattle.ga_races.specs.declared.act.EventAccess.{EventAccess}
use Rattle.ga_races.specs.declared.act.SideSet.{SideSet}
use Rattle.ga_races.specs.declared.racing_pairs.RacingPair.{RacingPair}
use Rattle.ga_races.specs.HappensBefore.{TraceAction, trace_action_at, AreRacingActions}

-- ---- sets of nodes of the chip, one within another

-- each node that is marked by the first is marked by the second
abbrev pub IsMarkedSubset : (ℕ → Bool) → (ℕ → Bool) → Type 0
IsMarkedSubset marks others = (n : ℕ) → n < 144 → marks n ≡ true → others n ≡ true

-- ---- deadlocked sets of nodes. A wait cycle alone need not be one: a node that reads from several sides can be freed from
-- outside of the cycle. Here all nodes that a node of the set awaits are in the set too (F18A Technology Reference DB001,
-- ports; G144A12 Chip Reference DB002, links).

-- a node that waits so awaits the neighbour on this side
abbrev pub awaits_side : Wait → Side → Bool
awaits_side wait side = waits_to_write_side wait side || waits_to_read_side wait side

-- The marked nodes are deadlocked: each waits or is stopped, each neighbour that it awaits is marked, and no two of them can
-- transfer a word.
pub record AreDeadlocked (chip : List NodeRecord) (marks : ℕ → Bool) : Type 0 where
  pub halted : (n : ℕ) → marks n ≡ true → refusal_of_own_event (node_record_at chip n) ≢ None
  pub inside : (n m : ℕ) (side : Side) → marks n ≡ true → awaits_side (node_record_at chip n).wait side ≡ true → neighbour_number n side ≡ Some m → marks m ≡ true
  pub apart : (n m : ℕ) (side : Side) → marks n ≡ true → marks m ≡ true → neighbour_number n side ≡ Some m
      → waits_to_write_side (node_record_at chip n).wait side ≡ true → waits_to_read_side (node_record_at chip m).wait side ≡ false

-- one of the sides of the first node leads to the second
abbrev pub has_side_towards_node : SideSet → ℕ → ℕ → Bool
has_side_towards_node sides m n =
    (sides.right && equals_optional_number (neighbour_number m Right) n) || ((sides.down && equals_optional_number (neighbour_number m Down) n)
    || ((sides.left && equals_optional_number (neighbour_number m Left) n) || (sides.up && equals_optional_number (neighbour_number m Up) n)))

-- the event, whose nodes change on these sides what they show, changes what is shown to the node
abbrev pub changes_view_of_node : Event → SideSet → SideSet → ℕ → Bool
changes_view_of_node (Own m) first second n = has_side_towards_node first m.number n
changes_view_of_node (Pass w r side) first second n = has_side_towards_node first w.number n || has_side_towards_node second r.number n

abbrev pub trace_action_of_event_access : EventAccess → TraceAction
trace_action_of_event_access act = record { cause = act.cause; changes = λ n. changes_view_of_node act.cause.event act.first act.second n }

abbrev pub trace_actions_of_accesses : List EventAccess → List TraceAction
trace_actions_of_accesses acts = map trace_action_of_event_access acts

abbrev pub is_node_own_event : Event → ℕ → Bool
is_node_own_event (Own m) n = m.number == n
is_node_own_event (Pass w r side) n = false

-- the action is a look of the node
abbrev pub is_look_of_node : TraceAction → ℕ → Bool
is_look_of_node action n = action.cause.look && is_node_own_event action.cause.event n

-- At the two places are a look of a node and a change of what is shown to it, and they are a racing pair, in whichever order.
pub record IsRacingLook (acts : List EventAccess) (near : RacingPair) : Type 0 where
  pub node : ℕ
  pub look : is_look_of_node (trace_action_at (trace_actions_of_accesses acts) near.look) node ≡ true
  pub change : (trace_action_at (trace_actions_of_accesses acts) near.change).changes node ≡ true
  pub order : AreRacingActions (trace_actions_of_accesses acts) near.look near.change ⊎ AreRacingActions (trace_actions_of_accesses acts) near.change near.look
