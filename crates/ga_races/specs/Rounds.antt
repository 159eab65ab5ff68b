-- Rounds: events of a node's own that lead back to its record before them. A node makes them when it polls whether a neighbour
-- waits for it (F18A Technology Reference DB001, "io": the bits of the neighbours' reads and writes), and when it computes for
-- ever.
use Rattle.std.specs.Prelude.{◌≡◌, ℕ, false, not, List, ◌++◌, Some, All}
use Rattle.std.specs.List.{filter}
use Rattle.ga_node.specs.Record.{NodeRecord}
use Rattle.ga_grid.specs.Chip.{node_record_at}
use Rattle.ga_event.specs.declared.event.Event.{Event}
use Rattle.ga_event.specs.declared.event.Event.TheVariants.{Own, Pass}
use Rattle.ga_event.specs.Touches.{touches}
use Rattle.ga_event.specs.Apply.{replay}
use Rattle.ga_event.specs.Told.{count_steps}

-- whether the event transfers no word to or from the node
abbrev pub IsNoTransferWithNode : ℕ → Event → Type 0
IsNoTransferWithNode n (Own a) = Unit {0}
IsNoTransferWithNode n (Pass w r side) = touches (Pass w r side) n ≡ false

-- the events that don't touch the node
abbrev pub events_without_node : ℕ → List Event → List Event
events_without_node n events = filter (λ e. not (touches e n)) events

-- On the chip, the node's events in the list are its own, and lead back to its record before them. Events of other nodes may be
-- in between.
pub record IsPollingRound (chip : List NodeRecord) (n : ℕ) (events : List Event) : Type 0 where
  pub last : List NodeRecord
  pub led : replay chip events ≡ Some last
  pub own : All (IsNoTransferWithNode n) events
  pub back : node_record_at last n ≡ node_record_at chip n

-- no node makes a round in the list
abbrev pub HasNoPollingRound : List NodeRecord → List Event → Type 0
HasNoPollingRound chip events = (before round later : List Event) (now : List NodeRecord) (n : ℕ) → events ≡ before ++ round ++ later
    → replay chip before ≡ Some now → IsPollingRound now n round → count_steps n round ≡ 0
