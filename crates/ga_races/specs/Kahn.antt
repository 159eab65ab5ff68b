-- Runs of which only one neighbour can be the writer of each word (after Kahn, "The semantics of a simple language for parallel
-- programming", 1974: there a reader names the channel).
use Rattle.std.specs.Prelude.{◌≡◌, true, List, ◌∷◌, ◌++◌, Some}
use Rattle.ga_ports.specs.declared.side.Side.{Side}
use Rattle.ga_node.specs.Record.{NodeRecord}
use Rattle.ga_grid.specs.Grid.{neighbour_number}
use Rattle.ga_grid.specs.Chip.{node_record_at}
use Rattle.ga_grid.specs.declared.node_id.NodeId.{NodeId}
use Rattle.ga_event.specs.declared.event.Event.{Event}
use Rattle.ga_event.specs.declared.event.Event.TheVariants.{Pass}
use Rattle.ga_event.specs.Apply.{waits_to_write_side, waits_to_read_side, replay}

-- Whenever a node takes a word in the list, no other neighbour on the sides on which it then waits writes to it at any time of the
-- list.
pub record HasOneWriter (chip : List NodeRecord) (events : List Event) : Type 0 where
  pub only : (before later first others : List Event) (now then : List NodeRecord) (writer reader neighbour : NodeId) (side another : Side)
      → events ≡ before ++ Pass writer reader side ∷ later → replay chip before ≡ Some now
      → waits_to_read_side (node_record_at now reader.number).wait another ≡ true
      → events ≡ first ++ others → replay chip first ≡ Some then
      → neighbour_number neighbour.number another ≡ Some reader.number → waits_to_write_side (node_record_at then neighbour.number).wait another ≡ true
      → another ≡ side
