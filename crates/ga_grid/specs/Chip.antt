-- The chip: 144 nodes, as they are stored and as records.
use Rattle.std.specs.Prelude.{ℕ, List, map, slice_index_or, slice_set, ◌<◌}
use Rattle.ga_node.specs.Record.{NodeState, node_at_load_defaults, NodeRecord, record_of_node, HasWaitFittingSlotAndStop}
use Rattle.std.specs.Borrow.{Lends, MutBor, Fml}
use Rattle.ga_node.specs.contracts.node.Node.{the_row as node_row}
use Rattle.ga_grid.specs.contracts.chip.Chip.{the_row}

-- the node that is read where there is none
abbrev pub default_node : NodeState
default_node = node_at_load_defaults 0

-- the node at a number
abbrev pub node_at : List NodeState → ℕ → NodeState
node_at chip n = slice_index_or chip n default_node

-- the chip with another node at a number
abbrev pub chip_with_node : List NodeState → ℕ → NodeState → List NodeState
chip_with_node chip n node = slice_set chip n node

-- the chip as records
abbrev pub records_of_chip : List NodeState → List NodeRecord
records_of_chip chip = map record_of_node chip

-- the record at a number
abbrev pub node_record_at : List NodeRecord → ℕ → NodeRecord
node_record_at chip n = slice_index_or chip n (record_of_node default_node)

-- ---- chips whose nodes are steady

-- each node is steady
abbrev pub HaveWaitsFittingSlotsAndStops : List NodeRecord → Type 0
HaveWaitsFittingSlotsAndStops chip = (n : ℕ) → n < 144 → HasWaitFittingSlotAndStop (node_record_at chip n)

-- ---- A mutable reference to one node of a chip

-- whether the chip ends with the reference's last value as its node of this number
abbrev pub LendsNode : MutBor (List NodeState) → ℕ → MutBor NodeState → Fml
LendsNode chip n node = Lends the_row node_row chip node (chip_with_node chip.now n)
