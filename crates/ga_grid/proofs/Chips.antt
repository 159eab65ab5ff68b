-- The nodes of a chip: what a write changes, what the records are, and the chip at load.
use Rattle.std.proofs.Common.{◌≡◌, ◌≢◌, ℕ, ◌<◌, List, length, set, arith}
use Rattle.std.proofs.lemmas.List.{get_or-set_same, get_or-set_other, length-set, map-set}
use Rattle.std.proofs.Math.ListN.{get_or-map}
use Rattle.std.proofs.lemmas.List.FromFn.{get_or-map-range_with_len, length-map-range_with_len}
use Rattle.ga_node.specs.Record.{NodeState, node_at_load_defaults, record_of_node}
use Rattle.ga_grid.specs.Grid.{initial_p_of_node, default_chip}
use Rattle.ga_grid.specs.Chip.{default_node, node_at, chip_with_node, records_of_chip, node_record_at}

-- the record of a node
pub node_record_at-records_of_chip : (chip : List NodeState) (n : ℕ) → node_record_at (records_of_chip chip) n ≡ record_of_node (node_at chip n)
node_record_at-records_of_chip chip n = get_or-map record_of_node chip n default_node

-- the records of a changed chip
pub records_of_chip-chip_with_node : (chip : List NodeState) (n : ℕ) (node : NodeState) → records_of_chip (chip_with_node chip n node) ≡ set (records_of_chip chip) n (record_of_node node)
records_of_chip-chip_with_node chip n node = map-set record_of_node chip n node

pub node_at-with_node_same : (chip : List NodeState) (n : ℕ) (node : NodeState) → n < length chip → node_at (chip_with_node chip n node) n ≡ node
node_at-with_node_same chip n node l = get_or-set_same chip n node default_node l

pub node_at-with_node_other : (chip : List NodeState) (n m : ℕ) (node : NodeState) → m ≢ n → node_at (chip_with_node chip n node) m ≡ node_at chip m
node_at-with_node_other chip n m node other = get_or-set_other chip n m node default_node other

pub length-chip_with_node : (chip : List NodeState) (n : ℕ) (node : NodeState) → length (chip_with_node chip n node) ≡ length chip
length-chip_with_node chip n node = length-set chip n node

-- each node of the chip at load
pub node_at-default_chip : (n : ℕ) → n < 144 → node_at default_chip n ≡ node_at_load_defaults (initial_p_of_node n)
unfolding default_chip
node_at-default_chip n l = get_or-map-range_with_len (λ k. node_at_load_defaults (initial_p_of_node k)) 0 144 n n default_node l (omega arith)

pub length-default_chip : length default_chip ≡ 144
unfolding default_chip
length-default_chip = length-map-range_with_len (λ n. node_at_load_defaults (initial_p_of_node n)) 0 144
