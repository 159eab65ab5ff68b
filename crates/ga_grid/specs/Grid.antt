-- Nodes by number, the grid and the links between neighbours (G144A12 Chip Reference, DB002): eight rows of eighteen columns, and a
-- node is number 18 * row + column. Both ends of a link have the same side.
use Rattle.std.specs.Prelude.{ℕ, ◌+◌, ◌-◌, ◌*◌, ◌&&◌, nat_le, if◌then◌else◌, List, [], ◌∷◌, Option, Some, None, ◌/◌, ◌%◌, ◌==◌, nat_lt, Bool, true, false, not, option_map, is_some, bit_xor, map}
use Rattle.ga_ports.specs.Steps.{◌>>=◌}
use Rattle.ga_ports.specs.declared.side.Side.{Side}
use Rattle.ga_ports.specs.declared.side.Side.TheVariants.{Right, Down, Left, Up}
use Rattle.std.proofs.Common.{lit<}
use Rattle.std.proofs.Math.Nat.{mod-lt}
use Rattle.ga_grid.specs.declared.node_id.NodeId.{NodeId}
use Rattle.ga_ports.specs.Address.{single_side_set}
use Rattle.std.specs.List.{range_with_len}
use Rattle.ga_node.specs.Record.{NodeState, node_at_load_defaults}

-- ---- the names of nodes as texts: row and column in three decimal digits (G144A12 Chip Reference DB002)

-- the value of a decimal digit
abbrev pub decimal_digit : ℕ → Option ℕ
decimal_digit byte = if nat_le 48 byte && nat_le byte 57 then Some (byte - 48) else None

-- the number of exactly three decimal digits
unfoldable pub parse_decimal_name : List ℕ → Option ℕ
parse_decimal_name (x ∷ y ∷ z ∷ []) = do
  row ← decimal_digit x
  tens ← decimal_digit y
  ones ← decimal_digit z
  Some (100 * row + 10 * tens + ones)
parse_decimal_name _ = None

abbrev pub row_of_node : ℕ → ℕ
row_of_node n = n / 18

abbrev pub column_of_node : ℕ → ℕ
column_of_node n = n % 18

-- a node's name: 100 times its row plus its column
abbrev pub decimal_name_of_node : ℕ → ℕ
decimal_name_of_node n = 100 * row_of_node n + column_of_node n

-- the node of a name
abbrev pub node_number_of_name : ℕ → Option ℕ
node_number_of_name decimal_name = if nat_lt (decimal_name / 100) 8 && nat_lt (decimal_name % 100) 18 then Some (18 * (decimal_name / 100) + decimal_name % 100) else None

abbrev pub is_even : ℕ → Bool
is_even n = n % 2 == 0

-- the next or the previous place, where there are `size` places; none past the ends
abbrev pub next_or_previous_grid_index : ℕ → ℕ → Bool → Option ℕ
next_or_previous_grid_index place size true = if nat_lt (place + 1) size then Some (place + 1) else None
next_or_previous_grid_index place size false = if place == 0 then None else Some (place - 1)

-- right and left lead to another column of the row, down and up to another row of the column: right and down from an even one
-- to the next and from an odd one to the one before, left and up the other way
abbrev pub neighbour_number : ℕ → Side → Option ℕ
neighbour_number n Right = option_map (λ column. 18 * row_of_node n + column) (next_or_previous_grid_index (column_of_node n) 18 (is_even (column_of_node n)))
neighbour_number n Left = option_map (λ column. 18 * row_of_node n + column) (next_or_previous_grid_index (column_of_node n) 18 (not (is_even (column_of_node n))))
neighbour_number n Down = option_map (λ row. 18 * row + column_of_node n) (next_or_previous_grid_index (row_of_node n) 8 (is_even (row_of_node n)))
neighbour_number n Up = option_map (λ row. 18 * row + column_of_node n) (next_or_previous_grid_index (row_of_node n) 8 (not (is_even (row_of_node n))))

-- the number of a node where there is one
abbrev pub optional_node_number : Option NodeId → Option ℕ
optional_node_number None = None
optional_node_number (Some node) = Some node.number

-- the node of a number; from 144 on the nodes begin again
abbrev pub node_id : ℕ → NodeId
node_id n = record { number = n % 144; in_range = mod-lt n (lit< tt) }

-- ---- the chip at load. P holds the address that names the ports of all sides on which a node has a neighbour (this project's own choice).

-- the number of a side where the node has a neighbour there, else 0
abbrev pub linked_side_value : ℕ → Side → ℕ
linked_side_value n side = if is_some (neighbour_number n side) then single_side_set side else 0

-- the ports are in bits 7 to 4 of an address, exclusive-ored with 155
abbrev pub initial_p_of_node : ℕ → ℕ
initial_p_of_node n = bit_xor 0x155 (16 * (linked_side_value n Right + linked_side_value n Down + linked_side_value n Left + linked_side_value n Up))

-- the chip at load (its values are this project's own choice)
unfoldable pub default_chip : List NodeState
default_chip = map (λ n. node_at_load_defaults (initial_p_of_node n)) (range_with_len 0 144)
