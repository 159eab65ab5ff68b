-- The cells that a program asks for, those that nobody names, and what its requests make: the items of each cell, and the line of each
-- item (docs/REFERENCE.md, "Source"; this project's own).
use Rattle.std.specs.Prelude.{◌≡◌, ℕ, ◌+◌, ◌%◌, ◌==◌, Bool, false, ◌||◌, List, [], ◌∷◌, Option, slice_index, if◌then◌else◌, ◌++◌, map}
use Rattle.std.specs.List.{All}
use Rattle.ga_node.specs.Record.{NodeState}
use Rattle.ga_grid.specs.Chip.{node_at}
use Rattle.ga_parser.specs.declared.item.AssemblyItem.{AssemblyItem}
use Rattle.ga_parser.specs.declared.item.AssemblyItem.TheVariants.{Literal, Opcode}
use Rattle.ga_parser.specs.declared.item.AssemblyRequest.{AssemblyRequest}
use Rattle.ga_parser.specs.declared.item.AssemblyRequest.TheVariants.{PlaceItem, Unext}
use Rattle.ga_parser.specs.declared.item.LocatedRequest.{LocatedRequest}
use Rattle.ga_source.specs.declared.program.Program.{Program}
use Rattle.ga_source.specs.declared.group.PackingSpot.{PackingSpot}
use Rattle.ga_source.specs.Reading.{first_spot_of_cell, item_spot, spot_after_request}
use Rattle.ga_slots.specs.declared.op.Op.TheVariants.{Unext as UnextOp}
use Rattle.ga_source.specs.declared.group.CellGroup.{CellGroup}

-- the address is that of the cell
abbrev pub is_address_of_cell : ℕ → ℕ → Bool
is_address_of_cell address cell = address % 512 == cell

-- the item is in the cell, or its literal is
abbrev pub item_uses_cell : PackingSpot → AssemblyItem → ℕ → Bool
item_uses_cell spot (Literal _) cell = is_address_of_cell spot.at cell || is_address_of_cell spot.p cell
item_uses_cell spot _ cell = is_address_of_cell spot.at cell

-- what the request demands is in the cell
abbrev pub request_uses_cell : List (Option ℕ) → PackingSpot → AssemblyRequest → ℕ → Bool
request_uses_cell labels spot (PlaceItem item) cell = item_uses_cell (item_spot labels spot item) item cell
request_uses_cell labels spot (Unext _) cell = is_address_of_cell spot.at cell
request_uses_cell labels spot _ cell = false

-- from a spot on, one of the requests asks for the cell
unfoldable pub requests_use_cell : List (Option ℕ) → PackingSpot → List LocatedRequest → ℕ → Bool
requests_use_cell labels spot [] cell = false
requests_use_cell labels spot (asked ∷ rest) cell = request_uses_cell labels spot asked.request cell || requests_use_cell labels (spot_after_request labels spot asked.request) rest cell

-- the program names the cell
abbrev pub program_uses_cell : Program → ℕ → Bool
program_uses_cell program cell = requests_use_cell program.labels.items (first_spot_of_cell 0) program.asked.items cell

-- each cell of a memory that isn't among these holds what it held before
pub record KeepsOtherCells (is_named : ℕ → Bool) (before after : NodeState) : Type 0 where
  pub ram : (k : ℕ) → is_named k ≡ false → slice_index after.ram k ≡ slice_index before.ram k
  pub rom : (k : ℕ) → is_named (0x80 + k) ≡ false → slice_index after.rom k ≡ slice_index before.rom k

-- no program of the node names the cell
abbrev pub IsUnusedCell : List Program → ℕ → ℕ → Type 0
IsUnusedCell programs n cell = All (λ program. program.node.number ≡ n → program_uses_cell program cell ≡ false) programs

-- each cell that nobody names is 0
pub record AreUnusedCellsZero (chip : List NodeState) (programs : List Program) : Type 0 where
  pub ram : (n k : ℕ) → IsUnusedCell programs n k → slice_index (node_at chip n).ram k ≡ 0
  pub rom : (n k : ℕ) → IsUnusedCell programs n (0x80 + k) → slice_index (node_at chip n).rom k ≡ 0

-- ---- where items stand

-- an item in a slot of the cell at an address, and the line on which it was asked for
pub record PlacedItem : Type 0 where
  pub address : ℕ
  pub slot : ℕ
  pub item : AssemblyItem
  pub line : ℕ

abbrev pub placed_item : PackingSpot → AssemblyItem → ℕ → PlacedItem
placed_item spot item line = record { address = spot.at; slot = spot.slot; item = item; line = line }

-- the item of a request, if the walk is at this spot
abbrev pub placed_request_items : List (Option ℕ) → PackingSpot → AssemblyRequest → ℕ → List PlacedItem
placed_request_items labels spot (PlaceItem item) line = placed_item (item_spot labels spot item) item line ∷ []
placed_request_items labels spot (Unext _) line = placed_item spot (Opcode UnextOp) line ∷ []
placed_request_items labels spot _ line = []

-- the items that requests ask for, in order, from a spot on
unfoldable pub placed_items_from : List (Option ℕ) → PackingSpot → List LocatedRequest → List PlacedItem
placed_items_from labels spot [] = []
placed_items_from labels spot (asked ∷ rest) = placed_request_items labels spot asked.request asked.line ++ placed_items_from labels (spot_after_request labels spot asked.request) rest

-- ---- cells

-- a cell: its address, its items from slot 0 on, and the line of each
pub record CellGroupContent : Type 0 where
  pub address : ℕ
  pub items : List AssemblyItem
  pub lines : List ℕ

-- the items up to the next in slot 0, with which another cell begins
unfoldable pub items_of_first_cell : List PlacedItem → List PlacedItem
items_of_first_cell [] = []
items_of_first_cell (one ∷ rest) = if one.slot == 0 then [] else one ∷ items_of_first_cell rest

-- a first item and those after it in its cell
abbrev pub cell_group_of_items : PlacedItem → List PlacedItem → CellGroupContent
cell_group_of_items first behind = record {
  address = first.address;
  items = first.item ∷ map (λ one. one.item) behind;
  lines = first.line ∷ map (λ one. one.line) behind;
}

-- for each item in slot 0 the cell that begins with it
unfoldable pub cell_groups_of_items : List PlacedItem → List CellGroupContent
cell_groups_of_items [] = []
cell_groups_of_items (one ∷ rest) = if one.slot == 0 then cell_group_of_items one (items_of_first_cell rest) ∷ cell_groups_of_items rest else cell_groups_of_items rest

-- the cells of requests, where labels have these addresses
abbrev pub cell_groups_of_requests : List (Option ℕ) → List LocatedRequest → List CellGroupContent
cell_groups_of_requests labels asked = cell_groups_of_items (placed_items_from labels (first_spot_of_cell 0) asked)

-- ---- programs

abbrev pub cell_group_content : CellGroup → CellGroupContent
cell_group_content group = record { address = group.address; items = group.items.items; lines = group.lines.items }

-- the program's groups are the cells that its requests make, in order: each has just their items, each with its request's line
abbrev pub HasRequestedCellGroups : Program → Type 0
HasRequestedCellGroups program = map cell_group_content program.groups.items ≡ cell_groups_of_requests program.labels.items program.asked.items
