-- Requests laid out in cells: what is read of a group, and where the walk through the requests is. Plain requests as groups.
use Rattle.std.specs.Prelude.{if◌then◌else◌, drop, Bool, true, false, List, [], ◌∷◌, ℕ, ◌≡◌, ◌≢◌, ◌<◌, ◌⊎◌, ◌||◌, Option, Some, None, length, take, slice_index_or, suc, ◌++◌, ◌+◌, ◌%◌, ◌-◌, ◌≤◌, ◌^◌, map}
use Rattle.ga_slots.specs.declared.op.Op.{Op}
use Rattle.ga_slots.specs.declared.op.Op.TheVariants.{FetchP, Nop, Return}
use Rattle.ga_parser.specs.declared.item.AssemblyItem.{AssemblyItem}
use Rattle.ga_parser.specs.declared.item.AssemblyItem.TheVariants.{Opcode, Literal, JumpToEarlierLabel, JumpToLaterLabel, Cell}
use Rattle.std.specs.List.{All, list_any, flat_map}
use Rattle.ga_node.specs.Record.{NodeState}
use Rattle.ga_parser.specs.declared.item.LocatedRequest.{LocatedRequest}
use Rattle.ga_source.specs.declared.group.CellGroup.{CellGroup}
use Rattle.ga_parser.specs.declared.item.AssemblyRequest.{AssemblyRequest}
use Rattle.ga_parser.specs.declared.item.AssemblyRequest.TheVariants.{BeginNewCell, GoToAddress, Carry, PlaceItem}
use Rattle.ga_source.specs.declared.packing.PackedNode.{PackedNode}
use Rattle.ga_source.specs.declared.packing.Packer.{Packer}
use Rattle.ga_source.specs.declared.group.PackingSpot.{PackingSpot}
use Rattle.ga_source.specs.Reading.{first_spot_of_cell, spot_after_item, is_item_at_spot, is_filled_with_nops, item_fits_at_spot, is_request_met, spot_after_request, cells_match_requests, operand_value, are_equal_numbers, word_at_address, slot_reaches_address, item_ends_cell}
use Rattle.ga_source.specs.Cells.{item_uses_cell, requests_use_cell, KeepsOtherCells, PlacedItem, placed_item, placed_items_from}
use Rattle.ga_node.specs.declared.place.NodePlace.{NodePlace}
use Rattle.ga_node.specs.declared.place.NodePlace.TheVariants.{Ram, Rom}
use Rattle.ga_slots.specs.Slots.{opcode, target}
use Rattle.ga_parser.specs.declared.item.Operand.TheVariants.{Label, Number}
use Rattle.ga_parser.specs.declared.item.Operand.{Operand}
use Rattle.ga_source.specs.Made.{address_after_assembly_request, requested_cells, cell_at_index, node_number_of_body_at_index, IsPlainNodeBody}
use Rattle.ga_source.specs.declared.program.Program.{Program}
use Rattle.ga_source.specs.Programs.{IsAssembledChip, IsPlainBodyProgram, IsProgramOfBody}
use Rattle.ga_parser.specs.Saying.{TokenContent, is_word_token}
use Rattle.ga_parser.specs.declared.fault.SourceFault.{SourceFault}
use Rattle.ga_parser.specs.Asking.{Refusal}
use Rattle.ga_parser.specs.Requests.{refusal_of_source_fault}
use Rattle.ga_source.specs.Recovery.{is_node_token, node_of_token, words_from_next_node, AreFaultsOfNodes}
use Rattle.ga_parser.specs.declared.scan.TokenKind.TheVariants.{Word}
use Rattle.ga_parser.specs.declared.scan.Token.{Token}
use Rattle.ga_parser.specs.Plain.{body_words, body_word_lists}
use Rattle.ga_parser.specs.inner.Drafting.{texts_of_tokens}

-- ---- the opcodes of items, and cells of data

-- the opcode of an item
abbrev pub opcode_of_item : AssemblyItem → Op
opcode_of_item (Opcode op) = op
opcode_of_item (Literal _) = FetchP
opcode_of_item (JumpToEarlierLabel op _) = op
opcode_of_item (JumpToLaterLabel op _) = op
opcode_of_item (Cell _) = Nop

-- what is read where there is no item
abbrev pub nothing : AssemblyItem
nothing = Opcode Return

-- ---- the items of a cell

-- the spot after items
unfoldable pub spot_after_items : PackingSpot → List AssemblyItem → PackingSpot
spot_after_items spot [] = spot
spot_after_items spot (item ∷ rest) = spot_after_items (spot_after_item spot item) rest

-- the items are in place, in sequence
unfoldable pub AreItemsInPlace : NodeState → List (Option ℕ) → PackingSpot → List AssemblyItem → Type 0
AreItemsInPlace node labels spot [] = Unit {0}
AreItemsInPlace node labels spot (item ∷ rest) = (is_item_at_spot node labels spot item ≡ true) × AreItemsInPlace node labels (spot_after_item spot item) rest

-- one of the items or its literal is in the cell
unfoldable pub taken : PackingSpot → List AssemblyItem → ℕ → Bool
taken spot [] cell = false
taken spot (item ∷ rest) cell = item_uses_cell spot item cell || taken (spot_after_item spot item) rest cell

-- the cell reads as these items, followed by `.`
pub record AreItemsReadAt (node : NodeState) (labels : List (Option ℕ)) (address : ℕ) (items : List AssemblyItem) : Type 0 where
  pub items_stand : AreItemsInPlace node labels (first_spot_of_cell address) items
  pub filled : is_filled_with_nops node (spot_after_items (first_spot_of_cell address) items) ≡ true

-- the spot of an item of the cell
abbrev pub spot_of_item : ℕ → List AssemblyItem → ℕ → PackingSpot
spot_of_item address items k = spot_after_items (first_spot_of_cell address) (take k items)

-- each item has room in its slot of the cell
pub record AreItemsFitting (labels : List (Option ℕ)) (address : ℕ) (items : List AssemblyItem) : Type 0 where
  pub slots : (k : ℕ) → k < length items → (spot_of_item address items k).slot ≡ k
  pub cells : (k : ℕ) → k < length items → (spot_of_item address items k).at ≡ address
  pub room : (k : ℕ) → k < length items → item_fits_at_spot labels (spot_of_item address items k) (slice_index_or items k nothing) ≡ true

-- ---- groups

pub record IsGroupRead (node : NodeState) (labels : List (Option ℕ)) (group : CellGroup) : Type 0 where
  pub whole : group.broken ≡ None
  pub cell : AreItemsReadAt node labels group.address group.items.items

abbrev pub IsFittingGroup : List (Option ℕ) → CellGroup → Type 0
IsFittingGroup labels group = AreItemsFitting labels group.address group.items.items

abbrev pub group_uses_cell : ℕ → CellGroup → Bool
group_uses_cell cell group = taken (first_spot_of_cell group.address) group.items.items cell

-- one of the groups has the cell
abbrev pub is_cell_in_groups : List CellGroup → ℕ → Bool
is_cell_in_groups groups cell = list_any (group_uses_cell cell) groups

-- ---- requests

-- the spot after requests
unfoldable pub spot_after_requests : List (Option ℕ) → PackingSpot → List LocatedRequest → PackingSpot
spot_after_requests labels spot [] = spot
spot_after_requests labels spot (asked ∷ rest) = spot_after_requests labels (spot_after_request labels spot asked.request) rest

-- each request is met where the walk comes to it
unfoldable pub AreRequestsMet : NodeState → List (Option ℕ) → PackingSpot → List LocatedRequest → Type 0
AreRequestsMet node labels spot [] = Unit {0}
AreRequestsMet node labels spot (asked ∷ rest) = (is_request_met node labels spot asked.request ≡ true) × AreRequestsMet node labels (spot_after_request labels spot asked.request) rest

-- ---- the packer

-- what is known of labels stays so
abbrev pub ExtendsLabelAddresses : List (Option ℕ) → List (Option ℕ) → Type 0
ExtendsLabelAddresses before after = (k address : ℕ) → slice_index_or before k None ≡ Some address → slice_index_or after k None ≡ Some address

-- a jump back leads to a label that is known
abbrev pub HasKnownLabelIfJumpBack : List (Option ℕ) → AssemblyItem → Type 0
HasKnownLabelIfJumpBack labels (JumpToEarlierLabel _ label) = slice_index_or labels label None ≢ None
HasKnownLabelIfJumpBack labels _ = Unit {0}

-- the cell that is being filled has an item in each slot before the spot
pub record FillsSlotsBeforeSpot (packer : Packer) : Type 0 where
  pub slot : packer.spot.slot < 4
  pub size : length packer.filling.items ≡ packer.spot.slot

-- The requests so far are laid out: the walk through them ends at the packer's spot, and where the groups and the open cell
-- read as their items, each request is met. Whatever the labels that aren't known yet will be.
pub record AreRequestsLaidOut (packer : Packer) (asked : List LocatedRequest) : Type 0 where
  pub here : spot_after_items (first_spot_of_cell packer.spot.at) packer.filling.items ≡ packer.spot
  pub walk : (labels : List (Option ℕ)) → ExtendsLabelAddresses packer.labels.items labels → spot_after_requests labels (first_spot_of_cell 0) asked ≡ packer.spot
  pub met : (node : NodeState) (labels : List (Option ℕ)) → ExtendsLabelAddresses packer.labels.items labels → All (IsGroupRead node labels) packer.groups.items → packer.broken ≡ None → AreItemsInPlace node labels (first_spot_of_cell packer.spot.at) packer.filling.items → AreRequestsMet node labels (first_spot_of_cell 0) asked
  pub named : (labels : List (Option ℕ)) (cell : ℕ) → ExtendsLabelAddresses packer.labels.items labels → (is_cell_in_groups packer.groups.items cell ≡ true) ⊎ (taken (first_spot_of_cell packer.spot.at) packer.filling.items cell ≡ true) → requests_use_cell labels (first_spot_of_cell 0) asked cell ≡ true
  pub groups_fit : (labels : List (Option ℕ)) → ExtendsLabelAddresses packer.labels.items labels → All (IsFittingGroup labels) packer.groups.items
  pub open_fits : (labels : List (Option ℕ)) → ExtendsLabelAddresses packer.labels.items labels → AreItemsFitting labels packer.spot.at packer.filling.items

-- The requests so far are laid out, where the last asks for an item that is still to be put, at the packer's spot.
pub record IsItemPending (packer : Packer) (asked : List LocatedRequest) (item : AssemblyItem) : Type 0 where
  pub here : spot_after_items (first_spot_of_cell packer.spot.at) packer.filling.items ≡ packer.spot
  pub fit : (labels : List (Option ℕ)) → ExtendsLabelAddresses packer.labels.items labels → item_fits_at_spot labels packer.spot item ≡ true
  pub walk : (labels : List (Option ℕ)) → ExtendsLabelAddresses packer.labels.items labels → spot_after_requests labels (first_spot_of_cell 0) asked ≡ spot_after_item packer.spot item
  pub met : (node : NodeState) (labels : List (Option ℕ)) → ExtendsLabelAddresses packer.labels.items labels → All (IsGroupRead node labels) packer.groups.items → packer.broken ≡ None → AreItemsInPlace node labels (first_spot_of_cell packer.spot.at) packer.filling.items → is_item_at_spot node labels packer.spot item ≡ true → AreRequestsMet node labels (first_spot_of_cell 0) asked
  pub named : (labels : List (Option ℕ)) (cell : ℕ) → ExtendsLabelAddresses packer.labels.items labels → (is_cell_in_groups packer.groups.items cell ≡ true) ⊎ ((taken (first_spot_of_cell packer.spot.at) packer.filling.items cell ≡ true) ⊎ (item_uses_cell packer.spot item cell ≡ true)) → requests_use_cell labels (first_spot_of_cell 0) asked cell ≡ true
  pub groups_fit : (labels : List (Option ℕ)) → ExtendsLabelAddresses packer.labels.items labels → All (IsFittingGroup labels) packer.groups.items
  pub open_fits : (labels : List (Option ℕ)) → ExtendsLabelAddresses packer.labels.items labels → AreItemsFitting labels packer.spot.at packer.filling.items

-- the cell that was being filled is a group now, where it had begun
pub record IsCellClosed (before after : Packer) : Type 0 where
  pub labels_stay : after.labels.items ≡ before.labels.items
  pub spot_stays : after.spot ≡ before.spot
  pub empty : after.filling.items ≡ []
  pub whole : after.broken ≡ None
  pub read : (node : NodeState) (labels : List (Option ℕ)) → All (IsGroupRead node labels) after.groups.items → All (IsGroupRead node labels) before.groups.items × AreItemsReadAt node labels before.spot.at before.filling.items × (before.broken ≡ None)
  pub fit : (labels : List (Option ℕ)) → All (IsFittingGroup labels) before.groups.items → AreItemsFitting labels before.spot.at before.filling.items → All (IsFittingGroup labels) after.groups.items
  pub cells : (cell : ℕ) → is_cell_in_groups after.groups.items cell ≡ true → (is_cell_in_groups before.groups.items cell ≡ true) ⊎ (taken (first_spot_of_cell before.spot.at) before.filling.items cell ≡ true)

-- a request that asks for a new cell alone
abbrev pub IsNewCellRequest : AssemblyRequest → Type 0
IsNewCellRequest BeginNewCell = Unit {0}
IsNewCellRequest (GoToAddress _) = Unit {0}
IsNewCellRequest (Carry _) = Unit {0}
IsNewCellRequest _ = ⊥

-- The groups are the requests laid out: where each is read, the cells read as the requests; their cells are those asked for, and
-- each item has room in its slot.
pub record ArePackedRequestsLaidOut (packed : PackedNode) (asked : List LocatedRequest) : Type 0 where
  pub read : (node : NodeState) → All (IsGroupRead node packed.labels.items) packed.groups.items → cells_match_requests node packed.labels.items (first_spot_of_cell 0) asked ≡ true
  pub named : (cell : ℕ) → is_cell_in_groups packed.groups.items cell ≡ true → requests_use_cell packed.labels.items (first_spot_of_cell 0) asked cell ≡ true
  pub fit : All (IsFittingGroup packed.labels.items) packed.groups.items

-- ---- groups as the places of their items, while requests are packed

-- items of a cell, each with its line, one in each slot from this one on
unfoldable pub placed_items_of_cell : ℕ → ℕ → List AssemblyItem → List ℕ → List PlacedItem
placed_items_of_cell address slot [] lines = []
placed_items_of_cell address slot (item ∷ items) [] = []
placed_items_of_cell address slot (item ∷ items) (line ∷ lines) = record { address = address; slot = slot; item = item; line = line } ∷ placed_items_of_cell address (suc slot) items lines

abbrev pub placed_items_of_group : CellGroup → List PlacedItem
placed_items_of_group group = placed_items_of_cell group.address 0 group.items.items group.lines.items

-- a group has an item, and each item has a line
pub record HasItemLines (group : CellGroup) : Type 0 where
  pub begun : 0 < length group.items.items
  pub each : length group.lines.items ≡ length group.items.items

-- the items of the groups so far and of the open cell
abbrev pub placed_items_of_packer : Packer → List PlacedItem
placed_items_of_packer packer = flat_map placed_items_of_group packer.groups.items ++ placed_items_of_cell packer.spot.at 0 packer.filling.items packer.lines.items

-- The groups and the open cell have just the items that the requests so far ask for, where the walk puts them.
-- Whatever the labels that aren't known yet will be.
pub record AreItemsGrouped (packer : Packer) (asked : List LocatedRequest) : Type 0 where
  pub places : (labels : List (Option ℕ)) → ExtendsLabelAddresses packer.labels.items labels → placed_items_from labels (first_spot_of_cell 0) asked ≡ placed_items_of_packer packer
  pub groups : All HasItemLines packer.groups.items
  pub lines : length packer.lines.items ≡ length packer.filling.items
  pub whole : packer.filling.items ≡ [] → packer.broken ≡ None

-- A packer has taken one more request after those that it had taken.
pub record TakesOneRequest (old new : Packer) (asked : LocatedRequest) : Type 0 where
  pub cell : FillsSlotsBeforeSpot new
  pub walked : (before : List LocatedRequest) → AreRequestsLaidOut old before → AreRequestsLaidOut new (before ++ asked ∷ [])
  pub grouped : (before : List LocatedRequest) → AreRequestsLaidOut old before → AreItemsGrouped old before → AreItemsGrouped new (before ++ asked ∷ [])

-- The groups, the open cell and an item that is still to be put at the packer's spot are what the requests so far ask for.
pub record IsItemBeingPut (packer : Packer) (asked : List LocatedRequest) (item : AssemblyItem) (line : ℕ) : Type 0 where
  pub places : (labels : List (Option ℕ)) → ExtendsLabelAddresses packer.labels.items labels → placed_items_from labels (first_spot_of_cell 0) asked ≡ placed_items_of_packer packer ++ placed_item packer.spot item line ∷ []
  pub groups : All HasItemLines packer.groups.items
  pub lines : length packer.lines.items ≡ length packer.filling.items

-- the items of the cell that was being filled are those of a group now
pub record IsCellGathered (before after : Packer) : Type 0 where
  pub places : flat_map placed_items_of_group after.groups.items ≡ placed_items_of_packer before
  pub lines : length before.lines.items ≡ length before.filling.items → after.lines.items ≡ []
  pub groups : length before.lines.items ≡ length before.filling.items → (before.filling.items ≡ [] → before.broken ≡ None) → All HasItemLines before.groups.items → All HasItemLines after.groups.items

-- ---- places that are cells of a memory, and what loading leaves as it was

-- the cell of a memory that an address names
abbrev pub IsCellOfAddress : ℕ → NodePlace → Type 0
IsCellOfAddress address (Ram k) = (k < 64) × (address % 512 ≡ k)
IsCellOfAddress address (Rom k) = (k < 64) × (address % 512 ≡ 0x80 + k)
IsCellOfAddress address _ = ⊥

-- nothing but the memories differs
abbrev pub KeepsOtherThanMemories : NodeState → NodeState → Type 0
KeepsOtherThanMemories before after = after ≡ record before { ram = after.ram; rom = after.rom }

-- ---- words, and what they hold of items

-- a jump that leads from wherever its label is reached
abbrev pub JumpReachesLabel : List (Option ℕ) → ℕ → ℕ → ℕ → Type 0
JumpReachesLabel labels word slot label = (p : ℕ) → slot_reaches_address p slot (operand_value labels (Label label)) ≡ true → are_equal_numbers (operand_value labels (Label label)) (Some (target p word slot)) ≡ true

-- the word has the item in a slot
abbrev pub HasItemInSlot : List (Option ℕ) → ℕ → ℕ → AssemblyItem → Type 0
HasItemInSlot labels word slot (Opcode op) = opcode word slot ≡ op
HasItemInSlot labels word slot (Literal _) = opcode word slot ≡ FetchP
HasItemInSlot labels word slot (JumpToEarlierLabel op label) = (opcode word slot ≡ op) × JumpReachesLabel labels word slot label
HasItemInSlot labels word slot (JumpToLaterLabel op label) = (opcode word slot ≡ op) × JumpReachesLabel labels word slot label
HasItemInSlot labels word slot (Cell value) = are_equal_numbers (operand_value labels value) (Some word) ≡ true

-- the last item of a cell may stand in this slot
abbrev pub MayEndCell : ℕ → AssemblyItem → Type 0
MayEndCell slot (JumpToEarlierLabel _ _) = slot < 3
MayEndCell slot (JumpToLaterLabel _ _) = slot < 3
MayEndCell slot (Cell _) = slot ≡ 0
MayEndCell slot _ = Unit {0}

-- the word has each item in its slot, followed by `.`
pub record IsWordOfItems (labels : List (Option ℕ)) (items : List AssemblyItem) (word : ℕ) : Type 0 where
  pub has : (k : ℕ) → k < length items → HasItemInSlot labels word k (slice_index_or items k nothing)
  pub dots : (k : ℕ) → length items ≤ k → k < 4 → item_ends_cell (slice_index_or items (length items - 1) nothing) ≡ false → opcode word k ≡ Nop

-- ---- cells

-- a cell of RAM or ROM that was given
pub record IsGivenMemoryCell (given : List (Option ℕ)) (cell : ℕ) : Type 0 where
  pub in_memory : (cell < 64) ⊎ ((128 ≤ cell) × (cell < 192))
  pub is_given : slice_index_or given cell None ≢ None

-- what was given stays
abbrev pub KeepsGivenCells : NodeState → List (Option ℕ) → NodeState → List (Option ℕ) → Type 0
KeepsGivenCells before given after given_then = (address : ℕ) → IsGivenMemoryCell given (address % 512) → (word_at_address after address ≡ word_at_address before address) × IsGivenMemoryCell given_then (address % 512)

-- besides its opcode, what an item needs: its literal, or that its jump reaches
abbrev pub HasItemOperand : NodeState → List (Option ℕ) → PackingSpot → AssemblyItem → Type 0
HasItemOperand node labels spot (Literal value) = are_equal_numbers (operand_value labels value) (word_at_address node spot.p) ≡ true
HasItemOperand node labels spot (JumpToEarlierLabel _ label) = (spot.slot < 3) × (slot_reaches_address spot.p spot.slot (operand_value labels (Label label)) ≡ true)
HasItemOperand node labels spot (JumpToLaterLabel _ label) = (spot.slot < 3) × (slot_reaches_address spot.p spot.slot (operand_value labels (Label label)) ≡ true)
HasItemOperand node labels spot _ = Unit {0}

-- the cell of an item's literal is given
abbrev pub IsLiteralCellGiven : List (Option ℕ) → PackingSpot → AssemblyItem → Type 0
IsLiteralCellGiven given spot (Literal _) = IsGivenMemoryCell given (spot.p % 512)
IsLiteralCellGiven given spot _ = Unit {0}

-- the word of a group is in its cell
pub record HasGroupWord (node : NodeState) (labels : List (Option ℕ)) (address : ℕ) (items : List AssemblyItem) : Type 0 where
  pub word : ℕ
  pub is_word : IsWordOfItems labels items word
  pub in_cell : word_at_address node address ≡ Some word

-- the group's word and its first items are written
pub record IsGroupBeingWritten (before : NodeState) (given : List (Option ℕ)) (node : NodeState) (later labels : List (Option ℕ)) (group : CellGroup) (spot : PackingSpot) (i : ℕ) : Type 0 where
  pub where_is : spot ≡ spot_of_item group.address group.items.items i
  pub rest : KeepsOtherThanMemories before node
  pub elsewhere : KeepsOtherCells (λ (cell : ℕ). group_uses_cell cell group) before node
  pub kept : KeepsGivenCells before given node later
  pub has_word : HasGroupWord node labels group.address group.items.items
  pub held : IsGivenMemoryCell later (group.address % 512)
  pub so_far : AreItemsInPlace node labels (first_spot_of_cell group.address) (take i group.items.items)
  pub cells : (cell : ℕ) → taken (first_spot_of_cell group.address) (take i group.items.items) cell ≡ true → IsGivenMemoryCell later cell

-- the group is read, and its cells are given
pub record IsLoadedGroup (node : NodeState) (labels given : List (Option ℕ)) (group : CellGroup) : Type 0 where
  pub read : IsGroupRead node labels group
  pub held : (cell : ℕ) → group_uses_cell cell group ≡ true → IsGivenMemoryCell given cell

-- a cell of a memory
abbrev pub IsMemoryCell : NodePlace → Type 0
IsMemoryCell (Ram cell) = cell < 64
IsMemoryCell (Rom cell) = cell < 64
IsMemoryCell _ = ⊥

-- ---- plain requests as groups: each cell a group of its own

-- requests without their lines
abbrev pub requests_without_lines : List LocatedRequest → List AssemblyRequest
requests_without_lines asked = map (λ one. one.request) asked

-- a cell of data with a number, or an address to go on at
abbrev pub IsDataCellOrGoToAddress : AssemblyRequest → Type 0
IsDataCellOrGoToAddress (PlaceItem (Cell (Number n))) = n < 2 ^ 18
IsDataCellOrGoToAddress (GoToAddress address) = Unit {0}
IsDataCellOrGoToAddress _ = ⊥

-- each request is a cell of data with a number, or an address to go on at
unfoldable pub ArePlain : List AssemblyRequest → Type 0
ArePlain [] = Unit {0}
ArePlain (request ∷ requests) = IsDataCellOrGoToAddress request × ArePlain requests

-- a number below a bound, where there is a value
abbrev pub IsOptionalNumberBelow : ℕ → Option Operand → Type 0
IsOptionalNumberBelow bound None = Unit {0}
IsOptionalNumberBelow bound (Some (Number n)) = n < bound
IsOptionalNumberBelow bound (Some (Label k)) = ⊥

-- the registers are given numbers in range
pub record AreRegisterNumbersInRange (p a b : Option Operand) : Type 0 where
  pub p_below : IsOptionalNumberBelow 0x400 p
  pub a_below : IsOptionalNumberBelow 0x40000 a
  pub b_below : IsOptionalNumberBelow 0x200 b

-- the address after requests
unfoldable pub address_after : ℕ → List AssemblyRequest → ℕ
address_after at [] = at
address_after at (request ∷ requests) = address_after (address_after_assembly_request at request) requests

-- the group is this cell
pub record IsGroupOfOneDataCell (cell : ℕ × ℕ) (group : CellGroup) : Type 0 where
  pub address : group.address ≡ cell.0
  pub items : group.items.items ≡ Cell (Number cell.1) ∷ []
  pub whole : group.broken ≡ None

-- the groups are these cells
unfoldable pub AreCellGroups : List (ℕ × ℕ) → List CellGroup → Type 0
AreCellGroups [] [] = Unit {0}
AreCellGroups (cell ∷ cells) (group ∷ groups) = IsGroupOfOneDataCell cell group × AreCellGroups cells groups
AreCellGroups _ _ = ⊥

-- plain requests are packed so far, and no cell is being filled
pub record ArePlainRequestsPacked (packer : Packer) (requests : List AssemblyRequest) : Type 0 where
  pub filling : packer.filling.items ≡ []
  pub whole : packer.broken ≡ None
  pub spot : packer.spot ≡ first_spot_of_cell (address_after 0 requests)
  pub groups : AreCellGroups (requested_cells 0 requests) packer.groups.items

-- the numbers of cells are words
abbrev pub AreCellValuesWords : List (ℕ × ℕ) → Type 0
AreCellValuesWords cells = (k : ℕ) → k < length cells → (cell_at_index cells k).1 < 2 ^ 18

-- ---- programs loaded so far

-- a program whose node is marked as begun
abbrev pub HasProgramNodeBegun : List Bool → Program → Type 0
HasProgramNodeBegun begun program = slice_index_or begun program.node.number false ≡ true

-- the programs so far, whose nodes are marked
pub record AreProgramsLoaded (chip : List NodeState) (begun : List Bool) (programs : List Program) : Type 0 where
  pub marked : All (HasProgramNodeBegun begun) programs
  pub assembled : IsAssembledChip chip programs

-- the programs are those of the first of these words, and the other words are left
unfoldable pub AreOfFirst : List (List (List ℕ)) → List Program → List (List (List ℕ)) → Type 0
AreOfFirst bodies [] left = bodies ≡ left
AreOfFirst [] (program ∷ programs) left = ⊥
AreOfFirst (words ∷ bodies) (program ∷ programs) left = IsPlainBodyProgram words program × AreOfFirst bodies programs left

-- the programs are those of the first of these words with their lines, and the other words are left
unfoldable pub AreAskedFirst : List (List TokenContent) → List Program → List (List TokenContent) → Type 0
AreAskedFirst bodies [] left = bodies ≡ left
AreAskedFirst [] (program ∷ programs) left = ⊥
AreAskedFirst (words ∷ bodies) (program ∷ programs) left = IsProgramOfBody words program × AreAskedFirst bodies programs left

-- ---- what is left of a source that only want of memory keeps from being assembled

-- the words of nodes that haven't begun, each once
pub record AreBodiesOfDistinctNewNodes (begun : List Bool) (bodies : List (List (List ℕ))) : Type 0 where
  pub each : All IsPlainNodeBody bodies
  pub apart : (j k : ℕ) → j < k → k < length bodies → node_number_of_body_at_index bodies j ≢ node_number_of_body_at_index bodies k
  pub fresh : (k n : ℕ) → k < length bodies → node_number_of_body_at_index bodies k ≡ Some n → slice_index_or begun n false ≡ false

-- the words that are left are those of nodes that haven't begun, each once
pub record AreWordsOfDistinctNewNodes (begun : List Bool) (words : List Token) : Type 0 where
  pub kinds : All (λ token. token.kind ≡ Word) words
  pub begins : body_words (texts_of_tokens words) ≡ []
  pub bodies : AreBodiesOfDistinctNewNodes begun (body_word_lists (texts_of_tokens words))

-- ---- the faults of nodes, as they are added

-- new faults come after the old ones, and are these
pub record Adds (AreNew : List SourceFault → Type 0) (old new : List SourceFault) : Type 0 where
  pub own : List SourceFault
  pub all : new ≡ old ++ own
  pub are : AreNew own

-- or some
abbrev pub IsAnyFaultList : List SourceFault → Type 0
IsAnyFaultList faults = Unit {0}

-- or they are refused so
abbrev pub AreFaultsOfRefusals : List Refusal → List SourceFault → Type 0
AreFaultsOfRefusals refusals faults = map refusal_of_source_fault faults ≡ refusals

-- the number of words with which a node begins, or a word in the place of `node`
abbrev pub head_of : List TokenContent → ℕ
head_of (first ∷ name ∷ words) = if is_node_token first then 2 else 1
head_of (first ∷ []) = 1
head_of [] = 1

-- the words that are left if no node begins: those from the next `node` on, or those after a fault
abbrev pub words_left_if_no_node_begins : List TokenContent → List TokenContent
words_left_if_no_node_begins [] = []
words_left_if_no_node_begins (first ∷ words) = if is_word_token first then words_from_next_node (drop (head_of (first ∷ words)) (first ∷ words)) else words

-- no node begins: the fault is added to those of the words that are left
abbrev pub SkipsToNextNode : List Bool → List TokenContent → SourceFault → Type 0
SkipsToNextNode begun words fault = (rest : List SourceFault) → AreFaultsOfNodes begun (words_left_if_no_node_begins words) rest → AreFaultsOfNodes begun words (fault ∷ rest)

-- a node begins that hadn't begun
abbrev pub BeginsNewNode : List Bool → List TokenContent → ℕ → Type 0
BeginsNewNode begun (first ∷ name ∷ words) n = (is_node_token first ≡ true) × (node_of_token name ≡ Some n) × (slice_index_or begun n false ≡ false)
BeginsNewNode begun _ n = ⊥

-- faults were added that come before those of the words that are left
abbrev pub AddsFaultsBeforeRest : List Bool → List TokenContent → List Bool → List TokenContent → List SourceFault → List SourceFault → Type 0
AddsFaultsBeforeRest begun words after left old new = Adds (λ own. (rest : List SourceFault) → AreFaultsOfNodes after left rest → AreFaultsOfNodes begun words (own ++ rest)) old new
