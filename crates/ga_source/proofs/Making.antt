-- What plain words make of a node: the opcodes of a word whose address field changes, a cell that is written, and those that stay.
use Rattle.std.specs.Prelude.{bit_xor, ◌==◌, ◌||◌, ◌&&◌}
use Rattle.std.proofs.Common.{◌≡◌, ◌∙◌, ℕ, zero, suc, ◌<◌, ◌≤◌, arith, ◌+◌, ◌*◌, ◌/◌, ◌%◌, ◌^◌, true, Some, ap, sym, List, length, set, slice_index_or, inl, inr, ◌≢◌, ◌⊎◌, refl, Option, None, Bool, false, [], ◌∷◌, ◌++◌, slice_index}
use Rattle.std.proofs.lemmas.Nat.{xor_shr}
use Rattle.std.proofs.lemmas.Bool.{eqb-true, cases_eq, cond-true, cond-false, eq-eqb, ne_eqb, eqb-false, and_parts, both_ways}
use Rattle.ga_slots.specs.Codes.{opcode_of_code}
use Rattle.ga_slots.specs.Slots.{opcode, opcode_mask, address_field_value_count, target}
use Rattle.ga_slots.specs.declared.op.Op.{Op}
use Rattle.ga_slots.specs.declared.op.Op.TheVariants.{Return}
use Rattle.ga_parser.specs.declared.item.AssemblyItem.{AssemblyItem}
use Rattle.ga_source.specs.inner.{opcode_of_item, nothing, IsCellOfAddress, KeepsOtherThanMemories, IsGivenMemoryCell, KeepsGivenCells, requests_without_lines, IsDataCellOrGoToAddress, ArePlain}
use Rattle.ga_source.specs.Reading.{slot_reaches_address, word_at_address_target, word_at_address, first_spot_of_cell, are_equal_numbers, is_request_met, spot_after_request, cells_match_requests}
use Rattle.std.proofs.lemmas.List.{get_or-set_same, get_or-set_other, length-set}
use Rattle.ga_ports.specs.declared.address.AddressTarget.TheVariants.{Ram as RamOf, Rom as RomOf, Ram as TargetRam, Rom as TargetRom, Io, Ports, Bad}
use Rattle.ga_ports.specs.Address.{address_target, advanced_address}
use Rattle.ga_node.specs.Record.{NodeState}
use Rattle.ga_node.specs.State.{node_with_value, HasFullMemoryOfPlace}
use Rattle.ga_node.specs.declared.place.NodePlace.{NodePlace}
use Rattle.ga_node.specs.declared.place.NodePlace.TheVariants.{Ram, Rom}
use Rattle.ga_source.specs.Cells.{KeepsOtherCells, is_address_of_cell, request_uses_cell, requests_use_cell}
use Rattle.ga_source.proofs.Laying.{None≢Some}
use Rattle.ga_ports.specs.declared.address.AddressTarget.{AddressTarget}
use Rattle.ga_parser.specs.declared.item.Operand.TheVariants.{Number}
use Rattle.ga_parser.specs.declared.item.AssemblyItem.TheVariants.{Cell}
use Rattle.ga_parser.specs.declared.item.AssemblyRequest.{AssemblyRequest}
use Rattle.ga_parser.specs.declared.item.AssemblyRequest.TheVariants.{PlaceItem, GoToAddress}
use Rattle.ga_parser.specs.declared.item.LocatedRequest.{LocatedRequest}
use Rattle.ga_source.specs.Made.{node_with_cell, node_with_requested_cell, address_after_assembly_request, node_with_requests}

-- the bits above some bits determine those of the word without its mask above them
above : (k v w : ℕ) → v / 2 ^ k ≡ w / 2 ^ k → bit_xor v opcode_mask / 2 ^ k ≡ bit_xor w opcode_mask / 2 ^ k
above k v w e = xor_shr v opcode_mask k ∙ (ap (λ x. bit_xor x (opcode_mask / 2 ^ k)) e ∙ sym (xor_shr w opcode_mask k))

pub same_first : (v w : ℕ) → v / 2 ^ 13 ≡ w / 2 ^ 13 → opcode v 0 ≡ opcode w 0
same_first v w e = ap (λ x. opcode_of_code (x % 32)) (above 13 v w e)

pub same_second : (v w : ℕ) → v / 2 ^ 8 ≡ w / 2 ^ 8 → opcode v 1 ≡ opcode w 1
same_second v w e = ap (λ x. opcode_of_code (x % 32)) (above 8 v w e)

pub same_third : (v w : ℕ) → v / 2 ^ 3 ≡ w / 2 ^ 3 → opcode v 2 ≡ opcode w 2
same_third v w e = ap (λ x. opcode_of_code (x % 32)) (above 3 v w e)

-- a word with the field of an address leads where that is reached
pub reached : (p word slot address : ℕ) → word % address_field_value_count slot ≡ address % address_field_value_count slot → slot_reaches_address p slot (Some address) ≡ true → target p word slot ≡ address
reached p word slot address e h = ap (λ x. p / address_field_value_count slot * address_field_value_count slot + x) e ∙ eqb-true (target p address slot) address h

-- the opcodes up to a slot, one by one
pub each_kept : (v w slot : ℕ) → slot < 3 → opcode v 0 ≡ opcode w 0 → (1 ≤ slot → opcode v 1 ≡ opcode w 1) → (2 ≤ slot → opcode v 2 ≡ opcode w 2) → (k : ℕ) → k ≤ slot → opcode v k ≡ opcode w k
each_kept v w slot few a b c zero h = a
each_kept v w slot few a b c (suc zero) h = b h
each_kept v w slot few a b c (suc (suc zero)) h = c h
each_kept v w slot few a b c (suc (suc (suc k))) h = absurd (omega arith)

-- one more opcode in its place
pub one_more : (ops : List Op) (items : List AssemblyItem) (i : ℕ) (op : Op) → i < length ops → op ≡ opcode_of_item (slice_index_or items i nothing) → ((k : ℕ) → k < i → slice_index_or ops k Return ≡ opcode_of_item (slice_index_or items k nothing)) → (k : ℕ) → k < i + 1 → slice_index_or (set ops i op) k Return ≡ opcode_of_item (slice_index_or items k nothing)
one_more ops items i op l is before k h = elim (cases_eq k i) [
  | inl e ↦ (ap (λ j. slice_index_or (set ops i op) j Return) e ∙ get_or-set_same ops i op Return l) ∙ (is ∙ ap (λ j. opcode_of_item (slice_index_or items j nothing)) (sym e))
  | inr other ↦ get_or-set_other ops i k op Return other ∙ before k (omega arith)
]

-- ---- a cell that is written, and those that stay

-- the cells of both memories by their addresses
pub in_ram : (address : ℕ) → address % 512 < 64 → address_target address ≡ RamOf (address % 512)
in_ram address l =
    let low = address % 512 in
    cond-false (low / 2 ^ 8 == 1) _ _ (ne_eqb (low / 2 ^ 8) 1 (λ e. absurd (omega arith)))
    ∙ (cond-true (low / 2 ^ 7 == 0) _ _ (eq-eqb (low / 2 ^ 7) 0 (omega arith)) ∙ ap RamOf (omega arith))

pub in_rom : (address : ℕ) → 128 ≤ address % 512 → address % 512 < 192 → address_target address ≡ RomOf (address % 512 % 64)
in_rom address l h =
    let low = address % 512 in
    cond-false (low / 2 ^ 8 == 1) _ _ (ne_eqb (low / 2 ^ 8) 1 (λ e. absurd (omega arith)))
    ∙ cond-false (low / 2 ^ 7 == 0) _ _ (ne_eqb (low / 2 ^ 7) 0 (λ e. absurd (omega arith)))

-- the cell that is written
pub written_by : (node : NodeState) (place : NodePlace) (address word : ℕ) → IsCellOfAddress address place → HasFullMemoryOfPlace node place → word_at_address (node_with_value node place word) address ≡ Some word
written_by node (Ram cell) address word c size =
    let l : address % 512 < 64 = omega arith in
    ap (word_at_address_target (node_with_value node (Ram cell) word)) (in_ram address l)
    ∙ ap Some (ap (λ (k : ℕ). slice_index_or (set node.ram cell word) k 0) c.1 ∙ get_or-set_same node.ram cell word 0 (omega arith))
written_by node (Rom cell) address word c size =
    let l : 128 ≤ address % 512 = omega arith in
    let h : address % 512 < 192 = omega arith in
    let is : address % 512 % 64 ≡ cell = omega arith in
    ap (word_at_address_target (node_with_value node (Rom cell) word)) (in_rom address l h)
    ∙ ap Some (ap (λ (k : ℕ). slice_index_or (set node.rom cell word) k 0) is ∙ get_or-set_same node.rom cell word 0 (omega arith))
written_by node place address word c size = absurd c

-- another cell
pub others_stay : (node : NodeState) (place : NodePlace) (address word other : ℕ) → IsCellOfAddress address place → (other % 512 < 64) ⊎ ((128 ≤ other % 512) × (other % 512 < 192)) → other % 512 ≢ address % 512 → word_at_address (node_with_value node place word) other ≡ word_at_address node other
others_stay node (Ram cell) address word other c within apart = elim within [
  | inl l ↦
      let ne : other % 512 ≢ cell = (λ e. apart (e ∙ sym c.1)) in
      ap (word_at_address_target (node_with_value node (Ram cell) word)) (in_ram other l)
      ∙ (ap Some (get_or-set_other node.ram cell (other % 512) word 0 ne) ∙ sym (ap (word_at_address_target node) (in_ram other l)))
  | inr h ↦ ap (word_at_address_target (node_with_value node (Ram cell) word)) (in_rom other h.0 h.1) ∙ sym (ap (word_at_address_target node) (in_rom other h.0 h.1))
]
others_stay node (Rom cell) address word other c within apart = elim within [
  | inl l ↦ ap (word_at_address_target (node_with_value node (Rom cell) word)) (in_ram other l) ∙ sym (ap (word_at_address_target node) (in_ram other l))
  | inr h ↦
      let at : address % 512 ≡ 128 + cell = c.1 in
      let low : 128 ≤ other % 512 = h.0 in
      let high : other % 512 < 192 = h.1 in
      let small : cell < 64 = c.0 in
      let ne : other % 512 % 64 ≢ cell = (λ e. apart (omega arith)) in
      ap (word_at_address_target (node_with_value node (Rom cell) word)) (in_rom other h.0 h.1)
      ∙ (ap Some (get_or-set_other node.rom cell (other % 512 % 64) word 0 ne) ∙ sym (ap (word_at_address_target node) (in_rom other h.0 h.1)))
]
others_stay node place address word other c within apart = absurd c

pub rest_stays : (node : NodeState) (place : NodePlace) (address word : ℕ) → IsCellOfAddress address place → KeepsOtherThanMemories node (node_with_value node place word)
rest_stays node (Ram cell) address word c = refl
rest_stays node (Rom cell) address word c = refl
rest_stays node place address word c = absurd c

pub elsewhere_stays : (node : NodeState) (place : NodePlace) (address word : ℕ) → IsCellOfAddress address place → KeepsOtherCells (is_address_of_cell address) node (node_with_value node place word)
elsewhere_stays node (Ram cell) address word c = record {
  ram = λ k e. get_or-set_other node.ram cell k word 0 (λ same. eqb-false (address % 512) k e (c.1 ∙ sym same));
  rom = λ k e. refl;
}
elsewhere_stays node (Rom cell) address word c = record {
  ram = λ k e. refl;
  rom = λ k e. get_or-set_other node.rom cell k word 0 (λ same. eqb-false (address % 512) (128 + k) e (c.1 ∙ ap (λ (n : ℕ). 128 + n) (sym same)));
}
elsewhere_stays node place address word c = absurd c

in_memory_by : (address : ℕ) (place : NodePlace) → IsCellOfAddress address place → (address % 512 < 64) ⊎ ((128 ≤ address % 512) × (address % 512 < 192))
in_memory_by address (Ram cell) c = inl (omega arith)
in_memory_by address (Rom cell) c = inr (omega arith, omega arith)
in_memory_by address place c = absurd c

some_set : (given : List (Option ℕ)) (k line : ℕ) → k < length given → slice_index_or (set given k (Some line)) k None ≢ None
some_set given k line l e = None≢Some line (sym e ∙ get_or-set_same given k (Some line) None l)

pub holds_by : (given : List (Option ℕ)) (place : NodePlace) (address line : ℕ) → IsCellOfAddress address place → address % 512 < length given → IsGivenMemoryCell (set given (address % 512) (Some line)) (address % 512)
holds_by given place address line c l = record { in_memory = in_memory_by address place c; is_given = some_set given (address % 512) line l }

pub keeps_by : (node : NodeState) (given : List (Option ℕ)) (place : NodePlace) (address line word : ℕ) → IsCellOfAddress address place → slice_index_or given (address % 512) None ≡ None → KeepsGivenCells node given (node_with_value node place word) (set given (address % 512) (Some line))
keeps_by node given place address line word c free other held =
    let apart : other % 512 ≢ address % 512 = (λ e. held.is_given (ap (λ (k : ℕ). slice_index_or given k None) e ∙ free)) in (
      others_stay node place address word other c held.in_memory apart,
      record { in_memory = held.in_memory; is_given = λ e. held.is_given (sym (get_or-set_other given (address % 512) (other % 512) (Some line) None apart) ∙ e) },
    )

-- ---- plain requests

pub one_plain_more : (requests : List AssemblyRequest) (request : AssemblyRequest) → ArePlain requests → IsDataCellOrGoToAddress request → ArePlain (requests ++ request ∷ [])
unfolding ArePlain
one_plain_more [] request plain one = (one, tt)
one_plain_more (first ∷ requests) request plain one = (plain.0, one_plain_more requests request plain.1 one)

-- ---- a cell that is written

abbrev cell_or : AddressTarget → ℕ → ℕ
cell_or (TargetRam k) n = k
cell_or (TargetRom k) n = k
cell_or _ n = n

abbrev is_ram : AddressTarget → Bool
is_ram (TargetRam k) = true
is_ram _ = false

-- the number that is there
same_number : (n m : ℕ) → are_equal_numbers (Some n) (Some m) ≡ true → m ≡ n
same_number n m is = sym (eqb-true n m is)

module _ (before after : NodeState) (at n k : ℕ) (small : k < 64) where
  pub ram_written : (t : AddressTarget) → address_target at ≡ t → are_equal_numbers (Some n) (word_at_address_target after t) ≡ true → length before.ram ≡ 64 → (is_address_of_cell at k ≡ false → slice_index after.ram k ≡ slice_index before.ram k) → slice_index after.ram k ≡ slice_index (node_with_cell before t n).ram k
  ram_written (TargetRam j) is here size stays = elim (cases_eq k j) [
    | inl e ↦
        let there : slice_index after.ram j ≡ n = same_number n (slice_index after.ram j) here in
        ap (slice_index after.ram) e ∙ (there ∙ sym (ap (slice_index (set before.ram j n)) e ∙ get_or-set_same before.ram j n 0 (omega (arith, size, small, e))))
    | inr other ↦
        stays (ne_eqb (at % 512) k (λ e.
        let low : at % 512 < 64 = omega arith in
        other (sym (ap (λ (t : AddressTarget). cell_or t 0) (sym is ∙ in_ram at low) ∙ e))))
        ∙ sym (get_or-set_other before.ram j k n 0 other)
  ]
  ram_written (TargetRom j) is here size stays =
      stays (ne_eqb (at % 512) k (λ e.
      let low : at % 512 < 64 = omega arith in
      both_ways (is_ram (TargetRom j)) refl (ap is_ram (sym is ∙ in_ram at low))))
  ram_written Io is here size stays = absurd (both_ways false refl here)
  ram_written (Ports s) is here size stays = absurd (both_ways false refl here)
  ram_written Bad is here size stays = absurd (both_ways false refl here)

  pub rom_written : (t : AddressTarget) → address_target at ≡ t → are_equal_numbers (Some n) (word_at_address_target after t) ≡ true → length before.rom ≡ 64 → (is_address_of_cell at (128 + k) ≡ false → slice_index after.rom k ≡ slice_index before.rom k) → slice_index after.rom k ≡ slice_index (node_with_cell before t n).rom k
  rom_written (TargetRom j) is here size stays = elim (cases_eq k j) [
    | inl e ↦
        let there : slice_index after.rom j ≡ n = same_number n (slice_index after.rom j) here in
        ap (slice_index after.rom) e ∙ (there ∙ sym (ap (slice_index (set before.rom j n)) e ∙ get_or-set_same before.rom j n 0 (omega (arith, size, small, e))))
    | inr other ↦
        stays (ne_eqb (at % 512) (128 + k) (λ e.
        let low : 128 ≤ at % 512 = omega arith in
        let high : at % 512 < 192 = omega arith in
        let cell : at % 512 % 64 ≡ k = omega arith in
        other (sym (ap (λ (t : AddressTarget). cell_or t 0) (sym is ∙ in_rom at low high) ∙ cell))))
        ∙ sym (get_or-set_other before.rom j k n 0 other)
  ]
  rom_written (TargetRam j) is here size stays =
      stays (ne_eqb (at % 512) (128 + k) (λ e.
      let low : 128 ≤ at % 512 = omega arith in
      let high : at % 512 < 192 = omega arith in
      both_ways (is_ram (TargetRam j)) (ap is_ram (sym is ∙ in_rom at low high)) refl))
  rom_written Io is here size stays = absurd (both_ways false refl here)
  rom_written (Ports s) is here size stays = absurd (both_ways false refl here)
  rom_written Bad is here size stays = absurd (both_ways false refl here)

or_none : (x y : Bool) → x ≡ false → y ≡ false → (x || y) ≡ false
or_none false y left right = right
or_none true y left right = left

-- the memories keep their sizes
pub with_cell_ram : (node : NodeState) (t : AddressTarget) (n : ℕ) → length (node_with_cell node t n).ram ≡ length node.ram
with_cell_ram node (TargetRam k) n = length-set node.ram k n
with_cell_ram node (TargetRom k) n = refl
with_cell_ram node Io n = refl
with_cell_ram node (Ports s) n = refl
with_cell_ram node Bad n = refl

pub with_cell_rom : (node : NodeState) (t : AddressTarget) (n : ℕ) → length (node_with_cell node t n).rom ≡ length node.rom
with_cell_rom node (TargetRam k) n = refl
with_cell_rom node (TargetRom k) n = length-set node.rom k n
with_cell_rom node Io n = refl
with_cell_rom node (Ports s) n = refl
with_cell_rom node Bad n = refl

-- ---- the cells that requests ask for

-- each memory of a node holds what was written, cell by cell
pub record AreCells (made node : NodeState) : Type 0 where
  pub ram : (k : ℕ) → k < 64 → slice_index node.ram k ≡ slice_index made.ram k
  pub rom : (k : ℕ) → k < 64 → slice_index node.rom k ≡ slice_index made.rom k

-- the cells that nobody asks for are as before
pub record Stays (is_named : ℕ → Bool) (before after : NodeState) : Type 0 where
  pub ram_size : length before.ram ≡ 64
  pub rom_size : length before.rom ≡ 64
  pub ram : (k : ℕ) → k < 64 → is_named k ≡ false → slice_index after.ram k ≡ slice_index before.ram k
  pub rom : (k : ℕ) → k < 64 → is_named (128 + k) ≡ false → slice_index after.rom k ≡ slice_index before.rom k

module _ (labels : List (Option ℕ)) (after : NodeState) where
  -- requests that were read make the node from any before it
  abbrev pub Makes : List LocatedRequest → Type 0
  Makes asked = (before : NodeState) (at : ℕ) → cells_match_requests after labels (first_spot_of_cell at) asked ≡ true → Stays (requests_use_cell labels (first_spot_of_cell at) asked) before after → AreCells (node_with_requests before at (requests_without_lines asked)) after

  cell_made : (n at : ℕ) (rest : List LocatedRequest) → (are_equal_numbers (Some n) (word_at_address_target after (address_target at)) && cells_match_requests after labels (first_spot_of_cell (advanced_address at)) rest) ≡ true → (before : NodeState) → Stays (λ k. is_address_of_cell at k || requests_use_cell labels (first_spot_of_cell (advanced_address at)) rest k) before after → Makes rest → AreCells (node_with_requests (node_with_cell before (address_target at) n) (advanced_address at) (requests_without_lines rest)) after
  cell_made n at rest read before stays makes =
      let parts = and_parts (are_equal_numbers (Some n) (word_at_address_target after (address_target at))) (cells_match_requests after labels (first_spot_of_cell (advanced_address at)) rest) read in
      makes (node_with_cell before (address_target at) n) (advanced_address at) parts.1 (record {
        ram_size = with_cell_ram before (address_target at) n ∙ stays.ram_size;
        rom_size = with_cell_rom before (address_target at) n ∙ stays.rom_size;
        ram = λ k small none. ram_written before after at n k small (address_target at) refl parts.0 stays.ram_size (λ other. stays.ram k small (or_none (is_address_of_cell at k) (requests_use_cell labels (first_spot_of_cell (advanced_address at)) rest k) other none));
        rom = λ k small none. rom_written before after at n k small (address_target at) refl parts.0 stays.rom_size (λ other. stays.rom k small (or_none (is_address_of_cell at (128 + k)) (requests_use_cell labels (first_spot_of_cell (advanced_address at)) rest (128 + k)) other none));
      })

  request_made : (request : AssemblyRequest) (rest : List LocatedRequest) (at : ℕ) → IsDataCellOrGoToAddress request → (is_request_met after labels (first_spot_of_cell at) request && cells_match_requests after labels (spot_after_request labels (first_spot_of_cell at) request) rest) ≡ true → (before : NodeState) → Stays (λ k. request_uses_cell labels (first_spot_of_cell at) request k || requests_use_cell labels (spot_after_request labels (first_spot_of_cell at) request) rest k) before after → Makes rest → AreCells (node_with_requests (node_with_requested_cell before at request) (address_after_assembly_request at request) (requests_without_lines rest)) after
  request_made (PlaceItem (Cell (Number n))) rest at plain read before stays makes = cell_made n at rest read before stays makes
  request_made (GoToAddress address) rest at plain read before stays makes = makes before address read stays
  request_made _ rest at plain read before stays makes = absurd plain

  pub requests_made : (asked : List LocatedRequest) → ArePlain (requests_without_lines asked) → Makes asked
  unfolding ArePlain cells_match_requests requests_use_cell node_with_requests
  requests_made [] plain before at read stays = record { ram = λ k small. stays.ram k small refl; rom = λ k small. stays.rom k small refl }
  requests_made (one ∷ rest) plain before at read stays = request_made one.request rest at plain.0 read before stays (requests_made rest plain.1)
