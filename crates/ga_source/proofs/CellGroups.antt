-- Plain requests, packed one by one.
use Rattle.std.proofs.Common.{◌≡◌, ◌≢◌, ◌∙◌, ◌+◌, ◌%◌, ◌^◌, inl, inr, set, replicate, get_or-set_other, ℕ, zero, suc, ◌<◌, ◌≤◌, length, slice_index_or, arith, refl, sym, ap, subst, true, List, [], ◌∷◌, ◌++◌, Option, None, append-nil, append_assoc}
use Rattle.std.proofs.lemmas.Bool.{cases_lt}
use Rattle.std.proofs.lemmas.List.{get_or-replicate, get_or_past, length-replicate}
use Rattle.ga_parser.specs.declared.item.Operand.TheVariants.{Number}
use Rattle.ga_parser.specs.declared.item.AssemblyItem.{AssemblyItem}
use Rattle.ga_parser.specs.declared.item.AssemblyItem.TheVariants.{Cell}
use Rattle.ga_source.specs.declared.group.CellGroup.{CellGroup}
use Rattle.ga_parser.specs.declared.item.AssemblyRequest.{AssemblyRequest}
use Rattle.ga_parser.specs.declared.item.AssemblyRequest.TheVariants.{PlaceItem, GoToAddress}
use Rattle.ga_parser.specs.declared.item.LocatedRequest.{LocatedRequest}
use Rattle.ga_source.specs.declared.packing.Packer.{Packer}
use Rattle.ga_source.specs.declared.group.PackingSpot.{PackingSpot}
use Rattle.ga_source.specs.Reading.{first_spot_of_cell, spot_after_item, item_fits_at_spot}
use Rattle.ga_source.specs.Made.{address_after_assembly_request, requested_cell, requested_cells, cell_at_index, AreDistinctCells, IsMemoryAddress}
use Rattle.ga_source.specs.inner.{IsCellClosed, requests_without_lines, IsDataCellOrGoToAddress, ArePlain, address_after, IsGroupOfOneDataCell, AreCellGroups, ArePlainRequestsPacked, AreCellValuesWords}

-- from the k-th on, no cell is given
abbrev pub AreOpen : List (Option ℕ) → List (ℕ × ℕ) → ℕ → Type 0
AreOpen given cells from = (k : ℕ) → from ≤ k → k < length cells → slice_index_or given ((cell_at_index cells k).0 % 512) None ≡ None

-- ---- one more

pub one_group : (cells : List (ℕ × ℕ)) (groups : List CellGroup) (cell : ℕ × ℕ) (group : CellGroup) → AreCellGroups cells groups → IsGroupOfOneDataCell cell group → AreCellGroups (cells ++ cell ∷ []) (groups ++ group ∷ [])
unfolding AreCellGroups
one_group [] [] cell group all one = (one, tt)
one_group (first ∷ cells) (g ∷ groups) cell group all one = (all.0, one_group cells groups cell group all.1 one)
one_group [] (g ∷ groups) cell group all one = absurd all
one_group (first ∷ cells) [] cell group all one = absurd all

cells_more : (at : ℕ) (requests : List AssemblyRequest) (request : AssemblyRequest) → requested_cells at (requests ++ request ∷ []) ≡ requested_cells at requests ++ requested_cell (address_after at requests) request
unfolding requested_cells address_after
cells_more at [] request = append-nil (requested_cell at request)
cells_more at (first ∷ requests) request =
    ap (λ (cells : List (ℕ × ℕ)). requested_cell at first ++ cells) (cells_more (address_after_assembly_request at first) requests request)
    ∙ sym (append_assoc (requested_cell at first) (requested_cells (address_after_assembly_request at first) requests) (requested_cell (address_after (address_after_assembly_request at first) requests) request))

after_more : (at : ℕ) (requests : List AssemblyRequest) (request : AssemblyRequest) → address_after at (requests ++ request ∷ []) ≡ address_after_assembly_request (address_after at requests) request
unfolding address_after
after_more at [] request = refl
after_more at (first ∷ requests) request = after_more (address_after_assembly_request at first) requests request

-- ---- the packer

-- a cell is added
pub added_cell : (before full closed : Packer) (next : PackingSpot) (item : AssemblyItem) (n : ℕ) (requests : List AssemblyRequest) → item ≡ Cell (Number n) → ArePlainRequestsPacked before requests
    → full.filling.items ≡ before.filling.items ++ item ∷ [] → full.broken ≡ before.broken → full.spot ≡ before.spot → full.groups.items ≡ before.groups.items → IsCellClosed full closed
    → ((n : ℕ) (cells : List (ℕ × ℕ)) → full.filling.items ≡ Cell (Number n) ∷ [] → full.broken ≡ None → AreCellGroups cells full.groups.items → AreCellGroups (cells ++ (full.spot.at, n) ∷ []) closed.groups.items)
    → next ≡ spot_after_item before.spot item → ArePlainRequestsPacked (record closed { spot = next }) (requests ++ PlaceItem item ∷ [])
added_cell before full closed next item n requests is packed filled broken spot groups done cell goes =
    let at = address_after 0 requests in
    let here : full.spot.at ≡ at = ap (λ (s : PackingSpot). s.at) (spot ∙ packed.spot) in
    let cells : AreCellGroups (requested_cells 0 requests ++ (full.spot.at, n) ∷ []) closed.groups.items =
    cell n (requested_cells 0 requests)
    (filled ∙ (ap (λ (items : List AssemblyItem). items ++ item ∷ []) packed.filling ∙ ap (λ (i : AssemblyItem). i ∷ []) is))
    (broken ∙ packed.whole)
    (subst (AreCellGroups (requested_cells 0 requests)) (sym groups) packed.groups) in
    record {
      filling = done.empty;
      whole = done.whole;
      spot = goes ∙ (ap (λ (s : PackingSpot). spot_after_item s item) packed.spot ∙ (ap (spot_after_item (first_spot_of_cell at)) is ∙ ap first_spot_of_cell (sym (after_more 0 requests (PlaceItem item)))));
      groups = subst (λ (list : List (ℕ × ℕ)). AreCellGroups list closed.groups.items)
          (ap (λ (a : ℕ). requested_cells 0 requests ++ (a, n) ∷ []) here
          ∙ (ap (λ (i : AssemblyItem). requested_cells 0 requests ++ requested_cell at (PlaceItem i)) (sym is) ∙ sym (cells_more 0 requests (PlaceItem item)))) cells;
    }

-- another address
pub gone_packed : (before closed : Packer) (spot : PackingSpot) (address : ℕ) (requests : List AssemblyRequest) → spot ≡ first_spot_of_cell address → ArePlainRequestsPacked before requests → closed ≡ before → ArePlainRequestsPacked (record closed { spot = spot }) (requests ++ GoToAddress address ∷ [])
gone_packed before closed spot address requests is packed stays = record {
  filling = ap (λ (p : Packer). p.filling.items) stays ∙ packed.filling;
  whole = ap (λ (p : Packer). p.broken) stays ∙ packed.whole;
  spot = is ∙ ap first_spot_of_cell (sym (after_more 0 requests (GoToAddress address)));
  groups = subst (λ (p : Packer). AreCellGroups (requested_cells 0 (requests ++ GoToAddress address ∷ [])) p.groups.items) (sym stays)
      (subst (λ (list : List (ℕ × ℕ)). AreCellGroups list before.groups.items) (sym (cells_more 0 requests (GoToAddress address) ∙ append-nil (requested_cells 0 requests))) packed.groups);
}

-- a cell has room
pub cell_fits : (packer : Packer) (requests : List AssemblyRequest) (item : AssemblyItem) (n : ℕ) → item ≡ Cell (Number n) → ArePlainRequestsPacked packer requests → item_fits_at_spot packer.labels.items packer.spot item ≡ true
cell_fits packer requests item n is packed =
    ap (λ (s : PackingSpot). item_fits_at_spot packer.labels.items s item) packed.spot ∙ ap (item_fits_at_spot packer.labels.items (first_spot_of_cell (address_after 0 requests))) is

-- an item that plain requests ask for
pub record IsCellItem (item : AssemblyItem) : Type 0 where
  pub n : ℕ
  pub is : item ≡ Cell (Number n)

pub plain_item : (item : AssemblyItem) → IsDataCellOrGoToAddress (PlaceItem item) → IsCellItem item
plain_item (Cell (Number n)) plain = record { n = n; is = refl }
plain_item _ plain = absurd plain

-- none is packed
pub none_packed : (packer : Packer) → packer.filling.items ≡ [] → packer.broken ≡ None → packer.spot ≡ first_spot_of_cell 0 → packer.groups.items ≡ [] → ArePlainRequestsPacked packer []
unfolding AreCellGroups requested_cells address_after
none_packed packer filling whole spot groups = record { filling = filling; whole = whole; spot = spot; groups = subst (AreCellGroups []) (sym groups) tt }

-- one of plain requests
pub one_plain : (asked : List LocatedRequest) (i : ℕ) (d : LocatedRequest) → i < length asked → ArePlain (requests_without_lines asked) → IsDataCellOrGoToAddress (slice_index_or asked i d).request
unfolding ArePlain
one_plain [] i d within plain = absurd (omega arith)
one_plain (one ∷ asked) zero d within plain = plain.0
one_plain (one ∷ asked) (suc i) d within plain = one_plain asked i d (omega arith) plain.1

-- ---- loading

-- a cell that is given leaves the others
pub given_set : (given now : List (Option ℕ)) (a b k : ℕ) (line : Option ℕ) → now ≡ set given (a % 512) line → a ≡ b → k ≢ b % 512 → slice_index_or now k None ≡ slice_index_or given k None
given_set given now a b k line is same other =
    ap (λ (list : List (Option ℕ)). slice_index_or list k None) is
    ∙ get_or-set_other given (a % 512) k line None (λ e. other (e ∙ ap (λ (n : ℕ). n % 512) same))

-- the item of a cell of data
pub cell_item : (items : List AssemblyItem) (n i : ℕ) (d : AssemblyItem) → items ≡ Cell (Number n) ∷ [] → i < length items → slice_index_or items i d ≡ Cell (Number n)
cell_item items n zero d is within = ap (λ (list : List AssemblyItem). slice_index_or list 0 d) is
cell_item items n (suc i) d is within = let one : length items ≡ 1 = ap length is in absurd (omega arith)

pub group_at : (cells : List (ℕ × ℕ)) (groups : List CellGroup) (i : ℕ) (d : CellGroup) → AreCellGroups cells groups → i < length groups → IsGroupOfOneDataCell (cell_at_index cells i) (slice_index_or groups i d)
unfolding AreCellGroups
group_at [] [] i d are within = absurd (omega arith)
group_at (cell ∷ cells) (group ∷ groups) zero d are within = are.0
group_at (cell ∷ cells) (group ∷ groups) (suc i) d are within = group_at cells groups i d are.1 (omega arith)
group_at [] (group ∷ groups) i d are within = absurd are
group_at (cell ∷ cells) [] i d are within = absurd are

pub same_length : (cells : List (ℕ × ℕ)) (groups : List CellGroup) → AreCellGroups cells groups → length cells ≡ length groups
unfolding AreCellGroups
same_length [] [] are = refl
same_length (cell ∷ cells) (group ∷ groups) are = ap suc (same_length cells groups are.1)
same_length [] (group ∷ groups) are = absurd are
same_length (cell ∷ cells) [] are = absurd are

-- one group more is loaded
pub open_more : (given now : List (Option ℕ)) (cells : List (ℕ × ℕ)) (groups : List CellGroup) (i : ℕ) (group : CellGroup) → AreCellGroups cells groups → AreDistinctCells cells → i < length groups → group ≡ slice_index_or groups i group
    → ((cell : ℕ × ℕ) (k : ℕ) → IsGroupOfOneDataCell cell group → k ≢ cell.0 % 512 → slice_index_or now k None ≡ slice_index_or given k None) → AreOpen given cells i → AreOpen now cells (i + 1)
open_more given now cells groups i group are free within is stays before = λ k from small.
    let here : IsGroupOfOneDataCell (cell_at_index cells i) group = subst (IsGroupOfOneDataCell (cell_at_index cells i)) (sym is) (group_at cells groups i group are within) in
    stays (cell_at_index cells i) ((cell_at_index cells k).0 % 512) here (free.apart i k (omega arith) small) ∙ before k (omega arith) small

-- before the first
none_there : (k : ℕ) (none : Option ℕ) → slice_index_or (replicate 192 none) k none ≡ none
none_there k none = elim (cases_lt k 192) [
  | inl l ↦ get_or-replicate 192 k none none l
  | inr past ↦ get_or_past (replicate 192 none) k none (rw length-replicate past)
]

pub all_open : (given : List (Option ℕ)) (cells : List (ℕ × ℕ)) → given ≡ replicate 192 None → AreOpen given cells 0
all_open given cells is = λ k from small.
    ap (λ (list : List (Option ℕ)). slice_index_or list ((cell_at_index cells k).0 % 512) None) is ∙ none_there ((cell_at_index cells k).0 % 512) None

-- no cell is given twice
pub never_twice : (given : List (Option ℕ)) (cells : List (ℕ × ℕ)) (groups : List CellGroup) (i : ℕ) (group : CellGroup) → AreCellGroups cells groups → AreCellValuesWords cells → AreDistinctCells cells → i < length groups → group ≡ slice_index_or groups i group → length given ≡ 192
    → ((cell : ℕ × ℕ) → IsGroupOfOneDataCell cell group → cell.1 < 2 ^ 18 → IsMemoryAddress cell.0 → length given ≡ 192 → slice_index_or given (cell.0 % 512) None ≢ None) → AreOpen given cells i → ⊥
never_twice given cells groups i group are words free within is size refused before =
    let here : IsGroupOfOneDataCell (cell_at_index cells i) group = subst (IsGroupOfOneDataCell (cell_at_index cells i)) (sym is) (group_at cells groups i group are within) in
    let same = same_length cells groups are in
    let small : i < length cells = omega (arith, same) in
    refused (cell_at_index cells i) here (words i small) (free.memory i small) size (before i (omega arith) small)

words_more : (cell : ℕ × ℕ) (cells : List (ℕ × ℕ)) → cell.1 < 2 ^ 18 → AreCellValuesWords cells → (k : ℕ) → k < length (cell ∷ cells) → (cell_at_index (cell ∷ cells) k).1 < 2 ^ 18
words_more cell cells small words zero within = small
words_more cell cells small words (suc k) within = words k (omega arith)

words_behind : (at : ℕ) (request : AssemblyRequest) (cells : List (ℕ × ℕ)) → IsDataCellOrGoToAddress request → AreCellValuesWords cells → AreCellValuesWords (requested_cell at request ++ cells)
words_behind at (PlaceItem (Cell (Number n))) cells plain words = words_more (at, n) cells plain words
words_behind at (GoToAddress address) cells plain words = words
words_behind at _ cells plain words = absurd plain

-- the numbers of plain requests are words
pub plain_words : (at : ℕ) (requests : List AssemblyRequest) → ArePlain requests → AreCellValuesWords (requested_cells at requests)
unfolding ArePlain requested_cells
plain_words at [] plain = λ k within. absurd (omega arith)
plain_words at (request ∷ requests) plain = words_behind at request (requested_cells (address_after_assembly_request at request) requests) plain.0 (plain_words (address_after_assembly_request at request) requests plain.1)
