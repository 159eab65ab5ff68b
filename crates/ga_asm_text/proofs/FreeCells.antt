-- The cells of a source that is written come once each.
use Rattle.std.specs.Prelude.{◌==◌}
use Rattle.std.proofs.Common.{◌≡◌, ◌∙◌, ℕ, zero, suc, ◌+◌, ◌%◌, ◌<◌, ◌≤◌, Bool, false, cond, List, [], ◌∷◌, ◌++◌, length, refl, arith, ap, sym, subst, inl, inr, append_assoc}
use Rattle.std.proofs.lemmas.List.{append-nil}
use Rattle.std.proofs.lemmas.Bool.{cases_Bool, eqb-true}
use Rattle.ga_ports.specs.Address.{advanced_address}
use Rattle.ga_node.specs.Record.{NodeState}
use Rattle.ga_parser.specs.declared.item.Operand.TheVariants.{Number}
use Rattle.ga_parser.specs.declared.item.AssemblyItem.TheVariants.{Cell}
use Rattle.ga_parser.specs.declared.item.AssemblyRequest.{AssemblyRequest}
use Rattle.ga_parser.specs.declared.item.AssemblyRequest.TheVariants.{PlaceItem}
use Rattle.ga_source.specs.Made.{requested_cells, IsMemoryAddress, cell_at_index, AreDistinctCells}
use Rattle.ga_asm_text.specs.inner.{address_after_cell, address_after_cells, HasMemoriesAndRegistersInRange}
use Rattle.ga_asm_text.proofs.PlainWords.{address_requests, cell_requests, cells_requests, node_requests, IsCellAddress, IsWithin, first_within, rest_within}
use Rattle.ga_asm_text.proofs.PlainCells.{counts_up}

-- ---- cells whose addresses ascend

unfoldable Ascend : ℕ → List (ℕ × ℕ) → Type 0
Ascend least [] = Unit {0}
Ascend least (cell ∷ cells) = (least ≤ cell.0) × IsCellAddress cell.0 × Ascend (cell.0 + 1) cells

lower : (less least : ℕ) (cells : List (ℕ × ℕ)) → less ≤ least → Ascend least cells → Ascend less cells
unfolding Ascend
lower less least [] below up = tt
lower less least (cell ∷ cells) below up = (omega (arith, up.0), up.1, up.2)

cell_up : (least : ℕ) (cells : List (ℕ × ℕ)) (k : ℕ) → Ascend least cells → k < length cells → (least ≤ (cell_at_index cells k).0) × IsCellAddress (cell_at_index cells k).0
unfolding Ascend
cell_up least [] k up within = absurd (omega arith)
cell_up least (cell ∷ cells) zero up within = (up.0, up.1)
cell_up least (cell ∷ cells) (suc k) up within = let more = cell_up (cell.0 + 1) cells k up.2 (omega arith) in (omega (arith, up.0, more.0), more.1)

later_up : (least : ℕ) (cells : List (ℕ × ℕ)) (j k : ℕ) → Ascend least cells → j < k → k < length cells → (cell_at_index cells j).0 < (cell_at_index cells k).0
unfolding Ascend
later_up least [] j k up less within = absurd (omega arith)
later_up least (cell ∷ cells) j zero up less within = absurd (omega arith)
later_up least (cell ∷ cells) zero (suc k) up less within = let more = cell_up (cell.0 + 1) cells k up.2 (omega arith) in omega (arith, more.0)
later_up least (cell ∷ cells) (suc j) (suc k) up less within = later_up (cell.0 + 1) cells j k up.2 (omega arith) (omega arith)

low : (address : ℕ) → IsCellAddress address → address % 512 ≡ address
low address (inl ram) = omega (arith, ram)
low address (inr rom) = omega (arith, rom.1)

in_memory : (address : ℕ) → IsCellAddress address → IsMemoryAddress address
in_memory address (inl ram) = inl (omega (arith, ram))
in_memory address (inr rom) = inr (omega (arith, rom.0, rom.1), omega (arith, rom.0, rom.1))

free : (cells : List (ℕ × ℕ)) → Ascend 0 cells → AreDistinctCells cells
free cells up = record {
  memory = λ k within. in_memory (cell_at_index cells k).0 (cell_up 0 cells k up within).1;
  apart = λ j k less within same.
      let a = low (cell_at_index cells j).0 (cell_up 0 cells j up (omega arith)).1 in
      let b = low (cell_at_index cells k).0 (cell_up 0 cells k up within).1 in
      omega (arith, later_up 0 cells j k up less within, a, b, same);
}

-- ---- the cells that a node asks for

gone : (address next : ℕ) (rest : List AssemblyRequest) → requested_cells next (address_requests address next ++ rest) ≡ requested_cells address rest
unfolding requested_cells
gone address next rest = elim (cases_Bool (address == next)) [
  | inl same ↦ rw same (ap (λ (at : ℕ). requested_cells at rest) (sym (eqb-true address next same)))
  | inr differs ↦ rw differs refl
]

put : (address word : ℕ) (rest : List AssemblyRequest) → requested_cells address (PlaceItem (Cell (Number word)) ∷ rest) ≡ (address, word) ∷ requested_cells (advanced_address address) rest
unfolding requested_cells
put address word rest = refl

one_cell : (word address next : ℕ) (rest : List AssemblyRequest) → IsCellAddress address → (word == 0) ≡ false → requested_cells next (cell_requests word address next ++ rest) ≡ (address, word) ∷ requested_cells (address + 1) rest
one_cell word address next rest is some = rw some
    (ap (requested_cells next) (append_assoc (address_requests address next) (PlaceItem (Cell (Number word)) ∷ []) rest)
    ∙ (gone address next (PlaceItem (Cell (Number word)) ∷ rest)
    ∙ (put address word rest ∙ ap (λ (at : ℕ). (address, word) ∷ requested_cells at rest) (counts_up address is))))

-- one cell, unless it is 0
one_up : (least word address next : ℕ) (rest : List AssemblyRequest) → least ≤ address → IsCellAddress address → Ascend (address + 1) (requested_cells (address_after_cell word address next) rest) → Ascend least (requested_cells next (cell_requests word address next ++ rest))
unfolding Ascend
one_up least word address next rest above is up = elim (cases_Bool (word == 0)) [
  | inl none ↦ rw none (lower least (address + 1) (requested_cells next rest) (omega arith) (subst (λ (at : ℕ). Ascend (address + 1) (requested_cells at rest)) (ap (λ (b : Bool). cond b next (address + 1)) none) up))
  | inr some ↦ subst (Ascend least) (sym (one_cell word address next rest is some)) (above, is, subst (λ (at : ℕ). Ascend (address + 1) (requested_cells at rest)) (ap (λ (b : Bool). cond b next (address + 1)) some) up)
]

cells_up : (least address next : ℕ) (words : List ℕ) (rest : List AssemblyRequest) → least ≤ address → IsWithin address (length words) → Ascend (address + length words) (requested_cells (address_after_cells address next words) rest) → Ascend least (requested_cells next (cells_requests address next words ++ rest))
unfolding cells_requests address_after_cells
cells_up least address next [] rest above within up = lower least (address + 0) (requested_cells next rest) (omega arith) up
cells_up least address next (word ∷ words) rest above within up =
    let behind = address_after_cell word address next in
    let after = cells_requests (address + 1) behind words in
    let end : address + suc (length words) ≡ address + 1 + length words = omega arith in
    subst (λ (all : List AssemblyRequest). Ascend least (requested_cells next all)) (sym (append_assoc (cell_requests word address next) after rest))
    (one_up least word address next (after ++ rest) above (first_within address (length words) within)
    (cells_up (address + 1) (address + 1) behind words rest (omega arith) (rest_within address (length words) within)
    (subst (λ (least : ℕ). Ascend least (requested_cells (address_after_cells (address + 1) behind words) rest)) end up)))

none_up : (least at : ℕ) → Ascend least (requested_cells at [])
unfolding Ascend requested_cells
none_up least at = tt

pub node_free : (node : NodeState) → HasMemoriesAndRegistersInRange node → AreDistinctCells (requested_cells 0 (node_requests node))
node_free node fit =
    let ram = fit.memories.ram in
    let rom = fit.memories.rom in
    let behind = address_after_cells 0 0 node.ram in
    let rom_cells = cells_requests 0x80 behind node.rom in
    let last = none_up (0x80 + length node.rom) (address_after_cells 0x80 behind node.rom) in
    let second : Ascend (0 + length node.ram) (requested_cells behind rom_cells) =
    subst (λ (all : List AssemblyRequest). Ascend (0 + length node.ram) (requested_cells behind all)) (append-nil rom_cells)
    (cells_up (0 + length node.ram) 0x80 behind node.rom [] (omega (arith, ram.size)) (inr (omega arith, omega (arith, rom.size))) last) in
    free (requested_cells 0 (node_requests node)) (cells_up 0 0 0 node.ram rom_cells (omega arith) (inl (omega (arith, ram.size))) second)
