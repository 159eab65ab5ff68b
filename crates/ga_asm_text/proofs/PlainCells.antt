-- The memories that the cells of a source make which is written.
use Rattle.std.specs.Prelude.{◌==◌, ◌||◌, not, if◌then◌else◌}
use Rattle.std.specs.List.{list_any}
use Rattle.std.proofs.Common.{◌≡◌, ◌∙◌, ℕ, ◌+◌, ◌/◌, ◌%◌, ◌^◌, ◌<◌, ◌≤◌, Bool, List, [], ◌∷◌, ◌++◌, length, set, replicate, refl, arith, ap, sym, inl, inr, append_assoc, length-append}
use Rattle.std.proofs.Math.Seq.{set-append_seam}
use Rattle.std.proofs.lemmas.List.{append-nil}
use Rattle.std.proofs.lemmas.List.Folds.{list_any-append}
use Rattle.std.proofs.lemmas.Bool.{cases_Bool, eqb-true}
use Rattle.ga_ports.specs.declared.address.AddressTarget.TheVariants.{Ram, Rom}
use Rattle.ga_ports.specs.Address.{address_target, advanced_address}
use Rattle.ga_node.specs.Record.{NodeState}
use Rattle.ga_parser.specs.declared.item.Operand.TheVariants.{Number}
use Rattle.ga_parser.specs.declared.item.AssemblyItem.TheVariants.{Cell}
use Rattle.ga_parser.specs.declared.item.AssemblyRequest.{AssemblyRequest}
use Rattle.ga_parser.specs.declared.item.AssemblyRequest.TheVariants.{PlaceItem}
use Rattle.ga_source.specs.Programs.{is_item_request}
use Rattle.ga_source.specs.Made.{node_with_cell, node_with_requests}
use Rattle.ga_asm_text.specs.inner.{address_after_cell, address_after_cells, is_nonzero_cell, HasMemoriesAndRegistersInRange}
use Rattle.ga_asm_text.proofs.PlainWords.{address_requests, cell_requests, cells_requests, node_requests, IsCellAddress, IsWithin, first_within, rest_within}

-- ---- addresses

pub counts_up : (address : ℕ) → IsCellAddress address → advanced_address address ≡ address + 1
counts_up address (inl ram) =
    let bit : address / 2 ^ 8 % 2 ≡ 0 = omega (arith, ram) in
    rw (bit) (omega (arith, ram))
counts_up address (inr rom) =
    let bit : address / 2 ^ 8 % 2 ≡ 0 = omega (arith, rom.0, rom.1) in
    rw (bit) (omega (arith, rom.0, rom.1))

ram_at : (address : ℕ) → address < 64 → address_target address ≡ Ram address
ram_at address small =
    let one : address % 2 ^ 9 / 2 ^ 8 ≡ 0 = omega (arith, small) in
    let two : address % 2 ^ 9 / 2 ^ 7 ≡ 0 = omega (arith, small) in
    let three : address % 2 ^ 9 % 64 ≡ address = omega (arith, small) in
    rw (one, two, three) refl

rom_at : (cell : ℕ) → cell < 64 → address_target (0x80 + cell) ≡ Rom cell
rom_at cell small =
    let one : (0x80 + cell) % 2 ^ 9 / 2 ^ 8 ≡ 0 = omega (arith, small) in
    let two : (0x80 + cell) % 2 ^ 9 / 2 ^ 7 ≡ 1 = omega (arith, small) in
    let three : (0x80 + cell) % 2 ^ 9 % 64 ≡ cell = omega (arith, small) in
    rw (one, two, three) refl

-- ---- a memory

-- a memory with the words that aren't 0 in its cells, from one on
unfoldable filled : List ℕ → ℕ → List ℕ → List ℕ
filled memory cell [] = memory
filled memory cell (word ∷ words) = filled (if word == 0 then memory else set memory cell word) (cell + 1) words

one_filled : (front rest : List ℕ) (word : ℕ) → (if word == 0 then front ++ 0 ∷ rest else set (front ++ 0 ∷ rest) (length front) word) ≡ (front ++ word ∷ []) ++ rest
one_filled front rest word = elim (cases_Bool (word == 0)) [
  | inl none ↦ rw none (ap (λ (n : ℕ). front ++ n ∷ rest) (sym (eqb-true word 0 none)) ∙ sym (append_assoc front (word ∷ []) rest))
  | inr some ↦ rw some (set-append_seam front 0 rest word ∙ sym (append_assoc front (word ∷ []) rest))
]

-- over zeros just these words
all_filled : (front words : List ℕ) → filled (front ++ replicate (length words) 0) (length front) words ≡ front ++ words
unfolding filled
all_filled front [] = refl
all_filled front (word ∷ words) =
    let zeros = replicate (length words) 0 in
    let next : length front + 1 ≡ length (front ++ word ∷ []) = sym (length-append front (word ∷ [])) in
    ap (λ (l : List ℕ). filled l (length front + 1) words) (one_filled front zeros word)
    ∙ (ap (λ (k : ℕ). filled ((front ++ word ∷ []) ++ zeros) k words) next
    ∙ (all_filled (front ++ word ∷ []) words ∙ append_assoc front (word ∷ []) words))

memory_filled : (words : List ℕ) → length words ≡ 64 → filled (replicate 64 0) 0 words ≡ words
memory_filled words size = ap (λ (n : ℕ). filled (replicate n 0) 0 words) (sym size) ∙ all_filled [] words

-- ---- the cells of a node

-- a node with the words that aren't 0 in its cells, from an address on
unfoldable with_cells : NodeState → ℕ → List ℕ → NodeState
with_cells node address [] = node
with_cells node address (word ∷ words) = with_cells (if word == 0 then node else node_with_cell node (address_target address) word) (address + 1) words

gone : (node : NodeState) (address next : ℕ) (rest : List AssemblyRequest) → node_with_requests node next (address_requests address next ++ rest) ≡ node_with_requests node address rest
unfolding node_with_requests
gone node address next rest = elim (cases_Bool (address == next)) [
  | inl same ↦ rw same (ap (λ (at : ℕ). node_with_requests node at rest) (sym (eqb-true address next same)))
  | inr differs ↦ rw differs refl
]

put : (node : NodeState) (address word : ℕ) (rest : List AssemblyRequest) → node_with_requests node address (PlaceItem (Cell (Number word)) ∷ rest) ≡ node_with_requests (node_with_cell node (address_target address) word) (advanced_address address) rest
unfolding node_with_requests
put node address word rest = refl

one_written : (node : NodeState) (word address next : ℕ) (rest : List AssemblyRequest) → IsCellAddress address
    → node_with_requests node next (cell_requests word address next ++ rest) ≡ node_with_requests (if word == 0 then node else node_with_cell node (address_target address) word) (address_after_cell word address next) rest
one_written node word address next rest is = elim (cases_Bool (word == 0)) [
  | inl none ↦ rw none refl
  | inr some ↦ rw some
      (ap (node_with_requests node next) (append_assoc (address_requests address next) (PlaceItem (Cell (Number word)) ∷ []) rest)
      ∙ (gone node address next (PlaceItem (Cell (Number word)) ∷ rest)
      ∙ (put node address word rest
      ∙ ap (λ (at : ℕ). node_with_requests (node_with_cell node (address_target address) word) at rest) (counts_up address is))))
]

cells_written : (node : NodeState) (address next : ℕ) (words : List ℕ) (rest : List AssemblyRequest) → IsWithin address (length words)
    → node_with_requests node next (cells_requests address next words ++ rest) ≡ node_with_requests (with_cells node address words) (address_after_cells address next words) rest
unfolding cells_requests with_cells address_after_cells
cells_written node address next [] rest within = refl
cells_written node address next (word ∷ words) rest within =
    let behind = address_after_cell word address next in
    let after = cells_requests (address + 1) behind words in
    ap (node_with_requests node next) (append_assoc (cell_requests word address next) after rest)
    ∙ (one_written node word address next (after ++ rest) (first_within address (length words) within)
    ∙ cells_written (if word == 0 then node else node_with_cell node (address_target address) word) (address + 1) behind words rest (rest_within address (length words) within))

one_ram : (node : NodeState) (cell word : ℕ) → cell < 64 → (if word == 0 then node else node_with_cell node (address_target cell) word) ≡ record node { ram = if word == 0 then node.ram else set node.ram cell word }
one_ram node cell word small = elim (cases_Bool (word == 0)) [
  | inl none ↦ rw none refl
  | inr some ↦ rw (some, ram_at cell small) refl
]

ram_cells : (node : NodeState) (cell : ℕ) (words : List ℕ) → cell + length words ≤ 64 → with_cells node cell words ≡ record node { ram = filled node.ram cell words }
unfolding with_cells filled
ram_cells node cell [] within = refl
ram_cells node cell (word ∷ words) within =
    ap (λ (next : NodeState). with_cells next (cell + 1) words) (one_ram node cell word (omega arith))
    ∙ ram_cells (record node { ram = if word == 0 then node.ram else set node.ram cell word }) (cell + 1) words (omega arith)

one_rom : (node : NodeState) (cell word : ℕ) → cell < 64 → (if word == 0 then node else node_with_cell node (address_target (0x80 + cell)) word) ≡ record node { rom = if word == 0 then node.rom else set node.rom cell word }
one_rom node cell word small = elim (cases_Bool (word == 0)) [
  | inl none ↦ rw none refl
  | inr some ↦ rw (some, rom_at cell small) refl
]

rom_cells : (node : NodeState) (cell : ℕ) (words : List ℕ) → cell + length words ≤ 64 → with_cells node (0x80 + cell) words ≡ record node { rom = filled node.rom cell words }
unfolding with_cells filled
rom_cells node cell [] within = refl
rom_cells node cell (word ∷ words) within =
    let next : 0x80 + cell + 1 ≡ 0x80 + (cell + 1) = omega arith in
    ap (λ (after : NodeState). with_cells after (0x80 + cell + 1) words) (one_rom node cell word (omega arith))
    ∙ (ap (λ (at : ℕ). with_cells (record node { rom = if word == 0 then node.rom else set node.rom cell word }) at words) next
    ∙ rom_cells (record node { rom = if word == 0 then node.rom else set node.rom cell word }) (cell + 1) words (omega arith))

-- a node without cells gets just those of this one
pub memories_written : (empty node : NodeState) → HasMemoriesAndRegistersInRange node → empty.ram ≡ replicate 64 0 → empty.rom ≡ replicate 64 0 → node_with_requests empty 0 (node_requests node) ≡ record empty { ram = node.ram; rom = node.rom }
unfolding node_with_requests
memories_written empty node fit no_ram no_rom =
    let ram = fit.memories.ram in
    let rom = fit.memories.rom in
    let behind = address_after_cells 0 0 node.ram in
    let half = record empty { ram = node.ram } in
    let ram_made : with_cells empty 0 node.ram ≡ half =
    ram_cells empty 0 node.ram (omega (arith, ram.size)) ∙ ap (λ (l : List ℕ). record empty { ram = l }) (ap (λ (l : List ℕ). filled l 0 node.ram) no_ram ∙ memory_filled node.ram ram.size) in
    let rom_made : with_cells half 0x80 node.rom ≡ record half { rom = node.rom } =
    rom_cells half 0 node.rom (omega (arith, rom.size)) ∙ ap (λ (l : List ℕ). record half { rom = l }) (ap (λ (l : List ℕ). filled l 0 node.rom) no_rom ∙ memory_filled node.rom rom.size) in
    cells_written empty 0 0 node.ram (cells_requests 0x80 behind node.rom) (inl (omega (arith, ram.size)))
    ∙ (ap (λ (next : NodeState). node_with_requests next behind (cells_requests 0x80 behind node.rom)) ram_made
    ∙ (ap (node_with_requests half behind) (sym (append-nil (cells_requests 0x80 behind node.rom)))
    ∙ (cells_written half 0x80 behind node.rom [] (inr (omega arith, omega (arith, rom.size))) ∙ rom_made)))

-- ---- whether there are cells

one_item : (word address next : ℕ) → list_any is_item_request (cell_requests word address next) ≡ not (word == 0)
one_item word address next = elim (cases_Bool (word == 0)) [
  | inl none ↦ rw none refl
  | inr some ↦ elim (cases_Bool (address == next)) [
    | inl same ↦ rw (some, same) refl
    | inr differs ↦ rw (some, differs) refl
  ]
]

cell_items : (address next : ℕ) (words : List ℕ) → list_any is_item_request (cells_requests address next words) ≡ is_nonzero_cell words
unfolding cells_requests is_nonzero_cell
cell_items address next [] = refl
cell_items address next (word ∷ words) =
    let behind = address_after_cell word address next in
    list_any-append is_item_request (cell_requests word address next) (cells_requests (address + 1) behind words)
    ∙ (ap (λ (b : Bool). b || list_any is_item_request (cells_requests (address + 1) behind words)) (one_item word address next)
    ∙ ap (λ (b : Bool). not (word == 0) || b) (cell_items (address + 1) behind words))

pub node_items : (node : NodeState) → list_any is_item_request (node_requests node) ≡ (is_nonzero_cell node.ram || is_nonzero_cell node.rom)
node_items node =
    let behind = address_after_cells 0 0 node.ram in
    list_any-append is_item_request (cells_requests 0 0 node.ram) (cells_requests 0x80 behind node.rom)
    ∙ (ap (λ (b : Bool). b || list_any is_item_request (cells_requests 0x80 behind node.rom)) (cell_items 0 0 node.ram)
    ∙ ap (λ (b : Bool). is_nonzero_cell node.ram || b) (cell_items 0x80 behind node.rom))
