-- One more node with its program; what nobody names is 0.
use Rattle.std.proofs.Common.{◌≡◌, ◌∙◌, ℕ, ◌+◌, sym, ap, subst, inl, inr, ⊎_elim, List, [], ◌∷◌, replicate, slice_index, ◌≢◌, ◌<◌, refl, Bool, true, false, ◌++◌, Some, length, set, slice_index_or}
use Rattle.std.specs.List.{All}
use Rattle.std.proofs.lemmas.Bool.{cases_eq, cases_lt}
use Rattle.std.proofs.lemmas.List.{get_or-replicate, get_or_past, length-replicate, get_or-set_same, get_or-set_other}
use Rattle.std.proofs.lemmas.List.Elements.{All-nil, All-cons, All-head, All-tail, All-push, All-pop, All-weaker}
use Rattle.ga_node.specs.Record.{NodeState, node_at_load_defaults}
use Rattle.ga_grid.specs.Chip.{default_node, node_at, chip_with_node}
use Rattle.ga_grid.specs.Grid.{default_chip, initial_p_of_node}
use Rattle.ga_grid.proofs.Chips.{node_at-default_chip, length-default_chip, node_at-with_node_other as stays}
use Rattle.ga_source.specs.declared.program.Program.{Program}
use Rattle.ga_source.specs.Cells.{IsUnusedCell, AreUnusedCellsZero}
use Rattle.ga_source.specs.Programs.{IsProgramLoaded, IsUnprogrammedNode, IsAssembledChip, given_register_value, value_or_previous, requests_have_cells, registers_at_load, KeepsFieldsThatSourceCannotGive, HasProgram}
use Rattle.ga_source.specs.inner.{HasProgramNodeBegun, AreProgramsLoaded}

-- each word of a memory at load is 0
word_at_load : (k : ℕ) → slice_index (replicate 64 0) k ≡ 0
word_at_load k = ⊎_elim (λ l. get_or-replicate 64 k 0 0 l) (λ l. get_or_past (replicate 64 0) k 0 (rw length-replicate l)) (cases_lt k 64)

fresh_ram : (p k : ℕ) → slice_index (node_at_load_defaults p).ram k ≡ 0
unfolding node_at_load_defaults
fresh_ram p k = word_at_load k

fresh_rom : (p k : ℕ) → slice_index (node_at_load_defaults p).rom k ≡ 0
unfolding node_at_load_defaults
fresh_rom p k = word_at_load k

-- what holds of each fresh node holds of each node of the chip at load
pub of_each_at_load : (P : NodeState → Type 0) → ((p : ℕ) → P (node_at_load_defaults p)) → (n : ℕ) → P (node_at default_chip n)
of_each_at_load P fresh n = ⊎_elim
    (λ l. subst P (sym (node_at-default_chip n l)) (fresh (initial_p_of_node n)))
    (λ l. subst P (sym (get_or_past default_chip n default_node (rw length-default_chip l))) (fresh 0))
    (cases_lt n 144)

-- the node is as at load but for what one of the programs named, or as at load
by_program : (chip : List NodeState) (n : ℕ) (Goal : NodeState → Type 0) (programs : List Program) → All (λ program. IsProgramLoaded chip program → program.node.number ≡ n → Goal (node_at chip program.node.number)) programs → All (IsProgramLoaded chip) programs → (IsUnprogrammedNode programs n → Goal (node_at chip n)) → Goal (node_at chip n)
by_program chip n Goal [] by each none = none (All-nil (λ program. program.node.number ≡ n → ⊥))
by_program chip n Goal (program ∷ rest) by each none = elim (cases_eq program.node.number n) [
  | inl e ↦ subst (λ k. Goal (node_at chip k)) e (All-head (λ p. IsProgramLoaded chip p → p.node.number ≡ n → Goal (node_at chip p.node.number)) program rest by (All-head (IsProgramLoaded chip) program rest each) e)
  | inr other ↦ by_program chip n Goal rest
      (All-tail (λ p. IsProgramLoaded chip p → p.node.number ≡ n → Goal (node_at chip p.node.number)) program rest by)
      (All-tail (IsProgramLoaded chip) program rest each)
      (λ unnamed. none (All-cons (λ p. p.node.number ≡ n → ⊥) program rest other unnamed))
]

empty_ram : (chip : List NodeState) (programs : List Program) → IsAssembledChip chip programs → (n k : ℕ) → IsUnusedCell programs n k → slice_index (node_at chip n).ram k ≡ 0
empty_ram chip programs all n k unasked = by_program chip n (λ node. slice_index node.ram k ≡ 0) programs
    (λ i d in_list loaded e. loaded.elsewhere.ram k (unasked i d in_list e) ∙ of_each_at_load (λ node. slice_index node.ram k ≡ 0) (λ p. fresh_ram p k) _)
    all.each
    (λ unnamed. ap (λ (node : NodeState). slice_index node.ram k) (all.rest n unnamed) ∙ of_each_at_load (λ node. slice_index node.ram k ≡ 0) (λ p. fresh_ram p k) n)

empty_rom : (chip : List NodeState) (programs : List Program) → IsAssembledChip chip programs → (n k : ℕ) → IsUnusedCell programs n (0x80 + k) → slice_index (node_at chip n).rom k ≡ 0
empty_rom chip programs all n k unasked = by_program chip n (λ node. slice_index node.rom k ≡ 0) programs
    (λ i d in_list loaded e. loaded.elsewhere.rom k (unasked i d in_list e) ∙ of_each_at_load (λ node. slice_index node.rom k ≡ 0) (λ p. fresh_rom p k) _)
    all.each
    (λ unnamed. ap (λ (node : NodeState). slice_index node.rom k) (all.rest n unnamed) ∙ of_each_at_load (λ node. slice_index node.rom k ≡ 0) (λ p. fresh_rom p k) n)

pub assembled_empty : (chip : List NodeState) (programs : List Program) → IsAssembledChip chip programs → AreUnusedCellsZero chip programs
assembled_empty chip programs all = record { ram = empty_ram chip programs all; rom = empty_rom chip programs all }

-- ---- one more node with its program

-- a program marked as begun is of another node than one that isn't
apart : (begun : List Bool) (n : ℕ) (program : Program) → slice_index_or begun n false ≡ false → HasProgramNodeBegun begun program → program.node.number ≢ n
apart begun n program fresh h = λ e. let two = ap (λ k. slice_index_or begun k false) e in cc

-- its mark stays where another node begins
stays_marked : (begun : List Bool) (n : ℕ) (program : Program) → slice_index_or begun n false ≡ false → HasProgramNodeBegun begun program → HasProgramNodeBegun (set begun n true) program
stays_marked begun n program fresh h = get_or-set_other begun n program.node.number true false (apart begun n program fresh h) ∙ h

-- a program stays loaded where another node changes
stays_loaded : (chip : List NodeState) (n : ℕ) (node : NodeState) (program : Program) → program.node.number ≢ n → IsProgramLoaded chip program → IsProgramLoaded (chip_with_node chip n node) program
stays_loaded chip n node program other h = subst (λ found. HasProgram (node_at default_chip program.node.number) found program) (sym (stays chip n program.node.number node other)) h

both : (chip : List NodeState) (begun : List Bool) (n : ℕ) (node : NodeState) (programs : List Program) → slice_index_or begun n false ≡ false → All (HasProgramNodeBegun begun) programs → All (IsProgramLoaded chip) programs → All (IsProgramLoaded (chip_with_node chip n node)) programs
both chip begun n node programs fresh marked each = λ k d in_list. stays_loaded chip n node (slice_index_or programs k d) (apart begun n (slice_index_or programs k d) fresh (marked k d in_list)) (each k d in_list)

-- the program is loaded into its node
loaded_here : (chip : List NodeState) (n : ℕ) (node : NodeState) (program : Program) → n < length chip → program.node.number ≡ n → node_at chip n ≡ node_at default_chip n → HasProgram (node_at chip n) node program → IsProgramLoaded (chip_with_node chip n node) program
loaded_here chip n node program in_chip is_n registers_at_load has =
    subst (λ k. HasProgram (node_at default_chip k) (node_at (chip_with_node chip n node) k) program) (sym is_n)
    (subst (λ found. HasProgram (node_at default_chip n) found program) (sym (get_or-set_same chip n node default_node in_chip))
    (subst (λ before. HasProgram before node program) registers_at_load has))

-- a node whose memories and registers were written keeps all else
kept_of : (before after : NodeState) (ram rom : List ℕ) (p a b : ℕ) → after ≡ record before { ram = ram; rom = rom; p = p; a = a; b = b } → KeepsFieldsThatSourceCannotGive before after
kept_of before after ram rom p a b e = subst (λ node. KeepsFieldsThatSourceCannotGive before node) (sym e) refl

kept_by : (before after : NodeState) (program : Program) → HasProgram before after program → KeepsFieldsThatSourceCannotGive before after
kept_by before after program has =
    let labels = program.labels.items in
    let registers = registers_at_load program.registers program.names.items (requests_have_cells program.asked.items) in
    kept_of before after after.ram after.rom (value_or_previous (given_register_value labels registers.p) before.p) (value_or_previous (given_register_value labels registers.a) before.a)
    (value_or_previous (given_register_value labels registers.b) before.b) has.rest

kept_here : (chip : List NodeState) (n : ℕ) (node : NodeState) (program : Program) → n < length chip → node_at chip n ≡ node_at default_chip n → HasProgram (node_at chip n) node program → KeepsFieldsThatSourceCannotGive (node_at default_chip n) (node_at (chip_with_node chip n node) n)
kept_here chip n node program in_chip registers_at_load has =
    subst (λ found. KeepsFieldsThatSourceCannotGive (node_at default_chip n) found) (sym (get_or-set_same chip n node default_node in_chip))
    (kept_by (node_at default_chip n) node program (subst (λ before. HasProgram before node program) registers_at_load has))

-- each program, and the one that is loaded into a node where none was
pub one_more : (chip : List NodeState) (begun : List Bool) (programs : List Program) (n : ℕ) (node : NodeState) (program : Program) → n < length chip → n < length begun → slice_index_or begun n false ≡ false → AreProgramsLoaded chip begun programs → program.node.number ≡ n → HasProgram (node_at chip n) node program → AreProgramsLoaded (chip_with_node chip n node) (set begun n true) (programs ++ program ∷ [])
one_more chip begun programs n node program in_chip in_begun fresh all is_n has =
    let others : IsUnprogrammedNode programs n = All-weaker (HasProgramNodeBegun begun) (λ p. p.node.number ≢ n) (λ p h. apart begun n p fresh h) programs all.marked in
    let registers_at_load : node_at chip n ≡ node_at default_chip n = all.assembled.rest n others in
    record {
      marked = All-push (HasProgramNodeBegun (set begun n true)) programs program
          (All-weaker (HasProgramNodeBegun begun) (HasProgramNodeBegun (set begun n true)) (λ p h. stays_marked begun n p fresh h) programs all.marked)
          (ap (λ k. slice_index_or (set begun n true) k false) is_n ∙ get_or-set_same begun n true false in_begun);
      assembled = record {
        each = All-push (IsProgramLoaded (chip_with_node chip n node)) programs program
            (both chip begun n node programs fresh all.marked all.assembled.each)
            (loaded_here chip n node program in_chip is_n registers_at_load has);
        rest = λ k unnamed.
            let parts = All-pop (λ p. p.node.number ≢ k) (programs ++ program ∷ []) programs (Some program) refl unnamed in
            stays chip n k node (λ e. parts.1 (is_n ∙ sym e)) ∙ all.assembled.rest k parts.0;
        state = λ k. elim (cases_eq k n) [
          | inl e ↦ subst (λ j. KeepsFieldsThatSourceCannotGive (node_at default_chip j) (node_at (chip_with_node chip n node) j)) (sym e)
              (kept_here chip n node program in_chip registers_at_load has)
          | inr other ↦ subst (λ found. KeepsFieldsThatSourceCannotGive (node_at default_chip k) found) (sym (stays chip n k node other)) (all.assembled.state k)
        ];
      };
    }

-- the same with the node's number as an index, and the programs as they are then
pub one_more_at : (chip : List NodeState) (begun : List Bool) (programs after : List Program) (n i : ℕ) (node : NodeState) (program : Program) → n < length chip → n < length begun → i ≡ n → after ≡ programs ++ program ∷ [] → slice_index_or begun n false ≡ false → AreProgramsLoaded chip begun programs → program.node.number ≡ n → HasProgram (node_at chip n) node program → AreProgramsLoaded (chip_with_node chip n node) (set begun i true) after
one_more_at chip begun programs after n i node program in_chip in_begun is_n pushed fresh all named has =
    subst (λ j. AreProgramsLoaded (chip_with_node chip n node) (set begun j true) after) (sym is_n)
    (subst (λ list. AreProgramsLoaded (chip_with_node chip n node) (set begun n true) list) (sym pushed)
    (one_more chip begun programs n node program in_chip in_begun fresh all named has))
