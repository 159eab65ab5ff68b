-- What only private contracts and proofs name.
use Rattle.std.specs.Prelude.{◌≡◌, ◌<◌, ℕ, List, Option, None, slice_index_or}
use Rattle.ga_source.specs.declared.program.Program.{Program}
use Rattle.ga_debug_info.specs.Source.{last_marked_label}

-- ---- the labels that stand last at the cells of a node, as they are noted

-- the label at a cell
abbrev pub label_at_cell : List (Option ℕ) → ℕ → Option ℕ
label_at_cell labels cell = slice_index_or labels cell None

-- of each cell the label is noted that the program's requests mark last there
pub record AreLastLabelsOfCells (program : Program) (labels : List (Option ℕ)) : Type 0 where
  pub last : (cell : ℕ) → cell < 192 → label_at_cell labels cell ≡ last_marked_label program cell program.asked.items
