use Rattle.std.proofs.Common.{◌≡◌, ◌+◌, ◌*◌, ◌≤◌, ◌++◌}
use Rattle.arrayvec.specs.ArrayVec.{array_vec_len}
use Rattle.ga_explorer_text.specs.Texts.{chip_rows_text}
use Rattle.ga_explorer_text.proofs.chip_text.chip_overview.Given as goal

abbrev pub invariant-rows : goal.invariant-rows
invariant-rows l = record {
  row : l.row ≤ 8;
  len : array_vec_len l.out + 56 * l.row ≡ 448;
  text : l.out.items ++ chip_rows_text l.lab l.row ≡ chip_rows_text l.lab 8;
}

abbrev pub decreases-rows : goal.decreases-rows
decreases-rows l = l.row
