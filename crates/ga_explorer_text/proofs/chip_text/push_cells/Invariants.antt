use Rattle.std.proofs.Common.{◌≡◌, ◌+◌, ◌*◌, ◌-◌, ◌≤◌, ◌++◌}
use Rattle.arrayvec.specs.ArrayVec.{array_vec_len}
use Rattle.ga_explorer_text.specs.Texts.{node_symbols_text}
use Rattle.ga_explorer_text.proofs.chip_text.push_cells.Given as goal

abbrev pub invariant-cells : goal.invariant-cells
invariant-cells l = record {
  column : l.column ≤ 18;
  len : array_vec_len l.out ≡ array_vec_len l.fn.out + 3 * l.column;
  text : l.out.items ++ node_symbols_text l.lab (l.first + l.column) (18 - l.column) ≡ l.fn.out.items ++ node_symbols_text l.lab l.first 18;
}

abbrev pub decreases-cells : goal.decreases-cells
decreases-cells l = 18 - l.column
