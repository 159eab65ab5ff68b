use Rattle.std.proofs.Common.{◌+◌, ◌-◌, arith, rules}
use Rattle.ga_explorer_text.proofs.Rows.{same_cells, next_cell, all_cells}
use Rattle.ga_explorer_text.proofs.chip_text.push_cells.Goals as goal

pub cells-init : goal.cells-init
cells-init c = record {
  column = search rules;
  len = omega arith;
  text = same_cells c.args.lab.now c.args.first (c.args.first + 0) (18 - 0) 18 c.args.out.now.items (omega arith) (omega arith);
}

pub cells-preserved : goal.cells-preserved
cells-preserved c = record {
  column = omega (arith, c.cells-test.true);
  len = omega (arith, c.push_cell.ensures.len, c.cells.invariant.len);
  text = next_cell c.args.lab.now (c.args.first + c.cells.column) (c.args.first + (c.cells.column + 1)) (18 - c.cells.column) (18 - (c.cells.column + 1))
      c.cells.out.items c.push_cell.new.out.items _ (omega arith) (omega (arith, c.cells-test.true)) c.push_cell.ensures.text c.cells.invariant.text;
}

pub returns-clause-text : goal.returns-clause-text
returns-clause-text c =
    all_cells c.args.lab.now (c.args.first + c.cells.column) (18 - c.cells.column) c.cells.out.items _
    (omega (arith, c.cells-test.false, c.cells.invariant.column)) c.cells.invariant.text
