use Rattle.std.proofs.Common.{◌-◌, ◌++◌, List, ℕ, ap, arith, rules}
use Rattle.ga_explorer_text.specs.Texts.{chip_rows_text}
use Rattle.ga_explorer_text.proofs.Rows.{next_row, all_rows}
use Rattle.ga_explorer_text.proofs.chip_text.chip_overview.Goals as goal

pub rows-init : goal.rows-init
rows-init c = record {
  row = search rules;
  len = search rules;
  text = ap (λ (z : List ℕ). z ++ chip_rows_text c.args.lab.now 8) c.new-out.ensures;
}

pub rows-preserved : goal.rows-preserved
rows-preserved c = record {
  row = omega (arith, c.rows-test.true, c.rows.invariant.row);
  len = omega (arith, c.rows-test.true, c.push_row.ensures.len, c.rows.invariant.len);
  text = next_row c.args.lab.now c.rows.row (c.rows.row - 1) c.rows.out.items c.push_row.new.out.items _
      (omega (arith, c.rows-test.true)) c.push_row.ensures.text c.rows.invariant.text;
}

pub returns : goal.returns
returns c = all_rows c.args.lab.now c.rows.row c.rows.out.items _ (omega (arith, c.rows-test.false)) c.rows.invariant.text
