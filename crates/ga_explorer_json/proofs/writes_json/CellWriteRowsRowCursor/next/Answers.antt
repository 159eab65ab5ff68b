use Rattle.std.proofs.Common.{◌≡◌, suc, ap, sym, ◌∙◌, arith}
use Rattle.ga_provenance.specs.Writes.{CellWriteSearch}
use Rattle.ga_json.specs.Values.{item}
use Rattle.ga_explorer_json.specs.Writes.{cell_write_json, cell_write_rows}
use Rattle.ga_explorer_json.proofs.Writes.{next_write, no_write}
use Rattle.ga_explorer_json.proofs.writes_json.CellWriteRowsRowCursor.next.Goals as goal

pub returns-in-Some : goal.returns-in-Some
returns-in-Some c =
    let old = c.args.self.now.writes in
    let new = c.next.new.self in
    let written = c.in-Some.written in
    let before : suc new.step ≡ written.step = omega (arith, c.in-Some.ensures.step) in record {
      row = next_write old.machine old.node.number old.cell old.step new.step written c.in-Some.ensures.value before
          ∙ ap (λ (w : CellWriteSearch). item (cell_write_json written) (cell_write_rows w.machine w.node.number w.cell w.step)) (sym c.in-Some.ensures.same)
          ∙ ap (λ z. item z (cell_write_rows new.machine new.node.number new.cell new.step)) (sym c.cell_write_row.ensures);
    }

pub returns-in-None : goal.returns-in-None
returns-in-None c =
    let old = c.args.self.now.writes in record {
      row = no_write old.machine old.node.number old.cell old.step c.in-None.ensures.value;
    }
