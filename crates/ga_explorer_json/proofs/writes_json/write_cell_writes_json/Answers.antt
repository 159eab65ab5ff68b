use Rattle.std.proofs.Common.{◌≡◌, ◌%◌, false, ap, ◌∙◌, arith}
use Rattle.std.specs.Prelude.{nat_lt}
use Rattle.std.proofs.lemmas.Bool.{lt-ltb}
use Rattle.std.proofs.lemmas.Bool.Decides.{nat_tests}
use Rattle.ga_event.specs.Told.{count_steps}
use Rattle.ga_provenance.specs.Writes.{CellWriteSearch}
use Rattle.ga_json.specs.Values.{no_items}
use Rattle.ga_explorer_json.specs.Writes.{cell_write_rows, cell_writes_head_fields, cell_writes_answer_rows}
use Rattle.ga_explorer_json.proofs.Writing.{report_as, items_by_true, items_by_false}
use Rattle.ga_explorer_json.proofs.writes_json.write_cell_writes_json.Goals as goal

pub returns-then-address-lt128 : goal.returns-then-address-lt128
returns-then-address-lt128 g c =
    let s = c.args.lab.now in
    let node = c.args.node in
    let address = c.args.address in
    let w = c.new.result in
    let rows = cell_write_rows s node.number (address % 64) (count_steps node.number s.kept) in
    report_as g.W.Write.contents c.write_report.result c.args.writer.now c.write_report.new.writer c.cell_writes_head_fields-head.result
    (cell_writes_head_fields node address) (cell_write_rows w.machine w.node.number w.cell w.step) (cell_writes_answer_rows s node address) c.cell_writes_head_fields-head.ensures
    (ap (λ (z : CellWriteSearch). cell_write_rows z.machine z.node.number z.cell z.step) c.new.ensures
    ∙ items_by_true (nat_lt address 128) rows no_items (lt-ltb address 128 c.if-address-lt128.true))
    c.write_report.ensures

pub returns-else-address-lt128 : goal.returns-else-address-lt128
returns-else-address-lt128 g c =
    let s = c.args.lab.now in
    let node = c.args.node in
    let address = c.args.address in
    let rows = cell_write_rows s node.number (address % 64) (count_steps node.number s.kept) in
    let test : nat_lt address 128 ≡ false = grind (arith, nat_tests, c.if-address-lt128.false) in
    report_as g.W.Write.contents c.write_report-else-address-lt128.result c.args.writer.now c.write_report-else-address-lt128.new.writer c.cell_writes_head_fields-head.result
    (cell_writes_head_fields node address) no_items (cell_writes_answer_rows s node address) c.cell_writes_head_fields-head.ensures (items_by_false (nat_lt address 128) rows no_items test)
    c.write_report-else-address-lt128.ensures
