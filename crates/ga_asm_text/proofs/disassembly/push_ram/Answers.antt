use Rattle.std.proofs.Common.{arith}
use Rattle.ga_asm_text.proofs.Cells.{cells_none, cells_more, cells_added, cells_behind, cells_fit}
use Rattle.ga_asm_text.proofs.disassembly.push_ram.Goals as goal

pub loop-cell-init : goal.loop-cell-init
loop-cell-init c = cells_none 0 0 c.args.node.now.ram c.args.text.now.items

pub loop-cell-preserved : goal.loop-cell-preserved
loop-cell-preserved c =
    cells_more 0 0 c.args.node.now.ram c.args.text.now.items c.loop-cell.text.items c.push_word.new.text.items c.loop-cell.cell c.loop-cell.next
    c.from.result c.get.result c.in_ok-next.next c.get.ensures.size c.loop-cell-test.true (omega (arith, c.from.ensures)) c.get.ensures.value c.get.ensures.in_range.1
    c.in_ok-next.ensures.next c.in_ok-next.ensures.says c.loop-cell.invariant

pub returns-clause-says : goal.returns-clause-says
returns-clause-says c = cells_added 0 0 c.args.node.now.ram c.args.text.now.items c.loop-cell.text.items c.loop-cell.cell c.loop-cell.next (omega (arith, c.loop-cell-test.false)) c.loop-cell.invariant

pub returns-clause-next : goal.returns-clause-next
returns-clause-next c = cells_behind 0 0 c.args.node.now.ram c.args.text.now.items c.loop-cell.text.items c.loop-cell.cell c.loop-cell.next (omega (arith, c.loop-cell-test.false)) c.loop-cell.invariant

pub returns-clause-fit : goal.returns-clause-fit
returns-clause-fit c = cells_fit 0 0 c.args.node.now.ram c.args.text.now.items c.loop-cell.text.items c.loop-cell.cell c.loop-cell.next (omega (arith, c.loop-cell-test.false)) c.loop-cell.invariant
