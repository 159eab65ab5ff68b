use Rattle.ga_asm_text.proofs.Cells.{IsSoFar}
use Rattle.ga_asm_text.proofs.disassembly.push_ram.Given as goal

abbrev pub invariant-loop-cell : goal.invariant-loop-cell
invariant-loop-cell l = IsSoFar 0 0 l.fn.node.ram l.fn.text.items l.text.items l.cell l.next
