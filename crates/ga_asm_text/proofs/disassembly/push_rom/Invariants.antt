use Rattle.ga_asm_text.proofs.Cells.{IsSoFar}
use Rattle.ga_asm_text.proofs.disassembly.push_rom.Given as goal

abbrev pub invariant-loop-cell : goal.invariant-loop-cell
invariant-loop-cell l = IsSoFar 0x80 l.fn.behind l.fn.node.rom l.fn.text.items l.text.items l.cell l.next
