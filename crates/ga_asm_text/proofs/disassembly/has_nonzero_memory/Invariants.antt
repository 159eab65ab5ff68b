use Rattle.ga_asm_text.proofs.Cells.{IsLooking}
use Rattle.ga_asm_text.proofs.disassembly.has_nonzero_memory.Given as goal

abbrev pub invariant-loop-cell : goal.invariant-loop-cell
invariant-loop-cell l = record { ram : IsLooking l.fn.node.ram l.cell; rom : IsLooking l.fn.node.rom l.cell }
