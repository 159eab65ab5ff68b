use Rattle.ga_asm_text.proofs.NodeTexts.{IsSaid}
use Rattle.ga_asm_text.proofs.disassembly.source_of.Given as goal

abbrev pub invariant-loop-number : goal.invariant-loop-number
invariant-loop-number l = IsSaid l.fn.chip l.text.items l.number
