use Rattle.ga_asm_text.specs.inner.{AddsBytesWithinLastLine}
use Rattle.ga_asm_text.proofs.disassembly.push_remark.Given as goal

abbrev pub invariant-loop-byte : goal.invariant-loop-byte
invariant-loop-byte l = AddsBytesWithinLastLine l.byte-index l.fn.text.items l.text.items
