use Rattle.ga_asm_text.specs.inner.{IsTextExtended}
use Rattle.ga_asm_text.proofs.program_listing.push_literals.Given as goal

abbrev pub invariant-loop-item : goal.invariant-loop-item
invariant-loop-item l = IsTextExtended l.fn.text.items l.text.items
