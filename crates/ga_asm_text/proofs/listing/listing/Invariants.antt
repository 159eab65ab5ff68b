use Rattle.std.proofs.Common.{[]}
use Rattle.ga_asm_text.specs.inner.{fault_lines_left, IsListingExtended}
use Rattle.ga_asm_text.proofs.listing.listing.Given as goal

abbrev pub invariant-loop-program : goal.invariant-loop-program
invariant-loop-program l = IsListingExtended [] l.text.items (fault_lines_left l.fn.lines) (fault_lines_left l.lines)
