use Rattle.ga_asm_text.specs.inner.{fault_lines_left, IsListingExtended}
use Rattle.ga_asm_text.proofs.program_listing.push_labels.Given as goal

abbrev pub invariant-loop-asked : goal.invariant-loop-asked
invariant-loop-asked l = IsListingExtended l.fn.text.items l.text.items (fault_lines_left l.fn.lines) (fault_lines_left l.lines)
