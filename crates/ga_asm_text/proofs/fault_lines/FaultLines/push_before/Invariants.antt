use Rattle.std.proofs.Common.{length, ◌-◌}
use Rattle.ga_asm_text.specs.inner.{fault_lines_left, IsListingExtended}
use Rattle.ga_asm_text.proofs.fault_lines.FaultLines.push_before.Given as goal

abbrev pub invariant-loop-self : goal.invariant-loop-self
invariant-loop-self l = IsListingExtended l.fn.text.items l.text.items (fault_lines_left l.fn.self) (fault_lines_left l.self)

abbrev pub decreases-loop-self : goal.decreases-loop-self
decreases-loop-self l = length l.self.faults.items - l.self.told
