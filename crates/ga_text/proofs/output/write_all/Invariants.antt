use Rattle.std.proofs.Common.{ℕ, List, length}
use Rattle.ga_text.specs.Output.{IsTextWrittenOrPending}
use Rattle.ga_text.proofs.output.write_all.Given as goal

abbrev pub invariant-bytes : goal.invariant-bytes
invariant-bytes g l = (before said : List ℕ) → IsTextWrittenOrPending (g.W.Write.contents l.fn.writer) before said l.fn.text → IsTextWrittenOrPending (g.W.Write.contents l.writer) before said l.rest

abbrev pub decreases-bytes : goal.decreases-bytes
decreases-bytes g l = length l.rest
