use Rattle.std.proofs.Common.{ℕ, ◌≡◌, List, ◌++◌, length}
use Rattle.ga_text.specs.Output.{IsTextWrittenOrPending}
use Rattle.ga_text.proofs.output.Writer.write_blocks.Given as goal

-- what was written so far is a prefix of the text
abbrev pub invariant-pieces : goal.invariant-pieces
invariant-pieces g l = (l.self.stream.ghost_name ≡ l.fn.self.stream.ghost_name)
    × ((before said : List ℕ) → IsTextWrittenOrPending (g.W.Write.contents l.fn.self.stream.now) before said l.fn.self.pending.items
    → (done : List ℕ) × (l.fn.text ≡ done ++ l.rest) × IsTextWrittenOrPending (g.W.Write.contents l.self.stream.now) before (said ++ done) l.self.pending.items)

abbrev pub decreases-pieces : goal.decreases-pieces
decreases-pieces g l = length l.rest
