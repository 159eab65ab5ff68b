use Rattle.std.proofs.Common.{◌≡◌, ℕ, ◌+◌, ◌-◌, ◌≤◌, List, ◌++◌, length, Some}
use Rattle.ga_text.specs.Input.{IsWithinInputLimit, HoldsLinePartUpToLimit}
use Rattle.ga_text.specs.Output.{IsTextWrittenOrPending}
use Rattle.ga_text.proofs.lines.read_line.Given as goal

-- what was taken so far holds no line feed
abbrev pub invariant-parts : goal.invariant-parts
invariant-parts g l = record {
  within : IsWithinInputLimit l.input;
  goes_on : l.fn.input.taken ≤ l.input.taken;
  part : (left : List ℕ) → g.R.Read.remaining l.fn.reader ≡ Some left →
      (part : List ℕ) × (rest : List ℕ) × (g.R.Read.remaining l.reader ≡ Some rest)
      × HoldsLinePartUpToLimit (l.fn.input.bytes ++ left) l.line.items part (l.input.bytes ++ rest)
      × (l.input.taken ≡ l.fn.input.taken + length part);
  same : l.writer.stream.ghost_name ≡ l.fn.writer.stream.ghost_name;
  said : (before said : List ℕ) → IsTextWrittenOrPending (g.W.Write.contents l.fn.writer.stream.now) before said l.fn.writer.pending.items
      → IsTextWrittenOrPending (g.W.Write.contents l.writer.stream.now) before said l.writer.pending.items;
}

-- how many bytes may still be read
abbrev pub decreases-parts : goal.decreases-parts
decreases-parts g l = 16777216 - (l.input.taken + length l.input.bytes)
