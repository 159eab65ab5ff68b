use Rattle.std.proofs.Common.{◌≡◌, ℕ, ◌+◌, ◌-◌, ◌*◌, List, ◌++◌, length, Some}
use Rattle.ga_text.specs.Input.{IsWithinInputLimit}
use Rattle.ga_text.proofs.TextLemmas.{Body}
use Rattle.ga_text.proofs.image.read_image.Given as goal

abbrev pub invariant-parts : goal.invariant-parts
invariant-parts g l = record {
  within : IsWithinInputLimit l.input;
  body : Body l.text.items l.start;
  counts : l.input.taken ≡ l.fn.input.taken + length l.text.items;
  known : (left : List ℕ) → g.R.Read.remaining l.fn.reader ≡ Some left →
      (rest : List ℕ) × (g.R.Read.remaining l.reader ≡ Some rest) × (l.fn.input.bytes ++ left ≡ l.text.items ++ (l.input.bytes ++ rest));
}

-- what may still be read counts twice, what was read once
abbrev pub decreases-parts : goal.decreases-parts
decreases-parts g l = 2 * (16777216 - l.input.taken) - length l.input.bytes
