use Rattle.std.proofs.Common.{◌≡◌, ◌++◌, length}
use Rattle.std.specs.Prelude.{None}
use Rattle.ga_text.specs.Lines.{lines_of_text}
use Rattle.ga_image.specs.Given.{ranges_given_by_lines}
use Rattle.ga_image.proofs.given.ranges_given_by_lines.Given as goal

abbrev pub invariant-loop-rest : goal.invariant-loop-rest
invariant-loop-rest l = l.ranges.items ++ ranges_given_by_lines l.node (lines_of_text l.rest) ≡ ranges_given_by_lines None (lines_of_text l.fn.text)

abbrev pub decreases-loop-rest : goal.decreases-loop-rest
decreases-loop-rest l = length l.rest
