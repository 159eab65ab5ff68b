use Rattle.std.proofs.Common.{◌≡◌, drop}
use Rattle.ga_parser.specs.Saying.{source_lines}
use Rattle.ga_debug_info.proofs.line.behind_lines.Given as goal

abbrev pub invariant-loop-left : goal.invariant-loop-left
invariant-loop-left l = drop l.left (source_lines l.rest) ≡ drop l.count (source_lines l.text)

abbrev pub decreases-loop-left : goal.decreases-loop-left
decreases-loop-left l = l.left
