use Rattle.std.proofs.Common.{◌≡◌, length}
use Rattle.ga_explorer.specs.Front.{has_end_line}
use Rattle.ga_explorer.proofs.preload.has_end_line.Given as goal

abbrev pub invariant-bytes : goal.invariant-bytes
invariant-bytes l = has_end_line l.rest ≡ has_end_line l.text

abbrev pub decreases-bytes : goal.decreases-bytes
decreases-bytes l = length l.rest
