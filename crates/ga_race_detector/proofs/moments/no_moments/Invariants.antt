use Rattle.std.proofs.Common.{◌≡◌, length}
use Rattle.ga_race_detector.proofs.moments.no_moments.Given as goal

abbrev pub invariant-many : goal.invariant-many
invariant-many l = length l.list.items ≡ l._place
