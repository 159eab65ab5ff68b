use Rattle.std.proofs.Common.{◌≡◌, ◌<◌, ℕ, ◌==◌, count_by}
use Rattle.ga_shared.specs.Log.{Worker}
use Rattle.ga_shared.proofs.closing.are_seated.Given as goal

abbrev pub invariant-loop-number : goal.invariant-loop-number
invariant-loop-number g l = (w : ℕ) → w < l.number → count_by (λ (s : Worker). s.number == w) l.seats ≡ 1
