use Rattle.std.proofs.Common.{◌≡◌, ℕ, zero, suc, replicate, get_or, refl}
use Rattle.ga_race_detector.proofs.left.Depths.none.Goals as goal

zeros : (k n : ℕ) → ◌≡◌ {A = ℕ} (get_or (replicate k 0) n 0) 0
zeros zero n = refl
zeros (suc k) zero = refl
zeros (suc k) (suc n) = zeros k n

pub returns : goal.returns
returns c n = zeros 144 n
