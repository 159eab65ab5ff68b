-- What holds of each number below eight.
use Rattle.std.proofs.Common.{ℕ, zero, suc, ◌<◌, arith}

-- what holds of 0 to 7 holds of each number below 8
pub each_below : (P : ℕ → Type 0) → P 0 → P 1 → P 2 → P 3 → P 4 → P 5 → P 6 → P 7 → (n : ℕ) → n < 8 → P n
each_below P a b c d e f g h zero below = a
each_below P a b c d e f g h (suc zero) below = b
each_below P a b c d e f g h (suc (suc zero)) below = c
each_below P a b c d e f g h (suc (suc (suc zero))) below = d
each_below P a b c d e f g h (suc (suc (suc (suc zero)))) below = e
each_below P a b c d e f g h (suc (suc (suc (suc (suc zero))))) below = f
each_below P a b c d e f g h (suc (suc (suc (suc (suc (suc zero)))))) below = g
each_below P a b c d e f g h (suc (suc (suc (suc (suc (suc (suc zero))))))) below = h
each_below P a b c d e f g h (suc (suc (suc (suc (suc (suc (suc (suc n)))))))) below = absurd (omega arith)
