use Rattle.std.proofs.Common.{◌≡◌, vec_len}
use Rattle.ga_tests.proofs.shared.after_four.Given as goal

abbrev pub invariant-loop-place : goal.invariant-loop-place
invariant-loop-place g l = vec_len l.seats ≡ 2
