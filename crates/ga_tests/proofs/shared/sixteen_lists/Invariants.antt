use Rattle.std.proofs.Common.{◌≡◌, ◌<◌, ◌^◌, All, vec_len}
use Rattle.ga_tests.proofs.shared.sixteen_lists.Given as goal

abbrev pub invariant-loop-worker : goal.invariant-loop-worker
invariant-loop-worker l = (vec_len l.lists ≡ l.worker) × All (λ a. vec_len a < 2 ^ 32) l.lists.items
