use Rattle.std.proofs.Common.{◌≡◌, ◌<◌, ℕ, map, vec_len, Some}
use Rattle.std.specs.Prelude.{All, slice_get}
use Rattle.ga_console.specs.Race.{worker_calls}
use Rattle.ga_console.proofs.race.lists_of.Given as goal

abbrev pub invariant-loop-worker : goal.invariant-loop-worker
invariant-loop-worker l = record {
  size : vec_len l.lists ≡ l.worker;
  lists : (w : ℕ) → w < l.worker → slice_get (map (λ v. v.items) l.lists.items) w ≡ Some (worker_calls w l.calls);
  short : All (λ v. vec_len v ≡ l.calls) l.lists.items;
}
