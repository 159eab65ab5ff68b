use Rattle.std.proofs.Common.{◌≡◌, ◌+◌, ◌<◌, ℕ, vec_len, Some}
use Rattle.std.specs.Prelude.{slice_get}
use Rattle.ga_shared.specs.Log.{fresh_worker}
use Rattle.ga_shared.proofs.shared.SharedLab.new.Given as goal

abbrev pub invariant-loop-number : goal.invariant-loop-number
invariant-loop-number g l = record {
  parts : l.rest.parts + l.number ≡ l.fn.workers;
  amount : l.rest.amount ≡ 0;
  size : vec_len l.seats ≡ l.number;
  fresh : (w : ℕ) → w < l.number → slice_get l.seats.items w ≡ Some (fresh_worker w);
}
