use Rattle.std.proofs.Common.{◌≡◌, ◌+◌, ◌<◌, ◌≤◌, ℕ, vec_len, map, true, Some}
use Rattle.std.specs.Prelude.{slice_get, vec_capacity}
use Rattle.ga_shared.specs.Log.{Worker, fresh_worker}
use Rattle.ga_shared.specs.inner.{HasWorkerMadeListedCalls}
use Rattle.ga_shared.proofs.racing.run_all.Given as goal

abbrev pub invariant-loop-seat : goal.invariant-loop-seat
invariant-loop-seat g l = record {
  size : vec_len l.seats + vec_len l.threads ≡ vec_len l.lists;
  room : vec_len l.lists ≤ vec_capacity l.threads;
  fresh : (w : ℕ) → w < vec_len l.seats → slice_get l.seats.items w ≡ Some (fresh_worker w);
  promised : (k : ℕ) (t : _) → slice_get l.threads.items k ≡ Some t → (t.promise.worker + k + 1 ≡ vec_len l.lists) × (t.promise.lists.value ≡ l.lists);
}

abbrev pub decreases-loop-seat : goal.decreases-loop-seat
decreases-loop-seat g l = vec_len l.seats

abbrev pub invariant-loop-thread : goal.invariant-loop-thread
invariant-loop-thread g l = record {
  size : vec_len l.threads + vec_len l.back ≡ vec_len l.lists;
  room : vec_len l.lists ≤ vec_capacity l.back;
  promised : (k : ℕ) (t : _) → slice_get l.threads.items k ≡ Some t → (t.promise.worker + k + 1 ≡ vec_len l.lists) × (t.promise.lists.value ≡ l.lists);
  numbered : (w : ℕ) (s : Worker) → slice_get l.back.items w ≡ Some s → s.number ≡ w;
  done : l.is_whole ≡ true → (w : ℕ) (s : Worker) → slice_get l.back.items w ≡ Some s → HasWorkerMadeListedCalls (map (λ v. v.items) l.lists.items) s;
}

abbrev pub decreases-loop-thread : goal.decreases-loop-thread
decreases-loop-thread g l = vec_len l.threads
