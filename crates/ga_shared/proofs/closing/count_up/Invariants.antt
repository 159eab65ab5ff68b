use Rattle.std.proofs.Common.{◌≡◌, ◌+◌, vec_len, sum_by}
use Rattle.ga_shared.specs.Log.{Worker}
use Rattle.ga_shared.proofs.closing.count_up.Given as goal

abbrev pub invariant-loop-seat : goal.invariant-loop-seat
invariant-loop-seat g l = record {
  parts : l.total.parts + vec_len l.seats ≡ vec_len l.fn.seats;
  calls : l.total.amount + sum_by (λ (s : Worker). s.calls) l.seats.items ≡ sum_by (λ (s : Worker). s.calls) l.fn.seats.items;
}

abbrev pub decreases-loop-seat : goal.decreases-loop-seat
decreases-loop-seat g l = vec_len l.seats
