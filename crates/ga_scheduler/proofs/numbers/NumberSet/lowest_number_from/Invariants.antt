use Rattle.std.proofs.Common.{◌≡◌, ℕ, ◌+◌, ◌*◌, ◌<◌, ◌≤◌, false}
use Rattle.ga_scheduler.specs.inner.{is_number_in_set}
use Rattle.ga_scheduler.proofs.numbers.NumberSet.lowest_number_from.Given as goal

abbrev pub invariant-loop-index : goal.invariant-loop-index
invariant-loop-index l = record {
  place : l.from < 64;
  reach : l.first ≤ 64 * l.index + l.from;
  before : (m : ℕ) → l.first ≤ m → m < 64 * l.index + l.from → is_number_in_set l.self m ≡ false;
}
