use Rattle.std.proofs.Common.{◌≡◌, ◌<◌, ◌≤◌, max, ℕ, length, get_or}
use Rattle.ga_race_detector.proofs.left.fill.Given as goal

abbrev pub invariant-fill : goal.invariant-fill
invariant-fill l = record {
  size : length l.list.items ≡ l._place;
  from : length l.fn.list.items ≤ l._place;
  most : l._place ≤ max (length l.fn.list.items) l.to;
  same : (k : ℕ) → k < length l.fn.list.items → get_or l.list.items k 0 ≡ get_or l.fn.list.items k 0;
  more : (k : ℕ) → length l.fn.list.items ≤ k → k < length l.list.items → get_or l.list.items k 0 ≡ l.number;
}
