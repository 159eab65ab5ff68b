use Rattle.std.proofs.Common.{◌≡◌, ◌≤◌, max, drop, length}
use Rattle.ga_scheduler.specs.inner.{longest_held_prefix_length}
use Rattle.ga_scheduler.proofs.reverse_search.find_newest_matching_event.Given as goal

abbrev pub invariant-conditions : goal.invariant-conditions
invariant-conditions l = record {
  within : l.upto ≤ length l.lab.kept;
  same : max l.upto (longest_held_prefix_length (drop l.condition-index l.until) l.only l.lab (length l.lab.kept)) ≡ longest_held_prefix_length l.until l.only l.lab (length l.lab.kept);
}
