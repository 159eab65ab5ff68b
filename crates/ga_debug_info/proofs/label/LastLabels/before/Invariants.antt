use Rattle.std.proofs.Common.{◌≡◌, ◌≤◌, ◌*◌, ◌/◌, ◌%◌}
use Rattle.ga_debug_info.specs.Source.{result_at_nearest_place}
use Rattle.ga_debug_info.specs.inner.{label_at_cell}
use Rattle.ga_debug_info.proofs.label.LastLabels.before.Given as goal

abbrev pub invariant-loop-behind : goal.invariant-loop-behind
invariant-loop-behind l = record {
  first : l.first ≡ l.cell / 64 * 64;
  low : l.behind ≤ l.cell % 64;
  same : result_at_nearest_place (label_at_cell l.self.labels) l.first l.behind ≡ result_at_nearest_place (label_at_cell l.self.labels) l.first (l.cell % 64);
}

abbrev pub decreases-loop-behind : goal.decreases-loop-behind
decreases-loop-behind l = l.behind
