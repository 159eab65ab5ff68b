use Rattle.std.proofs.Common.{◌≡◌, ◌≤◌, ◌*◌, ◌/◌, ◌%◌}
use Rattle.ga_debug_info.specs.Source.{result_at_nearest_place}
use Rattle.ga_dap_views.specs.Labels.{label_index_of_cell}
use Rattle.ga_dap_views.proofs.labels.place_near.Given as goal

abbrev pub invariant-looking : goal.invariant-looking
invariant-looking l = record {
  low : l.behind ≤ l.cell % 64;
  same : result_at_nearest_place (label_index_of_cell l.names l.node) (l.cell / 64 * 64) l.behind ≡ result_at_nearest_place (label_index_of_cell l.names l.node) (l.cell / 64 * 64) (l.cell % 64);
}

abbrev pub decreases-looking : goal.decreases-looking
decreases-looking l = l.behind
