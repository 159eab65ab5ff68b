use Rattle.std.proofs.Common.{◌≡◌, ◌≤◌, ◌-◌, map}
use Rattle.std.specs.List.{range_with_len}
use Rattle.serde_json.specs.View.{view}
use Rattle.ga_dap_views.specs.Shown.{scope_variable_at_index}
use Rattle.ga_dap_views.specs.Variables.{variable_value_object}
use Rattle.ga_dap_views.proofs.listing.between.Given as goal

abbrev pub invariant-places : goal.invariant-places
invariant-places l = record {
  from : l.fn.first ≤ l.place;
  list : map view l.list.items ≡ map (λ k. variable_value_object l.lab l.stuck l.at.0.number (scope_variable_at_index l.at.1 k)) (range_with_len l.fn.first (l.place - l.fn.first));
}
