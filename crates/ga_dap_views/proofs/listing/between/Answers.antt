use Rattle.std.proofs.Common.{ℕ, ap, ◌∙◌, arith}
use Rattle.ga_dap_views.specs.Shown.{scope_variable_at_index}
use Rattle.ga_dap_views.specs.Variables.{variable_value_object}
use Rattle.ga_dap_views.proofs.Lists.{range_step}
use Rattle.ga_dap_views.proofs.listing.between.Goals as goal

pub places-preserved : goal.places-preserved
places-preserved c = record {
  from = omega (arith, c.places.invariant.from);
  list = range_step (λ (k : ℕ). variable_value_object c.args.lab.now c.args.stuck c.args.at.0.number (scope_variable_at_index c.args.at.1 k)) c.args.first c.places.place c.places.list.items c.push.new.list.items c.in_ok-value.value
      c.places.invariant.from c.in_ok-push.ensures.ok
      (c.in_ok-value.ensures ∙ ap (variable_value_object c.args.lab.now c.args.stuck c.args.at.0.number) c.find_variable_at_index.ensures.value) c.places.invariant.list;
}
