use Rattle.std.proofs.Common.{◌∙◌}
use Rattle.serde_json.specs.View.{view}
use Rattle.ga_dap_control.specs.Breakpoints.{is_exception_filter_name}
use Rattle.ga_dap_control.proofs.Answered.{all_map}
use Rattle.ga_dap_control.proofs.breakpoints.are_filters.Goals as goal

pub returns : goal.returns
returns c = c.each_is_filter.ensures ∙ all_map is_exception_filter_name view c.args.items.now
