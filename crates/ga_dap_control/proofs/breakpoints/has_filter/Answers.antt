use Rattle.std.proofs.Common.{◌∙◌}
use Rattle.serde_json.specs.View.{view}
use Rattle.ga_dap_control.specs.Breakpoints.{is_json_string_equal_to}
use Rattle.ga_dap_control.proofs.Answered.{any_map}
use Rattle.ga_dap_control.proofs.breakpoints.has_filter.Goals as goal

pub returns : goal.returns
returns c = c.one_is_text.ensures ∙ any_map (is_json_string_equal_to c.args.name.now) view c.args.items.now
