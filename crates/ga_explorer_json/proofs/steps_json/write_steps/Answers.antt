use Rattle.std.proofs.Common.{refl}
use Rattle.ga_explorer_json.specs.Rows.{json_rows_of_items}
use Rattle.ga_explorer_json.specs.Steps.{event_json, trace_head_fields}
use Rattle.ga_explorer_json.proofs.Writing.{report_as}
use Rattle.ga_explorer_json.proofs.steps_json.write_steps.Goals as goal

pub returns : goal.returns
returns g c =
    let steps = c.args.steps.now in
    report_as g.W.Write.contents c.write_report.result c.args.writer.now c.write_report.new.writer c.trace_head_fields-head.result
    (trace_head_fields c.args.node) (json_rows_of_items event_json steps) (json_rows_of_items event_json steps) c.trace_head_fields-head.ensures refl c.write_report.ensures
