use Rattle.std.proofs.Common.{refl}
use Rattle.ga_causal.specs.Dependence.{is_node_flagged}
use Rattle.ga_explorer_json.specs.Rows.{json_rows_of_items}
use Rattle.ga_explorer_json.specs.Expected.{status_row, statuses_head_fields}
use Rattle.ga_explorer_json.proofs.Writing.{report_as}
use Rattle.ga_explorer_json.proofs.expected_json.write_status_rows.Goals as goal

pub returns : goal.returns
returns g c =
    let rows = json_rows_of_items (status_row (is_node_flagged c.args.stuck.now) c.args.is_quiet c.args.lab.now) c.args.expectations.now in
    report_as g.W.Write.contents c.write_report.result c.args.writer.now c.write_report.new.writer c.statuses_head_fields.result statuses_head_fields rows rows c.statuses_head_fields.ensures refl c.write_report.ensures
