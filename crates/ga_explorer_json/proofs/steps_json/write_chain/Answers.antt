use Rattle.std.proofs.Common.{refl}
use Rattle.ga_explorer_json.specs.Rows.{json_rows_of_items}
use Rattle.ga_explorer_json.specs.Steps.{event_json, chain_head_fields}
use Rattle.ga_explorer_json.proofs.Writing.{report_as}
use Rattle.ga_explorer_json.proofs.steps_json.write_chain.Goals as goal

pub returns : goal.returns
returns g c =
    let events = c.args.events.now in
    report_as g.W.Write.contents c.write_report.result c.args.writer.now c.write_report.new.writer c.chain_head_fields-head.result
    (chain_head_fields c.args.leads) (json_rows_of_items event_json events) (json_rows_of_items event_json events) c.chain_head_fields-head.ensures refl c.write_report.ensures
