use Rattle.ga_check_report.proofs.JsonWriting.{object_written}
use Rattle.std.proofs.Common.{◌++◌}
use Rattle.ga_check_report.specs.EventJson.{event_detail_fields}
use Rattle.ga_check_report.specs.EndJson.{decision_json_fields}
use Rattle.ga_check_report.proofs.ends_json.write_decision_object.Goals as goal

pub returns : goal.returns
returns g c =
    object_written g.W.Write.contents c.write_object.result c.args.writer.now c.write_object.new.writer c.as_slice.result.now c.decision_json_fields-fields.result.items
    (decision_json_fields c.args.file.now c.args.number c.args.is_taken ++ event_detail_fields c.args.made) c.as_slice.ensures.value c.decision_json_fields-fields.ensures c.write_object.ensures
