use Rattle.ga_check_report.proofs.JsonWriting.{object_written}
use Rattle.ga_check_report.specs.NeverJson.{unreached_event_fields}
use Rattle.ga_check_report.proofs.never_json.write_unreached_json.Goals as goal

pub returns : goal.returns
returns g c =
    object_written g.W.Write.contents c.write_object.result c.args.writer.now c.write_object.new.writer c.as_slice.result.now c.unreached_event_fields-fields.result.items
    (unreached_event_fields c.args.file.now c.args.found.now) c.as_slice.ensures.value c.unreached_event_fields-fields.ensures c.write_object.ensures
