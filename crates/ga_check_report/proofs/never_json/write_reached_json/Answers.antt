use Rattle.std.proofs.Common.{◌+◌, ◌++◌}
use Rattle.ga_check_report.specs.EventJson.{event_detail_fields}
use Rattle.ga_check_report.specs.NeverJson.{reached_event_fields}
use Rattle.ga_check_report.proofs.JsonWriting.{object_written}
use Rattle.ga_check_report.proofs.never_json.write_reached_json.Goals as goal

pub returns : goal.returns
returns g c =
    object_written g.W.Write.contents c.write_object.result c.args.writer.now c.write_object.new.writer c.as_slice.result.now c.reached_event_fields-fields.result.items
    (reached_event_fields c.args.file.now c.args.events (c.args.which + 1) ++ event_detail_fields c.args.made) c.as_slice.ensures.value c.reached_event_fields-fields.ensures c.write_object.ensures
