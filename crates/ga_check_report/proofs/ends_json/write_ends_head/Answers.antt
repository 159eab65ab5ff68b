use Rattle.ga_check_report.proofs.JsonWriting.{object_written}
use Rattle.ga_check_report.specs.EndJson.{ends_head_fields}
use Rattle.ga_check_report.proofs.ends_json.write_ends_head.Goals as goal

pub returns : goal.returns
returns g c =
    object_written g.W.Write.contents c.write_object.result c.args.writer.now c.write_object.new.writer c.as_slice.result.now c.ends_head_fields-fields.result.items
    (ends_head_fields c.args.file.now c.args.found.now) c.as_slice.ensures.value c.ends_head_fields-fields.ensures c.write_object.ensures
