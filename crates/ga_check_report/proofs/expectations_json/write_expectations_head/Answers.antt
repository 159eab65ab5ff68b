use Rattle.ga_check_report.proofs.JsonWriting.{object_written}
use Rattle.ga_check_report.specs.ExpectationJson.{expectations_head_fields}
use Rattle.ga_check_report.proofs.expectations_json.write_expectations_head.Goals as goal

pub returns : goal.returns
returns g c =
    object_written g.W.Write.contents c.write_object.result c.args.writer.now c.write_object.new.writer c.as_slice.result.now c.expectations_head_fields-fields.result.items
    (expectations_head_fields c.args.file.now c.args.found.now c.args.count) c.as_slice.ensures.value c.expectations_head_fields-fields.ensures c.write_object.ensures
