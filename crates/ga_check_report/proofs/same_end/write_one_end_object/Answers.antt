use Rattle.ga_check_report.proofs.JsonWriting.{object_written}
use Rattle.ga_check_report.specs.SameEnd.{single_end_outcome_fields}
use Rattle.ga_check_report.proofs.same_end.write_one_end_object.Goals as goal

pub returns : goal.returns
returns g c =
    object_written g.W.Write.contents c.write_object.result c.args.writer.now c.write_object.new.writer c.as_slice.result.now c.single_end_outcome_fields-fields.result.items
    (single_end_outcome_fields c.args.file.now c.args.found.now) c.as_slice.ensures.value c.single_end_outcome_fields-fields.ensures c.write_object.ensures
