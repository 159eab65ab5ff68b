use Rattle.std.proofs.Common.{List, ap, ◌∙◌}
use Rattle.ga_json.specs.Compact.{json_line}
use Rattle.ga_json.specs.Fields.{NamedValue, json_object, row_json}
use Rattle.ga_json.specs.declared.field.Field.{Field}
use Rattle.ga_json.proofs.Says.{says_as}
use Rattle.ga_check_report.specs.ExpectationJson.{expectation_object}
use Rattle.ga_check_report.proofs.expectation_json.write_expectation_object.Goals as goal

pub returns : goal.returns
returns g c =
    says_as g.W.Write.contents c.write_object.result c.args.writer.now c.write_object.new.writer (json_line (row_json c.as_slice.result.now))
    (json_line (expectation_object c.args.file.now c.args.number c.args.line c.args.words.now c.args.outcome))
    (ap (λ (fields : List Field). json_line (row_json fields)) c.as_slice.ensures.value
    ∙ ap (λ (values : List NamedValue). json_line (json_object values)) c.object_fields-fields.ensures) c.write_object.ensures
