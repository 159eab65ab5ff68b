use Rattle.std.proofs.Common.{None, List, ap, ◌∙◌, refl}
use Rattle.std.specs.Prelude.{map}
use Rattle.ga_json.specs.Values.{no_items}
use Rattle.ga_json.specs.Fields.{NamedValue, named_field_value}
use Rattle.ga_json.specs.declared.field.Field.{Field}
use Rattle.ga_explorer_json.specs.Whence.{null_part_word_fields, provenance_head_fields}
use Rattle.ga_explorer_json.proofs.Writing.{report_as}
use Rattle.ga_explorer_json.proofs.whence_json.write_no_lines.Goals as goal

pub returns : goal.returns
returns g c =
    let query = c.args.query in
    let notes = query.notes.now in
    let s = c.args.lab.now in
    report_as g.W.Write.contents c.write_report.result c.args.writer.now c.write_report.new.writer c.as_slice.result.now
    (provenance_head_fields notes s query.node query.step query.first null_part_word_fields None) no_items no_items
    (ap (λ (z : List Field). map named_field_value z) c.as_slice.ensures.value
    ∙ c.query_row-head.ensures
    ∙ ap (λ (z : List NamedValue). provenance_head_fields notes s query.node query.step query.first z None) c.null_part_word_fields.ensures) refl c.write_report.ensures
