use Rattle.std.proofs.Common.{ℕ, ◌-◌, List, ap, ◌∙◌}
use Rattle.ga_json.specs.Values.{JsonItems}
use Rattle.ga_json.specs.Compact.{json_line}
use Rattle.ga_json.specs.Fields.{NamedValue, json_report, report_json}
use Rattle.ga_json.specs.declared.field.Field.{Field}
use Rattle.ga_json.proofs.Says.{says_as}
use Rattle.ga_state_ends.specs.declared.end_kind.EndKind.{EndKind}
use Rattle.ga_check_report.specs.EndJson.{end_kind_fields, end_kind_object, end_node_rows}
use Rattle.ga_check_report.proofs.ends_json.write_end_object.Goals as goal

pub returns : goal.returns
returns g c =
    let rows : JsonItems = end_node_rows c.new-rows.result.kind.now c.new-rows.result.next (144 - c.new-rows.result.next) in
    let fields : List NamedValue = end_kind_fields c.args.file.now c.args.number c.args.kind.now in
    says_as g.W.Write.contents c.write_report.result c.args.writer.now c.write_report.new.writer (json_line (report_json c.as_slice.result.now rows))
    (json_line (end_kind_object c.args.file.now c.args.number c.args.kind.now))
    (ap (λ (list : List Field). json_line (report_json list rows)) c.as_slice.ensures.value
    ∙ ap (λ (list : List NamedValue). json_line (json_report list rows)) c.end_kind_fields-fields.ensures
    ∙ ap (λ (kind : EndKind). json_line (json_report fields (end_node_rows kind c.new-rows.result.next (144 - c.new-rows.result.next)))) c.new-rows.ensures.kind
    ∙ ap (λ (n : ℕ). json_line (json_report fields (end_node_rows c.args.kind.now n (144 - n)))) c.new-rows.ensures.first) c.write_report.ensures
