use Rattle.std.proofs.Common.{List, ap, ◌∙◌, refl}
use Rattle.std.specs.Prelude.{map}
use Rattle.ga_node.specs.Record.{record_of_node}
use Rattle.ga_json.specs.Fields.{named_field_value}
use Rattle.ga_json.specs.declared.field.Field.{Field}
use Rattle.ga_explorer_json.specs.NodeState.{node_fields, stack_rows}
use Rattle.ga_explorer_json.proofs.Writing.{report_as}
use Rattle.ga_explorer_json.proofs.node_json.write_node_record.Goals as goal

pub returns : goal.returns
returns g c =
    let at = record_of_node c.args.at.now in
    let rows = stack_rows at 0 19 in
    report_as g.W.Write.contents c.write_report.result c.args.writer.now c.write_report.new.writer c.as_slice.result.now (node_fields c.args.node at) rows rows
    (ap (λ (z : List Field). map named_field_value z) c.as_slice.ensures.value ∙ c.node_row-head.ensures) refl c.write_report.ensures
