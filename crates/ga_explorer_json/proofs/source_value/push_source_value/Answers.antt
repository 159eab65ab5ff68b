use Rattle.std.proofs.Common.{List, ◌∙◌, ap}
use Rattle.std.specs.Prelude.{map}
use Rattle.ga_json.specs.Fields.{NamedValue, named_field_value}
use Rattle.ga_explorer_json.specs.Source.{value_source_fields}
use Rattle.ga_explorer_json.specs.Whence.{value_origin_fields}
use Rattle.ga_explorer_json.specs.Because.{source_prefixed_fields, value_node_and_step_fields, tested_value_word_fields}
use Rattle.ga_explorer_json.proofs.Appended.{four_appended}
use Rattle.ga_explorer_json.proofs.source_value.push_source_value.Goals as goal

pub returns : goal.returns
returns c =
    let notes = c.args.notes.now in
    let s = c.args.lab.now in
    let value = c.args.value in
    four_appended (map named_field_value c.args.row.now.items) (source_prefixed_fields (value_node_and_step_fields value)) (source_prefixed_fields (value_origin_fields s value))
    (source_prefixed_fields (tested_value_word_fields notes s value c.args.word c.args.a)) (source_prefixed_fields (value_source_fields notes s value))
    (map named_field_value c.value_node_and_step_fields.result) (map named_field_value c.tested_value_word_fields.result) (map named_field_value c.source_place_fields.result)
    (map named_field_value c.push_fields.new.row.items) (map named_field_value c.push_source_made.new.row.items)
    (map named_field_value c.push_fields-2.new.row.items) (map named_field_value c.push_fields-3.new.row.items)
    c.push_fields.ensures.fields c.value_node_and_step_fields.ensures c.push_source_made.ensures.fields c.push_fields-2.ensures.fields c.tested_value_word_fields.ensures
    c.push_fields-3.ensures.fields (c.source_place_fields.ensures ∙ ap (λ (z : List NamedValue). source_prefixed_fields z) c.value_source-source.ensures)
