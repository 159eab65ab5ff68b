use Rattle.std.proofs.Common.{◌≡◌, ◌-◌, ℕ, List, length, drop, Option, ap, ◌∙◌, arith}
use Rattle.std.specs.Prelude.{map}
use Rattle.ga_explorer_text.specs.Whence.{word_of_value}
use Rattle.ga_json.specs.Fields.{NamedValue, named_field_value}
use Rattle.ga_json.specs.declared.field.Field.{Field}
use Rattle.ga_explorer_json.specs.Parts.{part_word_fields}
use Rattle.ga_explorer_json.specs.Whence.{provenance_line_rows, provenance_head_fields, next_provenance_line_number}
use Rattle.ga_explorer_json.proofs.Writing.{report_as}
use Rattle.ga_explorer_json.proofs.whence_json.write_listed_lines.Goals as goal

pub returns : goal.returns
returns g c =
    let s = c.args.lab.now in
    let query = c.args.query in
    let notes = query.notes.now in
    let value = c.args.value in
    let lines = c.args.lines.now in
    let skipped = c.saturating_sub-skipped.result in
    let more = c.next_provenance_line_number-more.result in
    let rest = c.skip_provenance_lines.result.now in
    let named = part_word_fields value.part (word_of_value s value) in
    let back : skipped ≡ query.first - 1 = omega (arith, c.saturating_sub-skipped.ensures) in
    report_as g.W.Write.contents c.write_report.result c.args.writer.now c.write_report.new.writer c.as_slice.result.now
    (provenance_head_fields notes s query.node query.step query.first named (next_provenance_line_number (length lines) c.args.is_whole)) (provenance_line_rows notes s skipped rest) (provenance_line_rows notes s (query.first - 1) (drop (query.first - 1) lines))
    (ap (λ (z : List Field). map named_field_value z) c.as_slice.ensures.value
    ∙ c.query_row-head.ensures
    ∙ ap (λ (z : List NamedValue). provenance_head_fields notes s query.node query.step query.first z more) (c.part_word_fields.ensures ∙ ap (part_word_fields value.part) c.word_of_value-word.ensures)
    ∙ ap (λ (z : Option ℕ). provenance_head_fields notes s query.node query.step query.first named z) c.next_provenance_line_number-more.ensures)
    (ap (provenance_line_rows notes s skipped) c.skip_provenance_lines.ensures ∙ ap (λ (z : ℕ). provenance_line_rows notes s z (drop z lines)) back)
    c.write_report.ensures
