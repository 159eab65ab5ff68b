use Rattle.std.proofs.Common.{◌≡◌, suc, ◌++◌, false, true, codes, ap, sym, ◌∙◌, arith}
use Rattle.ga_json.specs.Compact.{array_items_text, json_line}
use Rattle.ga_json.specs.Fields.{report_json}
use Rattle.ga_json.specs.inner.{json_fields_text}
use Rattle.ga_json.proofs.Says.{begins, goes_on, ends_with, cuts, says_as}
use Rattle.ga_json.proofs.Texts.{count_items, report_splits, next_row}
use Rattle.ga_json.proofs.report.write_report.Goals as goal

pub returns-in_err-write_between : goal.returns-in_err-write_between
returns-in_err-write_between g c =
    let head = c.args.head.now in
    let rows = g.R.RowCursor.left c.args.rows.now in
    cuts c.from_residual.result c.write_between.new.writer (codes "{" ++ (json_fields_text false head ++ c.text_before_rows.result.now)) (array_items_text false rows ++ codes "]}\n")
    c.from_residual.ensures.0 (begins g.W.Write.contents c.args.writer.now (json_line (report_json head rows)))
    (report_splits head rows ∙ ap (λ z. (codes "{" ++ (json_fields_text false head ++ z)) ++ (array_items_text false rows ++ codes "]}\n")) (sym c.text_before_rows.ensures))
    c.in_err-write_between.ensures

pub rows-init : goal.rows-init
rows-init g c =
    let head = c.args.head.now in
    let rows = g.R.RowCursor.left c.args.rows.now in
    goes_on c.write_between.new.writer (codes "{" ++ (json_fields_text false head ++ c.text_before_rows.result.now)) (array_items_text false rows ++ codes "]}\n")
    (begins g.W.Write.contents c.args.writer.now (json_line (report_json head rows)))
    (report_splits head rows ∙ ap (λ z. (codes "{" ++ (json_fields_text false head ++ z)) ++ (array_items_text false rows ++ codes "]}\n")) (sym c.text_before_rows.ensures))
    c.in_ok-write_between.ensures

pub returns-in_err-write_between-2 : goal.returns-in_err-write_between-2
returns-in_err-write_between-2 g c =
    let fields = c.in-Some.row.items in
    let rest = g.R.RowCursor.left c.next.new.self in
    let later = c.rows.later in
    let end = codes "]}\n" in
    cuts c.from_residual-in_err-write_between-2.result c.write_between-in-Some.new.writer
    (c.text_before_row.result.now ++ (json_fields_text false c.as_slice.result.now ++ codes "}")) (array_items_text true rest ++ end)
    c.from_residual-in_err-write_between-2.ensures.0 c.rows.invariant
    (ap (λ z. array_items_text later z ++ end) c.in-Some.ensures.row ∙ next_row later fields rest end
    ∙ ap (λ z. (z ++ (json_fields_text false fields ++ codes "}")) ++ (array_items_text true rest ++ end)) (sym c.text_before_row.ensures)
    ∙ ap (λ z. (c.text_before_row.result.now ++ (json_fields_text false z ++ codes "}")) ++ (array_items_text true rest ++ end)) (sym c.as_slice.ensures.value))
    c.in_err-write_between-2.ensures

pub rows-smaller : goal.rows-smaller
rows-smaller g c =
    let e : count_items (g.R.RowCursor.left c.rows.rows) ≡ suc (count_items (g.R.RowCursor.left c.next.new.self)) = ap count_items c.in-Some.ensures.row in omega (arith, e)

pub rows-preserved : goal.rows-preserved
rows-preserved g c =
    let fields = c.in-Some.row.items in
    let rest = g.R.RowCursor.left c.next.new.self in
    let later = c.rows.later in
    let end = codes "]}\n" in
    goes_on c.write_between-in-Some.new.writer
    (c.text_before_row.result.now ++ (json_fields_text false c.as_slice.result.now ++ codes "}")) (array_items_text true rest ++ end) c.rows.invariant
    (ap (λ z. array_items_text later z ++ end) c.in-Some.ensures.row ∙ next_row later fields rest end
    ∙ ap (λ z. (z ++ (json_fields_text false fields ++ codes "}")) ++ (array_items_text true rest ++ end)) (sym c.text_before_row.ensures)
    ∙ ap (λ z. (c.text_before_row.result.now ++ (json_fields_text false z ++ codes "}")) ++ (array_items_text true rest ++ end)) (sym c.as_slice.ensures.value))
    c.in_ok-write_between-2.ensures

pub returns : goal.returns
returns g c =
    let end = codes "]}\n" in
    let start = c.rows.invariant in
    ends_with c.write_text.result c.write_text.new.self start (says_as g.W.Write.contents c.write_text.result c.rows.writer c.write_text.new.self end (array_items_text c.rows.later (g.R.RowCursor.left c.rows.rows) ++ end)
    (sym (ap (λ z. array_items_text c.rows.later z ++ end) c.in_default.ensures.row)) c.write_text.ensures)
