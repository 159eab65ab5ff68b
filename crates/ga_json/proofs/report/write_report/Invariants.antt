use Rattle.std.proofs.Common.{◌++◌, codes}
use Rattle.ga_json.specs.Compact.{array_items_text, json_line}
use Rattle.ga_json.specs.Fields.{report_json}
use Rattle.ga_json.proofs.Says.{SaysUpTo}
use Rattle.ga_json.proofs.Texts.{count_items}
use Rattle.ga_json.proofs.report.write_report.Given as goal

abbrev pub invariant-rows : goal.invariant-rows
invariant-rows g l =
    SaysUpTo g.W.Write.contents l.fn.writer l.writer (json_line (report_json l.head (g.R.RowCursor.left l.fn.rows)))
    (array_items_text l.later (g.R.RowCursor.left l.rows) ++ codes "]}\n")

abbrev pub decreases-rows : goal.decreases-rows
decreases-rows g l = count_items (g.R.RowCursor.left l.rows)
