use Rattle.std.proofs.Common.{sym, ap}
use Rattle.ga_json.proofs.Says.{says_as}
use Rattle.ga_json.specs.Compact.{json_line}
use Rattle.ga_json.specs.Fields.{json_object}
use Rattle.ga_json.specs.declared.format.ReportFormat.{ReportFormat}
use Rattle.ga_check_report.specs.SameEnd.{single_end_outcome_fields, single_end_outcome_answer}
use Rattle.ga_check_report.proofs.same_end.write_one_end.Goals as goal

pub returns-in-Json : goal.returns-in-Json
returns-in-Json g c =
    says_as g.W.Write.contents c.write_one_end_object.result c.args.writer.now c.write_one_end_object.new.writer
    (json_line (json_object (single_end_outcome_fields c.in-Json.file.now c.args.found.now))) (single_end_outcome_answer c.args.format c.args.found.now)
    (ap (λ (f : ReportFormat). single_end_outcome_answer f c.args.found.now) (sym c.in-Json.is)) c.write_one_end_object.ensures
