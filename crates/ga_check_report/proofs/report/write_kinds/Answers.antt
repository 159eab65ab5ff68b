use Rattle.std.proofs.Common.{sym, ap}
use Rattle.ga_json.proofs.Says.{says_as}
use Rattle.ga_json.specs.declared.format.ReportFormat.{ReportFormat}
use Rattle.ga_check_report.specs.EndJson.{ends_json}
use Rattle.ga_check_report.specs.Answers.{ends_answer_in_format}
use Rattle.ga_check_report.proofs.report.write_kinds.Goals as goal

pub returns-in-Json : goal.returns-in-Json
returns-in-Json g c =
    says_as g.W.Write.contents c.write_ends_json.result c.args.writer.now c.write_ends_json.new.writer (ends_json c.in-Json.file.now c.args.found.now)
    (ends_answer_in_format c.args.request.format c.args.request c.args.found.now) (ap (λ (f : ReportFormat). ends_answer_in_format f c.args.request c.args.found.now) (sym c.in-Json.is)) c.write_ends_json.ensures
