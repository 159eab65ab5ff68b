use Rattle.std.proofs.Common.{sym, ap}
use Rattle.ga_json.proofs.Says.{says_as}
use Rattle.ga_json.specs.declared.format.ReportFormat.{ReportFormat}
use Rattle.ga_check_report.specs.NeverJson.{unreached_event_json}
use Rattle.ga_check_report.specs.Answers.{unreached_event_answer, unreached_event_in_format}
use Rattle.ga_check_report.proofs.never.write_unreached.Goals as goal

pub returns-in-Json : goal.returns-in-Json
returns-in-Json g c =
    says_as g.W.Write.contents c.write_unreached_json.result c.args.writer.now c.write_unreached_json.new.writer (unreached_event_json c.in-Json.file.now c.args.found.now)
    (unreached_event_answer c.args.request c.args.found.now)
    (ap (λ (f : ReportFormat). unreached_event_in_format f c.args.request c.args.found.now) (sym c.in-Json.is)) c.write_unreached_json.ensures
