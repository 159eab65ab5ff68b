use Rattle.std.proofs.Common.{sym, ap}
use Rattle.ga_json.proofs.Says.{says_as}
use Rattle.ga_json.specs.declared.format.ReportFormat.{ReportFormat}
use Rattle.ga_check_report.specs.ExpectationJson.{expectations_json}
use Rattle.ga_check_report.specs.Answers.{expectations_answer_in_format}
use Rattle.ga_check_report.proofs.expected.write_expectations.Goals as goal

pub returns-in-Json : goal.returns-in-Json
returns-in-Json g c =
    says_as g.W.Write.contents c.write_expectations_json.result c.args.writer.now c.write_expectations_json.new.writer
    (expectations_json c.in-Json.file.now c.args.found.now c.args.expectations.now c.args.outcomes.now c.args.decisions.now)
    (expectations_answer_in_format c.args.request.format c.args.request c.args.found.now c.args.expectations.now c.args.outcomes.now c.args.decisions.now)
    (ap (λ (f : ReportFormat). expectations_answer_in_format f c.args.request c.args.found.now c.args.expectations.now c.args.outcomes.now c.args.decisions.now) (sym c.in-Json.is)) c.write_expectations_json.ensures
