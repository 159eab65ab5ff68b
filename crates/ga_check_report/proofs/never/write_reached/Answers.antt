use Rattle.std.proofs.Common.{ℕ, false, sym, ap, ◌∙◌}
use Rattle.ga_json.proofs.Says.{says_as}
use Rattle.ga_json.specs.declared.format.ReportFormat.{ReportFormat}
use Rattle.ga_check_report.specs.NeverJson.{reached_event_json}
use Rattle.ga_check_report.specs.Answers.{reached_event_answer, reached_event_in_format}
use Rattle.ga_check_report.proofs.never.write_reached.Goals as goal

pub returns-in-Json : goal.returns-in-Json
returns-in-Json g c =
    let file = c.in-Json.file.now in
    says_as g.W.Write.contents c.write_reached_json.result c.args.writer.now c.write_reached_json.new.writer (reached_event_json file c.counts.result.kept c.args.which c.args.made)
    (reached_event_answer c.args.format false c.args.conditions c.args.which c.args.made c.args.lab.now)
    (ap (λ (n : ℕ). reached_event_json file n c.args.which c.args.made) c.counts.ensures.kept
    ∙ ap (λ (f : ReportFormat). reached_event_in_format f c.args.conditions c.args.which c.args.made c.args.lab.now) (sym c.in-Json.is)) c.write_reached_json.ensures
