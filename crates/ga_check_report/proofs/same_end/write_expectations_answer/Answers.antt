use Rattle.std.proofs.Common.{List, ℕ, ◌++◌, refl}
use Rattle.ga_json.proofs.Says.{begins, goes_on, cuts, ends_with}
use Rattle.ga_check_report.specs.Answers.{expectations_answer_in_format}
use Rattle.ga_check_report.specs.SameEnd.{same_end_answer}
use Rattle.ga_check_report.proofs.same_end.write_expectations_answer.Goals as goal

pub returns-in_err-write_expectations : goal.returns-in_err-write_expectations
returns-in_err-write_expectations g c =
    let text : List ℕ = expectations_answer_in_format c.args.request.format c.args.request c.args.found.now c.args.expectations.now c.args.outcomes.now c.args.decisions.now in
    let more : List ℕ = same_end_answer c.args.request c.args.found.now in
    cuts c.from_residual.result c.write_expectations.new.writer text more c.from_residual.ensures.0 (begins g.W.Write.contents c.args.writer.now (text ++ more)) refl
    c.in_err-write_expectations.ensures

pub returns : goal.returns
returns g c =
    let text : List ℕ = expectations_answer_in_format c.args.request.format c.args.request c.args.found.now c.args.expectations.now c.args.outcomes.now c.args.decisions.now in
    let more : List ℕ = same_end_answer c.args.request c.args.found.now in
    ends_with c.write_same.result c.write_same.new.writer
    (goes_on c.write_expectations.new.writer text more (begins g.W.Write.contents c.args.writer.now (text ++ more)) refl c.in_ok-write_expectations.ensures)
    c.write_same.ensures
