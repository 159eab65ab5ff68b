use Rattle.std.proofs.Common.{List, ℕ, ◌++◌, refl}
use Rattle.ga_json.proofs.Says.{begins, goes_on, cuts, ends_with}
use Rattle.ga_check_report.specs.Answers.{ends_answer_in_format}
use Rattle.ga_check_report.specs.SameEnd.{same_end_answer}
use Rattle.ga_check_report.proofs.report.write_answer.Goals as goal

pub returns-in_err-write_kinds : goal.returns-in_err-write_kinds
returns-in_err-write_kinds g c =
    let text : List ℕ = ends_answer_in_format c.args.request.format c.args.request c.args.found.now in
    let more : List ℕ = same_end_answer c.args.request c.args.found.now in
    cuts c.from_residual.result c.write_kinds.new.writer text more c.from_residual.ensures.0 (begins g.W.Write.contents c.args.writer.now (text ++ more)) refl
    c.in_err-write_kinds.ensures

pub returns : goal.returns
returns g c =
    let text : List ℕ = ends_answer_in_format c.args.request.format c.args.request c.args.found.now in
    let more : List ℕ = same_end_answer c.args.request c.args.found.now in
    ends_with c.write_same.result c.write_same.new.writer
    (goes_on c.write_kinds.new.writer text more (begins g.W.Write.contents c.args.writer.now (text ++ more)) refl c.in_ok-write_kinds.ensures) c.write_same.ensures
