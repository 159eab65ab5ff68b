use Rattle.std.proofs.Common.{List, ℕ, ◌++◌, refl}
use Rattle.ga_json.specs.Compact.{json_line}
use Rattle.ga_check_report.specs.EndJson.{decision_json_objects_text}
use Rattle.ga_check_report.specs.ExpectationJson.{expectation_object}
use Rattle.ga_json.proofs.Says.{begins, goes_on, cuts, ends_with}
use Rattle.ga_check_report.proofs.breach_decisions.write_decided_objects.Goals as goal

pub returns-in_err-write_one : goal.returns-in_err-write_one
returns-in_err-write_one g c =
    let text : List ℕ = json_line (expectation_object c.args.file.now c.args.number c.args.one.now.line c.args.one.now.text.items c.args.outcome) in
    let more : List ℕ = decision_json_objects_text c.args.file.now c.args.number c.args.decision in
    cuts c.from_residual.result c.write_one.new.writer text more c.from_residual.ensures.0 (begins g.W.Write.contents c.args.writer.now (text ++ more)) refl c.in_err-write_one.ensures

pub returns : goal.returns
returns g c =
    let text : List ℕ = json_line (expectation_object c.args.file.now c.args.number c.args.one.now.line c.args.one.now.text.items c.args.outcome) in
    let more : List ℕ = decision_json_objects_text c.args.file.now c.args.number c.args.decision in
    ends_with c.write_decision_objects.result c.write_decision_objects.new.writer
    (goes_on c.write_one.new.writer text more (begins g.W.Write.contents c.args.writer.now (text ++ more)) refl c.in_ok-write_one.ensures) c.write_decision_objects.ensures
