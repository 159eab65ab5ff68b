use Rattle.std.proofs.Common.{List, ℕ, ◌++◌, refl}
use Rattle.std.proofs.Common.{true, false}
use Rattle.ga_json.specs.Compact.{json_line}
use Rattle.ga_check_report.specs.EndJson.{decision_json_object}
use Rattle.ga_json.proofs.Says.{begins, goes_on, cuts, ends_with}
use Rattle.ga_check_report.proofs.ends_json.write_both_events.Goals as goal

pub returns-in_err-write_decision_object : goal.returns-in_err-write_decision_object
returns-in_err-write_decision_object g c =
    let text : List ℕ = json_line (decision_json_object c.args.file.now c.args.number true c.args.taken) in
    let more : List ℕ = json_line (decision_json_object c.args.file.now c.args.number false c.args.other) in
    cuts c.from_residual.result c.write_decision_object.new.writer text more c.from_residual.ensures.0 (begins g.W.Write.contents c.args.writer.now (text ++ more)) refl c.in_err-write_decision_object.ensures

pub returns : goal.returns
returns g c =
    let text : List ℕ = json_line (decision_json_object c.args.file.now c.args.number true c.args.taken) in
    let more : List ℕ = json_line (decision_json_object c.args.file.now c.args.number false c.args.other) in
    ends_with c.write_decision_object-2.result c.write_decision_object-2.new.writer (goes_on c.write_decision_object.new.writer text more (begins g.W.Write.contents c.args.writer.now (text ++ more)) refl c.in_ok-write_decision_object.ensures)
    c.write_decision_object-2.ensures
