use Rattle.std.proofs.Common.{◌++◌, true, false, Option, sym, ap}
use Rattle.ga_json.specs.Compact.{json_line}
use Rattle.ga_json.proofs.Says.{says_as}
use Rattle.ga_state_ends.specs.Decisions.{EndDecision}
use Rattle.ga_check_report.specs.EndJson.{decision_json_object, decision_json_objects_text}
use Rattle.ga_check_report.proofs.ends_json.write_decision_objects.Goals as goal

pub returns-in-Some : goal.returns-in-Some
returns-in-Some g c =
    let file = c.args.file.now in
    says_as g.W.Write.contents c.write_both_events.result c.args.writer.now c.write_both_events.new.writer
    (json_line (decision_json_object file c.args.number true c.in-Some.both.0) ++ json_line (decision_json_object file c.args.number false c.in-Some.both.1))
    (decision_json_objects_text file c.args.number c.args.decision) (ap (λ (d : Option EndDecision). decision_json_objects_text file c.args.number d) (sym c.in-Some.is)) c.write_both_events.ensures
