use Rattle.std.proofs.Common.{◌-◌, ap, ◌∙◌}
use Rattle.ga_lab.specs.Machine.{NodeAtStep}
use Rattle.ga_explorer_json.specs.Because.{decision_rows, decisions_head_fields}
use Rattle.ga_explorer_json.proofs.Writing.{report_as}
use Rattle.ga_explorer_json.proofs.because_json.write_decisions.Goals as goal

pub returns : goal.returns
returns g c =
    let s = c.args.lab.now in
    let notes = c.args.notes.now in
    let node = c.args.node in
    let most = c.args.most in
    let found = c.before-decisions.result in
    report_as g.W.Write.contents c.write_report.result c.args.writer.now c.write_report.new.writer c.decisions_head_fields-head.result
    (decisions_head_fields node c.args.step) (decision_rows notes s node most found.step) (decision_rows notes s node most (c.args.step - 1)) c.decisions_head_fields-head.ensures
    (ap (λ (z : NodeAtStep). decision_rows notes s node most z.step) c.before-decisions.ensures
    ∙ ap (λ (z : NodeAtStep). decision_rows notes s node most (z.step - 1)) c.walk_node_from_step-near.ensures) c.write_report.ensures
