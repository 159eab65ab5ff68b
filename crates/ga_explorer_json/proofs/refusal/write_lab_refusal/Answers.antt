use Rattle.std.proofs.Common.{ap, ◌∙◌}
use Rattle.ga_explorer_json.specs.Refusals.{refusal_json, lab_refusal_json}
use Rattle.ga_explorer_json.proofs.Refusals.{refused_as}
use Rattle.ga_explorer_json.proofs.Writing.{answer_as}
use Rattle.ga_explorer_json.proofs.refusal.write_lab_refusal.Goals as goal

pub returns : goal.returns
returns g c =
    let command = c.args.command.now in
    answer_as g.W.Write.contents c.write_refusal.result c.args.writer.now c.write_refusal.new.writer (refusal_json command c.lab_fault_code.result c.lab_fault_keyword.result.now c.lab_fault_hint.result.now)
    (lab_refusal_json command c.args.fault)
    (refused_as command _ _ _ _ _ _ c.lab_fault_code.ensures c.lab_fault_keyword.ensures c.lab_fault_hint.ensures) c.write_refusal.ensures
