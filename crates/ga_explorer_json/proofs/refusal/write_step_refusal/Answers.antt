use Rattle.std.proofs.Common.{ap, ◌∙◌}
use Rattle.ga_explorer_json.specs.Refusals.{hint_of_refusal, refusal_json, refusal_json_about_step}
use Rattle.ga_explorer_json.proofs.Refusals.{refused_as}
use Rattle.ga_explorer_json.proofs.Writing.{answer_as}
use Rattle.ga_explorer_json.proofs.refusal.write_step_refusal.Goals as goal

pub returns : goal.returns
returns g c =
    let command = c.args.command.now in
    answer_as g.W.Write.contents c.write_refusal.result c.args.writer.now c.write_refusal.new.writer (refusal_json command c.lab_fault_code.result c.lab_fault_keyword.result.now c.hint_of_refusal-hint.result.now)
    (refusal_json_about_step command c.args.node c.args.count c.args.fault)
    (refused_as command _ _ _ _ _ _ c.lab_fault_code.ensures c.lab_fault_keyword.ensures
    (c.hint_of_refusal-hint.ensures ∙ ap hint_of_refusal (c.as_slice.ensures.value ∙ c.advised_step_refusal-line.ensures))) c.write_refusal.ensures
