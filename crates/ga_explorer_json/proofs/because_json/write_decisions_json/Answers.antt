use Rattle.std.proofs.Common.{codes, ◌∙◌, sym}
use Rattle.ga_event.specs.Told.{count_steps}
use Rattle.ga_lab.specs.Machine.{has_step}
use Rattle.ga_lab.specs.declared.fault.LabFault.TheVariants.{NoStep}
use Rattle.ga_explorer_json.specs.Refusals.{refusal_json_about_step}
use Rattle.ga_explorer_json.specs.Because.{decisions_json, decisions_answer_json}
use Rattle.ga_explorer_json.proofs.Refusals.{counted}
use Rattle.ga_explorer_json.proofs.Writing.{answer_as, by_true, by_false}
use Rattle.ga_explorer_json.proofs.because_json.write_decisions_json.Goals as goal

pub returns-then-has_step : goal.returns-then-has_step
returns-then-has_step g c =
    let s = c.args.lab.now in
    let rows = decisions_json c.args.notes.now s c.args.node c.args.step c.args.most in
    answer_as g.W.Write.contents c.write_decisions.result c.args.writer.now c.write_decisions.new.writer rows (decisions_answer_json c.args.notes.now s c.args.node c.args.step c.args.most)
    (by_true (has_step s c.args.node.number c.args.step) rows (refusal_json_about_step (codes "because") c.args.node (count_steps c.args.node.number s.kept) NoStep) (sym c.has_step.ensures.value ∙ c.if-has_step.true)) c.write_decisions.ensures

pub returns-else-has_step : goal.returns-else-has_step
returns-else-has_step g c =
    let s = c.args.lab.now in
    let refusal = refusal_json_about_step (codes "because") c.args.node (count_steps c.args.node.number s.kept) NoStep in
    answer_as g.W.Write.contents c.write_step_refusal.result c.args.writer.now c.write_step_refusal.new.writer (refusal_json_about_step (codes "because") c.args.node c.steps.result NoStep) (decisions_answer_json c.args.notes.now s c.args.node c.args.step c.args.most)
    (counted (codes "because") c.args.node _ _ NoStep c.steps.ensures.steps
    ∙ by_false (has_step s c.args.node.number c.args.step) (decisions_json c.args.notes.now s c.args.node c.args.step c.args.most) refusal (sym c.has_step.ensures.value ∙ c.if-has_step.false))
    c.write_step_refusal.ensures
