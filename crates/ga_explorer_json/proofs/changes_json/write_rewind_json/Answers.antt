use Rattle.std.proofs.Common.{ℕ, length, Some, Result, codes, ap, ◌∙◌}
use Rattle.ga_event.specs.Told.{count_steps}
use Rattle.ga_lab.specs.Machine.{MachineState, rewind_answer}
use Rattle.ga_lab.specs.declared.fault.LabFault.{LabFault}
use Rattle.ga_explorer_json.specs.Refusals.{refusal_json_about_step}
use Rattle.ga_explorer_json.specs.Changes.{removal_counts_json, rewind_json}
use Rattle.ga_explorer_json.proofs.Refusals.{counted}
use Rattle.ga_explorer_json.proofs.Writing.{answer_as}
use Rattle.ga_explorer_json.proofs.changes_json.write_rewind_json.Goals as goal

pub returns-in-Ok-clause-said : goal.returns-in-Ok-clause-said
returns-in-Ok-clause-said g c =
    let s = c.args.lab.now in
    let removed = c.in-Ok.removed in
    let kept = length c.rewind.new.self.kept in
    answer_as g.W.Write.contents c.write_removed_events.result c.args.writer.now c.write_removed_events.new.writer (removal_counts_json (codes "rewind") (Some c.from.result) c.counts.result.kept)
    (rewind_json c.args.node (count_steps c.args.node.number s.kept) (rewind_answer s c.args.node.number c.args.step) kept)
    (ap (λ (z : ℕ). removal_counts_json (codes "rewind") (Some z) c.counts.result.kept) c.from.ensures
    ∙ ap (λ (z : ℕ). removal_counts_json (codes "rewind") (Some removed) z) c.counts.ensures.kept ∙ ap (λ (r : Result ℕ LabFault). rewind_json c.args.node (count_steps c.args.node.number s.kept) r kept) c.in-Ok.ensures.answer) c.write_removed_events.ensures

pub returns-in-Err-clause-said : goal.returns-in-Err-clause-said
returns-in-Err-clause-said g c =
    let s = c.args.lab.now in
    let kept = length c.rewind.new.self.kept in
    answer_as g.W.Write.contents c.write_step_refusal.result c.args.writer.now c.write_step_refusal.new.writer (refusal_json_about_step (codes "rewind") c.args.node c.steps.result c.in-Err.fault)
    (rewind_json c.args.node (count_steps c.args.node.number s.kept) (rewind_answer s c.args.node.number c.args.step) kept)
    (counted (codes "rewind") c.args.node _ _ c.in-Err.fault (c.steps.ensures.steps ∙ ap (λ (m : MachineState). count_steps c.args.node.number m.kept) c.in-Err.ensures.same)
    ∙ ap (λ (r : Result ℕ LabFault). rewind_json c.args.node (count_steps c.args.node.number s.kept) r kept) c.in-Err.ensures.answer) c.write_step_refusal.ensures
