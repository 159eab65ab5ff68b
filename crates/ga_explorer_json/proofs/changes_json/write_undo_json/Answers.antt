use Rattle.std.proofs.Common.{ℕ, length, Some, Result, codes, ap, ◌∙◌}
use Rattle.ga_lab.specs.Machine.{undo_answer}
use Rattle.ga_lab.specs.declared.fault.LabFault.{LabFault}
use Rattle.ga_explorer_json.specs.Refusals.{lab_refusal_json}
use Rattle.ga_explorer_json.specs.Changes.{removal_counts_json, undo_json}
use Rattle.ga_explorer_json.proofs.Writing.{answer_as}
use Rattle.ga_explorer_json.proofs.changes_json.write_undo_json.Goals as goal

pub returns-in-Ok-clause-said : goal.returns-in-Ok-clause-said
returns-in-Ok-clause-said g c =
    let s = c.args.lab.now in
    let kept = length c.undo.new.self.kept in
    answer_as g.W.Write.contents c.write_removed_events.result c.args.writer.now c.write_removed_events.new.writer (removal_counts_json (codes "back") (Some 1) c.counts.result.kept) (undo_json (undo_answer s) kept)
    (ap (λ (z : ℕ). removal_counts_json (codes "back") (Some 1) z) c.counts.ensures.kept ∙ ap (λ (r : Result (Unit {0}) LabFault). undo_json r kept) c.in-Ok.ensures.answer) c.write_removed_events.ensures

pub returns-in-Err-clause-said : goal.returns-in-Err-clause-said
returns-in-Err-clause-said g c =
    let s = c.args.lab.now in
    let kept = length c.undo.new.self.kept in
    answer_as g.W.Write.contents c.write_lab_refusal.result c.args.writer.now c.write_lab_refusal.new.writer (lab_refusal_json (codes "back") c.in-Err.fault) (undo_json (undo_answer s) kept)
    (ap (λ (r : Result (Unit {0}) LabFault). undo_json r kept) c.in-Err.ensures.answer) c.write_lab_refusal.ensures
