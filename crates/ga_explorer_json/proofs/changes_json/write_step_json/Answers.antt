use Rattle.std.proofs.Common.{Ok, codes, ap, ◌∙◌}
use Rattle.ga_json.specs.Fields.{row_json}
use Rattle.ga_explorer_json.specs.Refusals.{lab_refusal_json}
use Rattle.ga_explorer_json.specs.Changes.{step_answer_json, IsStepJson}
use Rattle.ga_explorer_json.proofs.Changes.{step_made, step_refused}
use Rattle.ga_explorer_json.proofs.Writing.{line_of, object_as}
use Rattle.ga_explorer_json.proofs.changes_json.write_step_json.Goals as goal

pub returns-in-Ok : goal.returns-in-Ok
returns-in-Ok g c =
    let s = c.args.lab.now in
    let new = c.step.new.self in
    let value = step_answer_json (Ok c.in-Ok.made) in
    line_of g.W.Write.contents c.write_object.result c.args.writer.now c.write_object.new.writer (IsStepJson s c.args.node new) value
    (step_made s c.args.node new c.in-Ok.made c.in-Ok.ensures.answer c.in-Ok.ensures.ok)
    (object_as g.W.Write.contents c.write_object.result c.args.writer.now c.write_object.new.writer c.as_slice.result.now value (ap row_json c.as_slice.ensures.value ∙ c.step_row.ensures)
    c.write_object.ensures)

pub returns-in-Err : goal.returns-in-Err
returns-in-Err g c =
    let s = c.args.lab.now in
    let new = c.step.new.self in
    line_of g.W.Write.contents c.write_lab_refusal.result c.args.writer.now c.write_lab_refusal.new.writer (IsStepJson s c.args.node new) (lab_refusal_json (codes "step") c.in-Err.fault)
    (step_refused s c.args.node new c.in-Err.fault c.in-Err.ensures.answer c.in-Err.ensures.err) c.write_lab_refusal.ensures
