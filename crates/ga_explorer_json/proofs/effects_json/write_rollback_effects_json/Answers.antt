use Rattle.std.proofs.Common.{codes, ap, ◌∙◌}
use Rattle.ga_event.specs.Told.{count_steps}
use Rattle.ga_lab.specs.Machine.{MachineState}
use Rattle.ga_explorer_json.specs.Refusals.{refusal_json_about_step}
use Rattle.ga_explorer_json.specs.Effects.{listed_rollback_effects_json, IsRollbackEffectsJson}
use Rattle.ga_explorer_json.proofs.Effects.{effects_found, effects_refused}
use Rattle.ga_explorer_json.proofs.Refusals.{counted}
use Rattle.ga_explorer_json.proofs.Writing.{answer_as, line_of}
use Rattle.ga_explorer_json.proofs.effects_json.write_rollback_effects_json.Goals as goal

pub returns-in-Ok-clause-said : goal.returns-in-Ok-clause-said
returns-in-Ok-clause-said g c =
    let notes = c.args.notes.now in
    let s = c.args.lab.now in
    let node = c.args.node in
    let step = c.args.step in
    let events = c.in-Ok.effects.events in
    let nodes = c.as_slice-nodes.result.now in
    line_of g.W.Write.contents c.write_listed_effects.result c.args.writer.now c.write_listed_effects.new.writer (IsRollbackEffectsJson notes s node step) (listed_rollback_effects_json notes s node step events nodes)
    (effects_found notes s node step events nodes c.in-Ok.ensures.events (c.as_slice-nodes.ensures.value ∙ c.in-Ok.ensures.nodes))
    (answer_as g.W.Write.contents c.write_listed_effects.result c.args.writer.now c.write_listed_effects.new.writer
    (listed_rollback_effects_json notes c.find_rollback_effects.new.lab node step events nodes) (listed_rollback_effects_json notes s node step events nodes)
    (ap (λ (m : MachineState). listed_rollback_effects_json notes m node step events nodes) c.find_rollback_effects.ensures.same) c.write_listed_effects.ensures)

pub returns-in-Err-clause-said : goal.returns-in-Err-clause-said
returns-in-Err-clause-said g c =
    let notes = c.args.notes.now in
    let s = c.args.lab.now in
    let refusal = refusal_json_about_step (codes "effects") c.args.node (count_steps c.args.node.number s.kept) c.in-Err.fault in
    line_of g.W.Write.contents c.write_step_refusal.result c.args.writer.now c.write_step_refusal.new.writer (IsRollbackEffectsJson notes s c.args.node c.args.step)
    refusal (effects_refused notes s c.args.node c.args.step c.in-Err.fault c.in-Err.ensures.err)
    (answer_as g.W.Write.contents c.write_step_refusal.result c.args.writer.now c.write_step_refusal.new.writer (refusal_json_about_step (codes "effects") c.args.node c.steps.result c.in-Err.fault) refusal
    (counted (codes "effects") c.args.node _ _ c.in-Err.fault (c.steps.ensures.steps ∙ ap (λ (m : MachineState). count_steps c.args.node.number m.kept) c.find_rollback_effects.ensures.same)) c.write_step_refusal.ensures)
