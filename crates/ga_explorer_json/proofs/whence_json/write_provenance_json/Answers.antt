use Rattle.std.proofs.Common.{◌≡◌, ℕ, None, Some, codes, sym, ap, ◌∙◌, refl}
use Rattle.ga_event.specs.Told.{count_steps}
use Rattle.ga_lab.specs.Machine.{NodeAtStep}
use Rattle.ga_lab.specs.declared.fault.LabFault.TheVariants.{NoStep}
use Rattle.ga_provenance.proofs.Made.{has_step_so}
use Rattle.ga_explorer_text.specs.Whence.{named_or_selected_part_value}
use Rattle.ga_explorer_json.specs.Refusals.{refusal_json_about_step}
use Rattle.ga_explorer_json.specs.Whence.{no_provenance_lines_json, IsQueriedValueJson, IsProvenanceJson}
use Rattle.ga_explorer_json.proofs.Refusals.{counted}
use Rattle.ga_explorer_json.proofs.Whence.{whence_nowhere, whence_here}
use Rattle.ga_explorer_json.proofs.Writing.{answer_as, line_of, line_as}
use Rattle.ga_explorer_json.proofs.whence_json.write_provenance_json.Goals as goal

pub returns-then-not-has_step : goal.returns-then-not-has_step
returns-then-not-has_step g c =
    let notes = c.args.notes.now in
    let s = c.args.lab.now in
    let refusal = refusal_json_about_step (codes "whence") c.args.node (count_steps c.args.node.number s.kept) NoStep in
    line_of g.W.Write.contents c.write_step_refusal.result c.args.writer.now c.write_step_refusal.new.writer (IsProvenanceJson notes s c.args.node c.args.step c.args.part c.args.first)
    refusal (whence_nowhere notes s c.args.node c.args.step c.args.part c.args.first (sym c.has_step.ensures.value ∙ c.if-not-has_step.true))
    (answer_as g.W.Write.contents c.write_step_refusal.result c.args.writer.now c.write_step_refusal.new.writer (refusal_json_about_step (codes "whence") c.args.node c.steps-count.result NoStep) refusal
    (counted (codes "whence") c.args.node _ _ NoStep c.steps-count.ensures.steps) c.write_step_refusal.ensures)

pub named_or_selected_part_value-requires-clause-near : goal.named_or_selected_part_value-requires-clause-near
named_or_selected_part_value-requires-clause-near g c = has_step_so c.args.lab.now c.args.node c.args.step c.walk_node_from_step-near.result c.walk_node_from_step-near.ensures

pub returns-in-Some : goal.returns-in-Some
returns-in-Some g c =
    let notes = c.args.notes.now in
    let s = c.args.lab.now in
    let node = c.args.node in
    let step = c.args.step in
    let part = c.args.part in
    let first = c.args.first in
    let value = Some c.in-Some.value in
    let at : c.walk_node_from_step-near.result.step ≡ step = ap (λ (z : NodeAtStep). z.step) c.walk_node_from_step-near.ensures in
    line_as g.W.Write.contents c.write_lines.result c.args.writer.now c.write_lines.new.writer (IsQueriedValueJson notes s node step first value) (IsProvenanceJson notes s node step part first)
    (λ answer h. whence_here notes s node step part first value answer (sym c.has_step.ensures.value ∙ c.if-not-has_step.false)
    (c.in-Some.ensures.value ∙ ap (λ (k : ℕ). named_or_selected_part_value s node k part) at) h) c.write_lines.ensures

pub returns-in-None : goal.returns-in-None
returns-in-None g c =
    let notes = c.args.notes.now in
    let s = c.args.lab.now in
    let node = c.args.node in
    let step = c.args.step in
    let part = c.args.part in
    let first = c.args.first in
    let at : c.walk_node_from_step-near.result.step ≡ step = ap (λ (z : NodeAtStep). z.step) c.walk_node_from_step-near.ensures in
    line_of g.W.Write.contents c.write_no_lines.result c.args.writer.now c.write_no_lines.new.writer (IsProvenanceJson notes s node step part first) (no_provenance_lines_json notes s node step first)
    (whence_here notes s node step part first None (no_provenance_lines_json notes s node step first) (sym c.has_step.ensures.value ∙ c.if-not-has_step.false)
    (c.in-None.ensures.value ∙ ap (λ (k : ℕ). named_or_selected_part_value s node k part) at) refl) c.write_no_lines.ensures
