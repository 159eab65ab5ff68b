use Rattle.std.proofs.Common.{[], true, false, codes, ap, ◌∙◌}
use Rattle.ga_grid.specs.declared.node_id.NodeId.{NodeId}
use Rattle.ga_event.specs.Told.{count_steps}
use Rattle.ga_console.specs.Replies.{first_node_lacking_step}
use Rattle.ga_explorer_json.specs.Refusals.{refusal_json_about_step}
use Rattle.ga_explorer_json.specs.Steps.{chain_json, IsWhyJson}
use Rattle.ga_explorer_json.proofs.Steps.{why_none, why_some, why_refused}
use Rattle.ga_explorer_json.proofs.Refusals.{counted}
use Rattle.ga_explorer_json.proofs.Writing.{answer_as, line_of}
use Rattle.ga_explorer_json.proofs.steps_json.write_chain_json.Goals as goal

pub returns-in-Ok-Some : goal.returns-in-Ok-Some
returns-in-Ok-Some g c =
    let s = c.args.lab.now in
    let told = rw c.in-Ok-Some.field-0-is at c.in-Ok-Some.ensures.ok in
    line_of g.W.Write.contents c.write_chain.result c.args.writer.now c.write_chain.new.writer (IsWhyJson s c.args.from.0 c.args.from.1 c.args.to.0 c.args.to.1) (chain_json true c.as_slice.result.now)
    (why_some s c.args.from.0 c.args.from.1 c.args.to.0 c.args.to.1 told.0 c.as_slice.result.now c.in-Ok-Some.chain.items told.1 told.2 (rw c.in-Ok-Some.field-0-is at c.as_slice.ensures.value)) c.write_chain.ensures

pub returns-in-Ok-None : goal.returns-in-Ok-None
returns-in-Ok-None g c =
    let s = c.args.lab.now in
    line_of g.W.Write.contents c.write_chain-in-Ok-None.result c.args.writer.now c.write_chain-in-Ok-None.new.writer (IsWhyJson s c.args.from.0 c.args.from.1 c.args.to.0 c.args.to.1) (chain_json false [])
    (why_none s c.args.from.0 c.args.from.1 c.args.to.0 c.args.to.1 (rw c.in-Ok-None.field-0-is at c.in-Ok-None.ensures.ok)) c.write_chain-in-Ok-None.ensures

pub returns-in-Err : goal.returns-in-Err
returns-in-Err g c =
    let s = c.args.lab.now in
    let node = first_node_lacking_step s c.args.from.0 c.args.from.1 c.args.to.0 in
    let refusal = refusal_json_about_step (codes "why") node (count_steps node.number s.kept) c.in-Err.fault in
    line_of g.W.Write.contents c.write_step_refusal.result c.args.writer.now c.write_step_refusal.new.writer (IsWhyJson s c.args.from.0 c.args.from.1 c.args.to.0 c.args.to.1)
    refusal (why_refused s c.args.from.0 c.args.from.1 c.args.to.0 c.args.to.1 c.in-Err.fault c.in-Err.ensures.err)
    (answer_as g.W.Write.contents c.write_step_refusal.result c.args.writer.now c.write_step_refusal.new.writer
    (refusal_json_about_step (codes "why") c.first_node_lacking_step-node.result c.steps.result c.in-Err.fault) refusal
    (counted (codes "why") c.first_node_lacking_step-node.result _ _ c.in-Err.fault c.steps.ensures.steps
    ∙ ap (λ (n : NodeId). refusal_json_about_step (codes "why") n (count_steps n.number s.kept) c.in-Err.fault) c.first_node_lacking_step-node.ensures) c.write_step_refusal.ensures)
