use Rattle.std.proofs.Common.{rules, ℕ, ap, ◌∙◌}
use Rattle.ga_grid.specs.declared.node_id.NodeId.{NodeId}
use Rattle.ga_display.specs.Texts.{independent_steps_text, worded_step_refusal_text}
use Rattle.ga_console.specs.Replies.{step_refusal}
use Rattle.ga_console.proofs.ReplyLemmas.{why_independent, why_told, why_refused}
use Rattle.ga_console.proofs.readings.write_why_reply.Goals as goal

pub returns-in-Ok-None : goal.returns-in-Ok-None
returns-in-Ok-None g c = (
  search rules,
  λ before said h.
      let none = rw c.in-Ok-None.field-0-is at c.in-Ok-None.ensures.ok in
      (independent_steps_text, why_independent c.args.wording c.args.lab.now c.args.from.0 c.args.to.0 c.args.from.1 c.args.to.1 none, c.write_text.ensures.1 before said h),
)

pub returns-in-Ok-Some : goal.returns-in-Ok-Some
returns-in-Ok-Some g c = (
  search rules,
  λ before said h.
      let told = rw c.in-Ok-Some.field-0-is at c.in-Ok-Some.ensures.ok in
      let done = c.say_chain.ensures.1 before said h in (
        done.0,
        why_told c.args.wording c.args.lab.now c.args.from.0 c.args.to.0 c.args.from.1 c.args.to.1 told.0 c.in-Ok-Some.chain.items c.as_slice.result.now done.0 told.1 told.2 (rw c.in-Ok-Some.field-0-is at c.as_slice.ensures.value) done.1,
        done.2,
      ),
)

pub returns-in-Err : goal.returns-in-Err
returns-in-Err g c = (
  search rules,
  λ before said h. (
    c.as_slice-in-Err.result.now,
    why_refused c.args.wording c.args.lab.now c.args.from.0 c.args.to.0 c.args.from.1 c.args.to.1 c.in-Err.fault c.as_slice-in-Err.result.now c.in-Err.ensures.err
        (c.as_slice-in-Err.ensures.value ∙ c.step_refusal-refusal.ensures ∙ ap (λ (n : ℕ). worded_step_refusal_text c.args.wording c.first_node_lacking_step-node.result n c.in-Err.fault) c.steps.ensures.steps
        ∙ ap (λ (node : NodeId). step_refusal c.args.wording c.args.lab.now node c.in-Err.fault) c.first_node_lacking_step-node.ensures),
    c.write_blocks.ensures.1 before said h,
  ),
)
