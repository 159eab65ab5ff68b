use Rattle.std.proofs.Common.{rules, ◌≡◌, ◌-◌, sym, ap, ◌∙◌}
use Rattle.ga_lab.specs.Machine.{NodeAtStep}
use Rattle.ga_provenance.specs.Deciding.{newest_decision}
use Rattle.ga_display.specs.Texts.{missing_step_text}
use Rattle.ga_explorer_text.specs.Because.{decisions_or_none_text}
use Rattle.ga_explorer_text.proofs.Because.{because_here, because_nowhere}
use Rattle.ga_explorer_text.proofs.decisions_before_step_text.write_decisions_answer.Goals as goal

pub returns-then-has_step : goal.returns-then-has_step
returns-then-has_step g c = (
  search rules,
  λ before said h.
      let notes = c.args.notes.now in
      let s = c.args.lab.now in
      let done = c.write_decisions.ensures.1 before said h in
      let at : c.new.result.near.step ≡ c.args.step = ap (λ (z : NodeAtStep). z.step) c.new.ensures.near in
      let told : done.0 ≡ decisions_or_none_text notes s c.args.node c.args.most (c.args.step - 1) (newest_decision s c.args.node (c.args.step - 1)) = rw (c.new.ensures.notes, c.new.ensures.lab, c.new.ensures.node, at) at done.1 in (
        done.0,
        told ∙ because_here notes s c.args.node c.args.step c.args.most (sym c.has_step.ensures.value ∙ c.if-has_step.true),
        done.2,
      ),
)

pub returns-else-has_step : goal.returns-else-has_step
returns-else-has_step g c = (
  search rules,
  λ before said h. (
    c.as_slice.result.now,
    c.as_slice.ensures.value ∙ c.missing_step_refusal.ensures ∙ ap (missing_step_text c.args.node) c.steps.ensures.steps ∙ because_nowhere c.args.notes.now c.args.lab.now c.args.node c.args.step c.args.most (sym c.has_step.ensures.value ∙ c.if-has_step.false),
    c.write_blocks.ensures.1 before said h,
  ),
)
