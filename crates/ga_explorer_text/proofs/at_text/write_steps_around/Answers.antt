use Rattle.std.proofs.Common.{rules, ◌≡◌, ℕ, ◌+◌, ◌-◌, min, ap, sym, ◌∙◌, arith}
use Rattle.ga_event.specs.Told.{count_steps}
use Rattle.ga_lab.specs.Machine.{NodeAtStep}
use Rattle.ga_display.specs.Texts.{missing_step_text}
use Rattle.ga_explorer_text.specs.Around.{numbered_steps_text}
use Rattle.ga_explorer_text.proofs.Saying.{around_here, last_is, around_nowhere}
use Rattle.ga_explorer_text.proofs.at_text.write_steps_around.Goals as goal

pub returns-then-has_step : goal.returns-then-has_step
returns-then-has_step g c = (
  search rules,
  λ before said h.
      let notes = c.args.notes.now in
      let s = c.args.lab.now in
      let first : ℕ = c.saturating_sub-first.result in
      let last : ℕ = c.min-last.result in
      let done = c.say_places.ensures.1 before said h in
      let at : c.new.result.near.step ≡ last = ap (λ (z : NodeAtStep). z.step) c.new.ensures.near in
      let told : done.0 ≡ numbered_steps_text notes s c.args.node first (last - first) = rw (c.new.ensures.notes, c.new.ensures.lab, c.new.ensures.node, at) at done.1 in (
        done.0,
        told ∙ around_here notes s c.args.node c.args.step c.args.around first last (sym c.has_step.ensures.value ∙ c.if-has_step.true)
            (omega (arith, c.saturating_sub-first.ensures))
            (last_is (c.args.step + c.args.around) (count_steps c.args.node.number s.kept) c.saturating_add.result last c.saturating_add.ensures
            (c.min-last.ensures ∙ ap (λ (n : ℕ). min c.saturating_add.result n) c.steps.ensures.steps) (omega (arith, c.steps.ensures.steps, c.steps.type_inv))),
        done.2,
      ),
)

pub returns-else-has_step : goal.returns-else-has_step
returns-else-has_step g c = (
  search rules,
  λ before said h. (
    c.as_slice.result.now,
    c.as_slice.ensures.value ∙ c.missing_step_refusal.ensures ∙ ap (missing_step_text c.args.node) c.steps-else-has_step.ensures.steps ∙ around_nowhere c.args.notes.now c.args.lab.now c.args.node c.args.step c.args.around (sym c.has_step.ensures.value ∙ c.if-has_step.false),
    c.write_blocks.ensures.1 before said h,
  ),
)
