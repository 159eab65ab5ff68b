use Rattle.std.proofs.Common.{rules, ℕ, ◌≡◌, Some, sym, ap, ◌∙◌, inl, inr, subst}
use Rattle.ga_lab.specs.Machine.{NodeAtStep}
use Rattle.ga_provenance.proofs.Made.{has_step_so}
use Rattle.ga_display.specs.Texts.{missing_step_text}
use Rattle.ga_explorer_text.specs.Whence.{IsStepOrProvenanceAnswer, named_or_selected_part_value, queried_step_text}
use Rattle.ga_explorer_text.proofs.whence_text.write_provenance_answer.Goals as goal

pub returns-then-not-has_step : goal.returns-then-not-has_step
returns-then-not-has_step g c = (
  search rules,
  λ before said h. (
    c.as_slice.result.now,
    inl (sym c.has_step.ensures.value ∙ c.if-not-has_step.true, c.as_slice.ensures.value ∙ c.missing_step_refusal.ensures ∙ ap (missing_step_text c.args.node) c.steps.ensures.steps),
    c.write_blocks.ensures.1 before said h,
  ),
)

pub named_or_selected_part_value-requires-clause-near : goal.named_or_selected_part_value-requires-clause-near
named_or_selected_part_value-requires-clause-near g c = has_step_so c.args.lab.now c.args.node c.args.step c.new-here.result.near c.new-here.ensures.near

pub returns-in-Some : goal.returns-in-Some
returns-in-Some g c = (
  search rules,
  λ before said h.
      let s = c.args.lab.now in
      let done = c.say_asked.ensures.1 before said h in
      let at : c.new-here.result.near.step ≡ c.args.step = ap (λ (z : NodeAtStep). z.step) c.new-here.ensures.near in
      let told : IsStepOrProvenanceAnswer c.args.notes.now s c.args.node c.args.step c.args.first (Some c.in-Some.value) done.0 = rw (c.new-here.ensures.notes, c.new-here.ensures.lab, c.new-here.ensures.node, at) at done.1 in (
        done.0,
        inr (
          sym c.has_step.ensures.value ∙ c.if-not-has_step.false,
          subst (λ v. IsStepOrProvenanceAnswer c.args.notes.now s c.args.node c.args.step c.args.first v done.0) (c.in-Some.ensures.value ∙ ap (λ (k : ℕ). named_or_selected_part_value s c.args.node k c.args.part) at) told,
        ),
        done.2,
      ),
)

pub returns-in-None : goal.returns-in-None
returns-in-None g c = (
  search rules,
  λ before said h.
      let s = c.args.lab.now in
      let done = c.say_head.ensures.1 before said h in
      let at : c.new-here.result.near.step ≡ c.args.step = ap (λ (z : NodeAtStep). z.step) c.new-here.ensures.near in
      let told : done.0 ≡ queried_step_text c.args.notes.now s c.args.node c.args.step = rw (c.new-here.ensures.notes, c.new-here.ensures.lab, c.new-here.ensures.node, at) at done.1 in (
        done.0,
        inr (
          sym c.has_step.ensures.value ∙ c.if-not-has_step.false,
          subst (λ v. IsStepOrProvenanceAnswer c.args.notes.now s c.args.node c.args.step c.args.first v done.0) (c.in-None.ensures.value ∙ ap (λ (k : ℕ). named_or_selected_part_value s c.args.node k c.args.part) at) told,
        ),
        done.2,
      ),
)
