use Rattle.std.proofs.Common.{rules, List, ℕ, ◌++◌, refl, ap, ◌∙◌}
use Rattle.ga_text.proofs.WriteLemmas.{truncated_here, truncated_within}
use Rattle.ga_explorer_text.specs.SourceSuffix.{step_suffix_text}
use Rattle.ga_explorer_text.specs.Effects.{rollback_effect_text}
use Rattle.ga_explorer_text.proofs.Saying.{text_as, joined_written}
use Rattle.ga_explorer_text.proofs.rollback_effects_text.say_effect.Goals as goal

pub returns-in_err-write_blocks : goal.returns-in_err-write_blocks
returns-in_err-write_blocks g c = (
  search rules,
  λ before said h.
      let whole = rollback_effect_text c.args.notes.now c.args.lab.now c.args.effect in
      let tail = step_suffix_text c.args.notes.now c.args.lab.now c.args.effect.node c.args.effect.first in
      truncated_here c.from_residual.result _ before (said ++ whole) _ c.from_residual.ensures.0
      (truncated_within _ before said c.as_slice.result.now tail whole
      (ap (λ (t : List ℕ). t ++ tail) (c.as_slice.ensures.value ∙ c.rollback_effect_summary_text.ensures)) (c.in_err-write_blocks.ensures.1 before said h)),
)

pub returns : goal.returns
returns g c = (
  search rules,
  λ before said h.
      let whole = rollback_effect_text c.args.notes.now c.args.lab.now c.args.effect in
      let line : List ℕ = c.as_slice.result.now in
      let tail = step_suffix_text c.new-context.result.notes.now c.new-context.result.lab.now c.args.effect.node c.args.effect.first in
      text_as c.write_step_suffix.result _ before said (line ++ tail) whole _
      (ap (λ (t : List ℕ). t ++ tail) (c.as_slice.ensures.value ∙ c.rollback_effect_summary_text.ensures) ∙ rw (c.new-context.ensures.notes, c.new-context.ensures.lab) refl)
      (joined_written c.write_step_suffix.result _ before said line tail _ (c.write_step_suffix.ensures.1 before (said ++ line) (c.in_ok-write_blocks.ensures.1 before said h))),
)
