use Rattle.std.proofs.Common.{rules, List, ℕ, ◌++◌, refl, ap, ◌∙◌}
use Rattle.ga_text.proofs.WriteLemmas.{truncated_here, truncated_within}
use Rattle.ga_explorer_text.specs.SourceSuffix.{step_suffix_text}
use Rattle.ga_explorer_text.specs.Whence.{step_action_text}
use Rattle.ga_explorer_text.proofs.Saying.{joined_written}
use Rattle.ga_explorer_text.proofs.source_suffix.StepContext.say_head.Goals as goal

pub returns-in_err-write_blocks : goal.returns-in_err-write_blocks
returns-in_err-write_blocks g c = (
  search rules,
  λ before said h.
      let tail = step_suffix_text c.args.self.now.notes.now c.args.self.now.lab.now c.args.self.now.node c.args.self.now.near.step in
      let line : List ℕ = c.as_slice.result.now in (
        line ++ tail,
        ap (λ (t : List ℕ). t ++ tail) (c.as_slice.ensures.value ∙ c.head_line.ensures ∙ ap (step_action_text c.args.self.now.lab.now c.args.self.now.node) c.step.ensures.value),
        truncated_here c.from_residual.result _ before (said ++ (line ++ tail)) _ c.from_residual.ensures.0
            (truncated_within _ before said line tail (line ++ tail) refl (c.in_err-write_blocks.ensures.1 before said h)),
      ),
)

pub returns : goal.returns
returns g c = (
  search rules,
  λ before said h.
      let tail = step_suffix_text c.args.self.now.notes.now c.args.self.now.lab.now c.args.self.now.node c.args.self.now.near.step in
      let line : List ℕ = c.as_slice.result.now in (
        line ++ tail,
        ap (λ (t : List ℕ). t ++ tail) (c.as_slice.ensures.value ∙ c.head_line.ensures ∙ ap (step_action_text c.args.self.now.lab.now c.args.self.now.node) c.step.ensures.value),
        joined_written c.write_current_step_suffix.result _ before said line tail _ (c.write_current_step_suffix.ensures.1 before (said ++ line) (c.in_ok-write_blocks.ensures.1 before said h)),
      ),
)
