use Rattle.std.proofs.Common.{rules, ap}
use Rattle.ga_explorer_text.specs.SourceSuffix.{step_suffix_text}
use Rattle.ga_explorer_text.proofs.Saying.{text_as}
use Rattle.ga_explorer_text.proofs.source_suffix.StepContext.write_current_step_suffix.Goals as goal

pub returns : goal.returns
returns g c = (
  search rules,
  λ before said h.
      let tail = step_suffix_text c.args.self.now.notes.now c.args.self.now.lab.now c.args.self.now.node in
      text_as c.write_step_suffix.result _ before said (tail c.step.result) (tail c.args.self.now.near.step) _ (ap tail c.step.ensures.value) (c.write_step_suffix.ensures.1 before said h),
)
