use Rattle.std.proofs.Common.{rules, ap, ◌∙◌}
use Rattle.ga_explorer_text.specs.Saved.{step_command_line, text_with_line_feed}
use Rattle.ga_explorer_text.proofs.Saying.{text_as}
use Rattle.ga_explorer_text.proofs.saved_text.say_event.Goals as goal

pub returns : goal.returns
returns g c = (
  search rules,
  λ before said h.
      text_as c.write_blocks.result _ before said c.as_slice.result.now _ c.write_blocks.new.self.pending.items
      (c.as_slice.ensures.value ∙ c.step_command_line.ensures ∙ ap (λ z. text_with_line_feed (step_command_line z)) c.own_or_writing_node.ensures) (c.write_blocks.ensures.1 before said h),
)
