use Rattle.std.proofs.Common.{rules, ◌∙◌}
use Rattle.ga_explorer_text.specs.Texts.{transfer_line_text}
use Rattle.ga_explorer_text.proofs.Saying.{text_as}
use Rattle.ga_explorer_text.proofs.words_text.say_sent.Goals as goal

pub returns : goal.returns
returns g c = (
  search rules,
  λ before said h.
      text_as c.write_blocks.result _ before said c.as_slice.result.now (transfer_line_text c.args.from c.args.to c.args.sent.now) c.write_blocks.new.self.pending.items
      (c.as_slice.ensures.value ∙ c.sent_line.ensures) (c.write_blocks.ensures.1 before said h),
)
