use Rattle.std.proofs.Common.{rules, ◌∙◌}
use Rattle.ga_explorer_text.specs.Races.{look_race_text}
use Rattle.ga_explorer_text.proofs.Saying.{text_as}
use Rattle.ga_explorer_text.proofs.races_text.say_reading.Goals as goal

pub returns : goal.returns
returns g c = (
  search rules,
  λ before said h.
      text_as c.write_blocks.result _ before said c.as_slice.result.now (look_race_text c.args.reading) c.write_blocks.new.self.pending.items
      (c.as_slice.ensures.value ∙ c.reading_line.ensures) (c.write_blocks.ensures.1 before said h),
)
