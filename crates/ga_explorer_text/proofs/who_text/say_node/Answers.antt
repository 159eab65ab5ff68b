use Rattle.std.proofs.Common.{rules, ◌∙◌}
use Rattle.ga_grid.specs.Chip.{records_of_chip}
use Rattle.ga_causal.specs.Dependence.{is_node_flagged}
use Rattle.ga_explorer_text.specs.Waiting.{waiting_non_idle_node_text}
use Rattle.ga_explorer_text.proofs.Saying.{text_as}
use Rattle.ga_explorer_text.proofs.who_text.say_node.Goals as goal

pub returns : goal.returns
returns g c = (
  search rules,
  λ before said h.
      text_as c.write_blocks.result _ before said c.as_slice.result.now (waiting_non_idle_node_text (records_of_chip c.args.chip.now) (is_node_flagged c.args.idle.now) c.args.node.number) c.write_blocks.new.self.pending.items
      (c.as_slice.ensures.value ∙ c.busy_line.ensures) (c.write_blocks.ensures.1 before said h),
)
