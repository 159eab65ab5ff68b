use Rattle.std.proofs.Common.{rules, ◌++◌}
use Rattle.ga_node.specs.Record.{record_of_node}
use Rattle.ga_display.specs.Texts.{node_text}
use Rattle.ga_text.proofs.WriteLemmas.{truncated_more, truncated_here}
use Rattle.ga_display.proofs.node_text.write_node.Goals as goal

pub returns-in_err-make_room : goal.returns-in_err-make_room
returns-in_err-make_room g c = (
  search rules,
  λ before said h.
      truncated_here c.from_residual.result _ before (said ++ node_text c.args.node (record_of_node c.args.at.now)) _ c.from_residual.ensures.0
      (truncated_more _ before said (node_text c.args.node (record_of_node c.args.at.now)) (c.in_err-make_room.ensures.said.1 before said h)),
)
