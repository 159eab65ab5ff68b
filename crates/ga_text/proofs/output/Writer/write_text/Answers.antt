use Rattle.std.proofs.Common.{◌++◌}
use Rattle.ga_text.proofs.WriteLemmas.{truncated_more, truncated_here}
use Rattle.ga_text.proofs.output.Writer.write_text.Goals as goal

pub returns-in_err-make_room : goal.returns-in_err-make_room
returns-in_err-make_room g c = (
  c.in_err-make_room.ensures.said.0,
  λ before said h.
      truncated_here c.from_residual.result _ before (said ++ c.args.text.now) _ c.from_residual.ensures.0
      (truncated_more _ before said c.args.text.now (c.in_err-make_room.ensures.said.1 before said h)),
)
