use Rattle.std.proofs.Common.{rules, ◌++◌}
use Rattle.ga_display.specs.Texts.{event_counts_text}
use Rattle.ga_text.proofs.WriteLemmas.{truncated_more, truncated_here}
use Rattle.ga_display.proofs.writing.write_event_counts.Goals as goal

pub returns-in_err-make_room : goal.returns-in_err-make_room
returns-in_err-make_room g c = (
  search rules,
  λ before said h.
      truncated_here c.from_residual.result _ before (said ++ event_counts_text c.args.counts.kept c.args.counts.made c.args.counts.limit) _ c.from_residual.ensures.0
      (truncated_more _ before said (event_counts_text c.args.counts.kept c.args.counts.made c.args.counts.limit) (c.in_err-make_room.ensures.said.1 before said h)),
)
