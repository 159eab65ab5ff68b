use Rattle.std.proofs.Common.{rules, ◌++◌}
use Rattle.ga_display.specs.Texts.{removed_events_text}
use Rattle.ga_text.proofs.WriteLemmas.{truncated_more, truncated_here}
use Rattle.ga_display.proofs.writing.write_removed_events.Goals as goal

pub returns-in_err-make_room : goal.returns-in_err-make_room
returns-in_err-make_room g c = (
  search rules,
  λ before said h.
      truncated_here c.from_residual.result _ before (said ++ removed_events_text c.args.removed c.args.kept) _ c.from_residual.ensures.0
      (truncated_more _ before said (removed_events_text c.args.removed c.args.kept) (c.in_err-make_room.ensures.said.1 before said h)),
)
