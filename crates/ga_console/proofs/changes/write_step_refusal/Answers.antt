use Rattle.std.proofs.Common.{rules, ℕ, ap, ◌∙◌}
use Rattle.ga_display.specs.Texts.{worded_step_refusal_text}
use Rattle.ga_console.proofs.changes.write_step_refusal.Goals as goal

pub returns : goal.returns
returns g c = search rules
