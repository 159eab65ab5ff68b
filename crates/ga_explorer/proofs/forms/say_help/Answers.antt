use Rattle.std.proofs.Common.{rules, ap, ◌∙◌}
use Rattle.ga_explorer.specs.Forms.{command_rows_text}
use Rattle.ga_explorer.proofs.forms.say_help.Goals as goal

pub returns : goal.returns
returns g c = (
  search rules,
  λ before said h.
      let done = c.say_rows.ensures.1 before said h in
      (done.0, done.1 ∙ ap command_rows_text c.command_table.ensures, done.2),
)
