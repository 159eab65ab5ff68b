use Rattle.std.proofs.Common.{rules, ◌∙◌, sym, ap}
use Rattle.ga_explorer.specs.Commands.{text_query_text}
use Rattle.ga_explorer.proofs.command_table.TextQuery.write_text.Goals as goal

pub returns-in-Help : goal.returns-in-Help
returns-in-Help g c = (
  search rules,
  λ before said h.
      let done = c.say_help.ensures.1 before said h in (
        done.0,
        done.1 ∙ ap (text_query_text c.args.lab.now) (sym c.in-Help.is),
        done.2,
      ),
)

pub returns-in-CommandHelp : goal.returns-in-CommandHelp
returns-in-CommandHelp g c = (
  search rules,
  λ before said h.
      let done = c.say_command.ensures.1 before said h in (
        done.0,
        done.1 ∙ ap (text_query_text c.args.lab.now) (sym c.in-CommandHelp.is),
        done.2,
      ),
)
