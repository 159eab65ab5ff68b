use Rattle.std.proofs.Common.{ap, ◌∙◌}
use Rattle.ga_console.specs.inner.Parsing.{debugger_command_of_split_line}
use Rattle.ga_console.proofs.Spelled.{told_some, told_only, told_none}
use Rattle.ga_console.proofs.command.spelled_by.Goals as goal

pub returns-in-Some-clause-some : goal.returns-in-Some-clause-some
returns-in-Some-clause-some c = told_some _ c.args.line.now (c.debugger_command_with_arguments.ensures ∙ ap (λ found. debugger_command_of_split_line found c.args.line.now) c.in-Some.ensures)

pub returns-in-Some-clause-only : goal.returns-in-Some-clause-only
returns-in-Some-clause-only c = told_only _ c.args.line.now (c.debugger_command_with_arguments.ensures ∙ ap (λ found. debugger_command_of_split_line found c.args.line.now) c.in-Some.ensures)

pub returns-in-Some-clause-none : goal.returns-in-Some-clause-none
returns-in-Some-clause-none c = told_none _ c.args.line.now (c.debugger_command_with_arguments.ensures ∙ ap (λ found. debugger_command_of_split_line found c.args.line.now) c.in-Some.ensures)

pub returns-in-None-clause-some : goal.returns-in-None-clause-some
returns-in-None-clause-some c = told_some _ c.args.line.now (c.alone.ensures ∙ ap (λ found. debugger_command_of_split_line found c.args.line.now) c.in-None.ensures)

pub returns-in-None-clause-only : goal.returns-in-None-clause-only
returns-in-None-clause-only c = told_only _ c.args.line.now (c.alone.ensures ∙ ap (λ found. debugger_command_of_split_line found c.args.line.now) c.in-None.ensures)

pub returns-in-None-clause-none : goal.returns-in-None-clause-none
returns-in-None-clause-none c = told_none _ c.args.line.now (c.alone.ensures ∙ ap (λ found. debugger_command_of_split_line found c.args.line.now) c.in-None.ensures)
