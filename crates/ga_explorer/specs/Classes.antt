-- Which commands change the machine (docs/REFERENCE.md, "Exploring"; this project's own).
use Rattle.std.specs.Prelude.{Option, slice_get, option_map, option_and_then}
use Rattle.ga_text.specs.Lines.{Line}
use Rattle.ga_text.specs.Parsing.{split_at_space}
use Rattle.ga_console.specs.declared.command.DebuggerCommand.{DebuggerCommand}
use Rattle.ga_console.specs.declared.command.DebuggerCommand.TheVariants.{Step, Back, Rewind}
use Rattle.ga_explorer.specs.Commands.{command_table, command_index_of_name}
use Rattle.ga_explorer.specs.NoCommand.{command_word}
use Rattle.ga_explorer.specs.declared.commands.ExplorerCommand.{ExplorerCommand}
use Rattle.ga_explorer.specs.declared.commands.ExplorerCommand.TheVariants.{AnswerQuery}
use Rattle.ga_explorer.specs.declared.forms.CommandClass.{CommandClass}
use Rattle.ga_explorer.specs.declared.forms.CommandClass.TheVariants.{Query, Change}

-- the class of the row with this name
abbrev pub command_class_of_name : Line → Option CommandClass
command_class_of_name name = option_map (λ row. row.class) (option_and_then (slice_get command_table) (command_index_of_name name))

-- the class of the command whose name the line begins with
abbrev pub command_class_of_line : Line → Option CommandClass
command_class_of_line line = command_class_of_name (command_word (split_at_space line) line)

-- a query is one by its type
abbrev pub class_of_explorer_command : ExplorerCommand → CommandClass
class_of_explorer_command (AnswerQuery question) = Query
class_of_explorer_command other = Change

-- three commands of the debugger make or remove events
abbrev pub class_of_debugger_command : DebuggerCommand → CommandClass
class_of_debugger_command (Step node) = Change
class_of_debugger_command Back = Change
class_of_debugger_command (Rewind node k) = Change
class_of_debugger_command other = Query
