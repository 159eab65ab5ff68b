-- Where the lines of `save` lead (docs/REFERENCE.md, "Exploring"; this project's own).
use Rattle.std.specs.Prelude.{◌≡◌, List, [], ◌∷◌}
use Rattle.ga_text.specs.Lines.{Line}
use Rattle.ga_lab.specs.Machine.{MachineState}
use Rattle.ga_console.specs.Commands.{SpellsCommand}
use Rattle.ga_console.specs.Replies.{brief_reply}
use Rattle.ga_console.specs.declared.command.DebuggerCommand.{DebuggerCommand}

-- These lines are commands of the debugger, and its replies to them lead from one machine to another where memory is never wanting.
abbrev pub LinesLeadToState : MachineState → List Line → MachineState → Type 0
LinesLeadToState s [] last = last ≡ s
LinesLeadToState s (line ∷ lines) last = (asked : DebuggerCommand) × SpellsCommand asked line × LinesLeadToState (brief_reply s asked).1 lines last
