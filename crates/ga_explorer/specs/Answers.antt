-- What exploring answers to a line (docs/REFERENCE.md, "Exploring"; this project's own).
use Rattle.std.specs.Prelude.{◌≡◌, ◌≢◌, ◌+◌, ◌<◌, ◌≤◌, ◌⊎◌, [], length, take, Some, None, Result, Ok, Err}
use Rattle.ga_text.specs.Lines.{max_input_line, Text, Line}
use Rattle.ga_text.specs.declared.output.WriteError.{WriteError}
use Rattle.ga_lab.specs.Machine.{MachineState}
use Rattle.ga_display.specs.declared.wording.RefusalWording.TheVariants.{Advised}
use Rattle.ga_console.specs.Replies.{IsAnswerInWording}
use Rattle.ga_console.specs.Commands.{SpellsCommand}
use Rattle.ga_console.specs.Session.{quit_line}
use Rattle.ga_console.specs.declared.responder.LineAction.{LineAction}
use Rattle.ga_console.specs.declared.responder.LineAction.TheVariants.{Answered, Refused, Quit}
use Rattle.ga_console.specs.declared.command.DebuggerCommand.{DebuggerCommand}
use Rattle.ga_explorer.specs.Commands.{explorer_command_of_line, AnswersExplorerCommand}
use Rattle.ga_explorer.specs.NoCommand.{unknown_command_text}
use Rattle.ga_explorer.specs.Opening.{ExplorerState}
use Rattle.ga_explorer.specs.declared.commands.ExplorerCommand.{ExplorerCommand}

-- the line is too long, or spells a command of the debugger
abbrev pub IsDebuggerLine : Line → Type 0
IsDebuggerLine line = (max_input_line < length line) ⊎ ((length line ≤ max_input_line) × (c : DebuggerCommand) × SpellsCommand c line)

-- the line is not too long, and spells no command of the debugger
abbrev pub IsNoDebuggerCommand : Line → Type 0
IsNoDebuggerCommand line = (length line ≤ max_input_line) × ((c : DebuggerCommand) → ¬ SpellsCommand c line)

-- The answer to a line that spells no command of exploring: that of the debugger, with what to do where it is refused for want of room; or
-- what to write in its place, where it spells none of the debugger either.
abbrev pub AnswersNonExplorerLine : MachineState → Line → Text → MachineState → Type 0
AnswersNonExplorerLine s line answer new = (IsDebuggerLine line × IsAnswerInWording Advised s line answer new) ⊎ (IsNoDebuggerCommand line × (answer ≡ unknown_command_text line) × (new ≡ s))

-- The answer to a line: it spells a command of exploring, or is answered as one that spells none.
pub data AnswersExplorerLine (e : ExplorerState) (line answer : Text) (new : ExplorerState) : Type 0 where
  explored : (asked : ExplorerCommand) → length line ≤ max_input_line → explorer_command_of_line e.notes line ≡ Some asked → AnswersExplorerCommand e asked answer new → AnswersExplorerLine e line answer new
  debugged : (length line ≤ max_input_line → explorer_command_of_line e.notes line ≡ None) → AnswersNonExplorerLine e.lab line answer new.lab → new.notes ≡ e.notes → AnswersExplorerLine e line answer new

-- a line, of which the first `max_input_line + 1` bytes are here, is answered and isn't quit
abbrev pub AnswersLineGivenItsPrefix : ExplorerState → Line → Text → ExplorerState → Type 0
AnswersLineGivenItsPrefix e line answer new = (part : Line) → line ≡ take (max_input_line + 1) part → AnswersExplorerLine e part answer new × (part ≢ quit_line)

-- a line is answered, as far as the answer can be written, or ends the session
abbrev pub AnswersLineOrQuits : ExplorerState → Line → ExplorerState → Result LineAction WriteError → Text → Type 0
AnswersLineOrQuits e line new (Ok Answered) answer = AnswersLineGivenItsPrefix e line answer new
AnswersLineOrQuits e line new (Ok Refused) answer = ⊥
AnswersLineOrQuits e line new (Ok Quit) answer = (line ≡ quit_line) × (new ≡ e) × (answer ≡ [])
AnswersLineOrQuits e line new (Err failed) answer = AnswersLineGivenItsPrefix e line answer new
