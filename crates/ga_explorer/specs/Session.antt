-- What a whole session of exploring may write, and how it may end (docs/REFERENCE.md, "Exploring"; this project's own).
use Rattle.std.specs.Prelude.{◌≡◌, ◌&&◌, ℕ, ◌-◌, ◌++◌, [], length, codes, nat_eq, Bool, true, false, Option, Result, Ok, Err}
use Rattle.std.specs.List.{starts_with}
use Rattle.ga_text.specs.Lines.{Bytes, Text}
use Rattle.ga_text.specs.Input.{input_limit}
use Rattle.ga_text.specs.Output.{ready_line_text}
use Rattle.ga_console.specs.Run.{status_of_commands_end}
use Rattle.ga_console.specs.Session.{AnswerRelation, ServesCommands, IsWholeOrPrefixOnWriteError}
use Rattle.ga_console.specs.declared.commands.CommandsEnd.{CommandsEnd}
use Rattle.ga_console.specs.declared.commands.CommandsEnd.TheVariants.{InputEnded, Quit, Refused, PastLimit, ReadFailed}
use Rattle.ga_text.specs.declared.output.WriteError.{WriteError}
use Rattle.ga_console.specs.declared.run.Status.{Status}
use Rattle.ga_console.specs.declared.run.Status.TheVariants.{StreamFault, CommandRefused}
use Rattle.ga_explorer.specs.Opening.{ExplorerState, OpensTextBeforeCommands, IsTextBeforeCommands, IsUnopenedSession}
use Rattle.ga_explorer.specs.Answers.{AnswersExplorerLine}

-- ---- a session that ends at its first refused command, if it is strict

-- the answer is a refusal
abbrev pub is_refusal_answer : Text → Bool
is_refusal_answer answer = starts_with nat_eq answer (codes "no ")

-- the line is answered, and the session continues
abbrev pub AnswersLineAndContinues : Bool → AnswerRelation ExplorerState
AnswersLineAndContinues strict e line answer new = AnswersExplorerLine e line answer new × ((strict && is_refusal_answer answer) ≡ false)

-- the line is refused, and so the session ends
abbrev pub AnswersAndEndsSession : Bool → AnswerRelation ExplorerState
AnswersAndEndsSession strict e line answer new = AnswersExplorerLine e line answer new × ((strict && is_refusal_answer answer) ≡ true)

-- a line past the bound of the input is refused, too
abbrev pub status_past_input_limit : Bool → Status
status_past_input_limit true = CommandRefused
status_past_input_limit false = StreamFault

abbrev pub session_status : Bool → Result CommandsEnd WriteError → Status
session_status strict (Ok InputEnded) = status_of_commands_end (Ok InputEnded)
session_status strict (Ok Quit) = status_of_commands_end (Ok Quit)
session_status strict (Ok (Refused number)) = status_of_commands_end (Ok (Refused number))
session_status strict (Ok (PastLimit number)) = status_past_input_limit strict
session_status strict (Ok ReadFailed) = status_of_commands_end (Ok ReadFailed)
session_status strict (Err failed) = status_of_commands_end (Err failed)

-- ---- a session that may prompt for commands

-- What is written before a command is read, if the session prompts for commands.
abbrev pub prompt_text : Bool → Text
prompt_text true = codes "> "
prompt_text false = []

-- What is written for a line after which the session continues: its answer, and the prompt of the next command.
abbrev pub AnswersWithPrompt : Bool → Bool → AnswerRelation ExplorerState
AnswersWithPrompt true strict e line written new = (answer : Text) × AnswersLineAndContinues strict e line answer new × (written ≡ answer ++ prompt_text true)
AnswersWithPrompt false strict e line written new = AnswersLineAndContinues strict e line written new

-- The text, an image or source, was accepted, and so was the image that gives its chip, if there is one; and the commands after
-- it were served to this ending.
pub record IsServedExplorerSession (prompts strict : Bool) (chip : Option Text) (limit : ℕ) (read rest : Bytes) (written : Text) (ending : Result CommandsEnd WriteError) : Type 0 where
  pub text : Text
  pub commands : Bytes
  pub begun : ExplorerState
  pub said : Text
  pub splits : read ≡ text ++ commands
  pub front : IsTextBeforeCommands text (commands ++ rest)
  pub opens : OpensTextBeforeCommands chip text limit begun
  pub last : ExplorerState
  pub serves : ServesCommands (AnswersWithPrompt prompts strict) (AnswersAndEndsSession strict) (input_limit - length text) begun commands rest said last ending
  pub out : IsWholeOrPrefixOnWriteError ending (ready_line_text ++ (prompt_text prompts ++ said)) written

-- What a session may have written, where read was read of its input and rest is left of it, and its status.
pub data RunsExplorer (prompts strict : Bool) (chip : Option Text) (limit : ℕ) (read rest : Bytes) (written : Text) (status : Status) : Type 0 where
  served : (ending : Result CommandsEnd WriteError) → status ≡ session_status strict ending → IsServedExplorerSession prompts strict chip limit read rest written ending
      → RunsExplorer prompts strict chip limit read rest written status
  unbegun : IsUnopenedSession chip read rest written status → RunsExplorer prompts strict chip limit read rest written status
