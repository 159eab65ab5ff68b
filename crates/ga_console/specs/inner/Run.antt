-- What is written once the image was read.
use Rattle.std.specs.Prelude.{Option, Some, None, ◌≡◌, ◌≢◌, ◌≤◌, ◌<◌, ℕ, ◌∷◌, ◌++◌, length, take, slice_index, decimal, ◌+◌, [], Result, Ok, Err, ◌⊎◌, ◌-◌}
use Rattle.ga_text.specs.Lines.{Bytes, Line, max_input_line, HasNoLineFeed, Text}
use Rattle.ga_text.specs.Parsing.{IsStepNumberInRange}
use Rattle.ga_console.specs.Commands.{SpellsCommand}
use Rattle.ga_console.specs.Session.{quit_line, AnswerRelation, AnswersLine, ServesCommands, IsWholeOrPrefixOnWriteError}
use Rattle.ga_console.specs.declared.responder.LineAction.{LineAction}
use Rattle.ga_console.specs.declared.responder.LineAction.TheVariants as turn
use Rattle.ga_console.specs.declared.commands.CommandsEnd.TheVariants as end
use Rattle.ga_console.specs.declared.command.DebuggerCommand.{DebuggerCommand}
use Rattle.ga_console.specs.declared.fast_path.CommandAtTextStart.{CommandAtTextStart}
use Rattle.ga_console.specs.declared.fast_path.CommandAtTextStart.TheVariants.{SpelledCommand, OtherWholeLine, NoWholeLine}
use Rattle.ga_text.specs.declared.output.WriteError.{WriteError}
use Rattle.ga_text.specs.Output.{TextHasPrefix, ready_line_text}
use Rattle.ga_console.specs.declared.run.Status.{Status}
use Rattle.ga_console.specs.declared.run.Status.TheVariants.{Done, ImageRefused, StreamFault, NotFinished, CommandRefused}
use Rattle.ga_console.specs.Race.{IsWorkerRaceReport, IsImageRefusal, IsTruncationOfText}
use Rattle.ga_image.specs.declared.fault.ImageFault.{ImageFault}
use Rattle.ga_text.specs.Input.{input_limit}
use Rattle.ga_lab.specs.Machine.{MachineState}
use Rattle.ga_console.specs.declared.commands.CommandsEnd.{CommandsEnd}
use Rattle.ga_console.specs.Run.{status_of_commands_end, WritesImageRefusal, IsOpenedOnImage, IsFaultOfImage}

-- ---- A line that was read whole and is not taken yet

-- the bytes begin with a line of `count` bytes that is the command, which isn't quit
pub record IsCommandAhead (bytes : Bytes) (asked : DebuggerCommand) (count : ℕ) : Type 0 where
  pub line : Line
  pub more : Bytes
  pub splits : bytes ≡ line ++ 10 ∷ more
  pub no_feed : HasNoLineFeed line
  pub counts : length line ≡ count
  pub short : count ≤ max_input_line
  pub spelled : SpellsCommand asked line
  pub not_quit : line ≢ quit_line

-- the bytes begin with a line of `count` bytes and its line feed
pub record IsLineAhead (bytes : Bytes) (count : ℕ) : Type 0 where
  pub below : count < length bytes
  pub no_feed : HasNoLineFeed (take count bytes)
  pub feed : slice_index bytes count ≡ 10
  pub short : count ≤ max_input_line

-- the bytes begin with a number of `digits` digits, followed by a line feed
pub record IsNumberAhead (bytes : Bytes) (number digits : ℕ) : Type 0 where
  pub line : IsLineAhead bytes digits
  pub few : digits ≤ 20
  pub fits : IsStepNumberInRange number
  pub spelled : take digits bytes ≡ decimal number

-- what the bytes begin with
abbrev pub HasCommandAtTextStart : Bytes → CommandAtTextStart → Type 0
HasCommandAtTextStart bytes (SpelledCommand asked count) = IsCommandAhead bytes asked count
HasCommandAtTextStart bytes (OtherWholeLine count) = IsLineAhead bytes count
HasCommandAtTextStart bytes NoWholeLine = Unit {0}

-- ---- what private contracts, invariants and bridges cite

-- a line that spells this command of the debugger is answered
abbrev pub AnswersCommand : {M : Type 0} → AnswerRelation M → M → DebuggerCommand → M → Text → Type 0
AnswersCommand A m asked new answer = (line : Line) → length line ≤ max_input_line → SpellsCommand asked line → A m line answer new

-- a line is answered, as far as the answer can be written, and the session goes on or ends; or it is quit
abbrev pub AnswersLineOrEnds : {M : Type 0} → AnswerRelation M → AnswerRelation M → M → Line → M → Result LineAction WriteError → Text → Type 0
AnswersLineOrEnds A R m line new (Ok turn.Answered) answer = AnswersLine A m line answer new
AnswersLineOrEnds A R m line new (Ok turn.Refused) answer = AnswersLine R m line answer new
AnswersLineOrEnds A R m line new (Ok turn.Quit) answer = (line ≡ quit_line) × (new ≡ m) × (answer ≡ [])
AnswersLineOrEnds A R m line new (Err failed) answer = AnswersLine A m line answer new ⊎ AnswersLine R m line answer new

-- a line that spells this command of the debugger is answered so
abbrev pub AnswersCommandOrEnds : {M : Type 0} → AnswerRelation M → AnswerRelation M → M → DebuggerCommand → M → Result LineAction WriteError → Text → Type 0
AnswersCommandOrEnds A R m asked new (Ok turn.Answered) answer = AnswersCommand A m asked new answer
AnswersCommandOrEnds A R m asked new (Ok turn.Refused) answer = AnswersCommand R m asked new answer
AnswersCommandOrEnds A R m asked new (Ok turn.Quit) answer = ⊥
AnswersCommandOrEnds A R m asked new (Err failed) answer = AnswersCommand A m asked new answer ⊎ AnswersCommand R m asked new answer

-- the end of the command part at a line with this number that was answered so
abbrev pub commands_end_after_line_action : LineAction → ℕ → Option CommandsEnd
commands_end_after_line_action turn.Answered number = None
commands_end_after_line_action turn.Refused number = Some (end.Refused number)
commands_end_after_line_action turn.Quit number = Some end.Quit

-- ---- what a race writes once the image was read

-- a text was written whole, or that failed
abbrev pub WritesTextWithStatus : Bytes → Text → Status → Type 0
WritesTextWithStatus whole text Done = text ≡ whole
WritesTextWithStatus whole text StreamFault = TextHasPrefix whole text
WritesTextWithStatus whole text ImageRefused = ⊥
WritesTextWithStatus whole text NotFinished = ⊥
WritesTextWithStatus whole text CommandRefused = ⊥

-- What may be written once the image was read.
abbrev pub WritesWorkerRaceAfterImage : ℕ → ℕ → ℕ → Bytes → Text → Status → Type 0
WritesWorkerRaceAfterImage limit workers calls image text Done = IsWorkerRaceReport limit workers calls image text
WritesWorkerRaceAfterImage limit workers calls image text ImageRefused = IsImageRefusal image text
WritesWorkerRaceAfterImage limit workers calls image text StreamFault =
    IsTruncationOfText (IsWorkerRaceReport limit workers calls image) text ⊎ IsTruncationOfText (IsImageRefusal image) text
WritesWorkerRaceAfterImage limit workers calls image text NotFinished = text ≡ []
WritesWorkerRaceAfterImage limit workers calls image text CommandRefused = ⊥

-- What may be written after the image was read, of which `taken` bytes were consumed: `ahead` is what was read with it. If it
-- is refused, no more is read.
abbrev pub WritesSessionAfterImage : {M : Type 0} → AnswerRelation M → AnswerRelation M → (MachineState → M) → ℕ → Text → ℕ → Bytes → Bytes → Bytes → Text → Status → Type 0
WritesSessionAfterImage {M} A R begin limit image taken ahead read rest text status =
    ((machine : MachineState) × IsOpenedOnImage image limit machine × (ending : Result CommandsEnd WriteError) × (status ≡ status_of_commands_end ending)
    × (said : Text) × (last : M) × ServesCommands A R (input_limit - taken) (begin machine) read rest said last ending × IsWholeOrPrefixOnWriteError ending (ready_line_text ++ said) text)
    ⊎ ((fault : ImageFault) × IsFaultOfImage image fault × WritesImageRefusal fault text status × (read ≡ ahead))
