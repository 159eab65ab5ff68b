-- A session whose answers are dropped, and one that ends with a picture (docs/REFERENCE.md, "Pictures"; this project's own).
use Rattle.std.specs.Prelude.{◌≡◌, ℕ, ◌-◌, ◌⊎◌, [], ◌++◌, length, take, codes, Option, Result, Ok, Err, true, false}
use Rattle.ga_text.specs.Lines.{Bytes, Text, Line}
use Rattle.ga_explorer.specs.Opening.{ExplorerState, OpensTextBeforeCommands, IsTextBeforeCommands, IsUnopenedSession}
use Rattle.ga_lab.specs.declared.fault.LabFault.{LabFault}
use Rattle.ga_lab.specs.declared.fault.LabFault.TheVariants.{Memory, Waiting, Stopped, Full, Empty, NoStep, EventNumbersSpent}
use Rattle.ga_text.specs.Input.{input_limit}
use Rattle.ga_text.specs.Output.{TextHasPrefix}
use Rattle.ga_console.specs.Run.{status_of_commands_end}
use Rattle.ga_console.specs.Session.{ServesCommands, NeverAnswersAndEnds, IsWholeOrPrefixOnWriteError, AnswerRelation}
use Rattle.ga_display.specs.Texts.{refusal_text, advised_refusal_text}
use Rattle.ga_console.specs.declared.commands.CommandsEnd.{CommandsEnd}
use Rattle.ga_text.specs.declared.output.WriteError.{WriteError}
use Rattle.ga_console.specs.declared.run.Status.{Status}
use Rattle.ga_console.specs.declared.run.Status.TheVariants.{Done, ImageRefused, StreamFault, NotFinished, CommandRefused}
use Rattle.ga_explorer.specs.Answers.{AnswersExplorerLine}
use Rattle.ga_lab.specs.Machine.{MachineState}
use Rattle.ga_picture.specs.Picture.{IsPictureText, has_requested_steps}
use Rattle.ga_picture.specs.declared.view.PictureView.{PictureView}

-- ---- a session whose answers are dropped

-- the answer reports out of memory: of a command, or of an event of a run
abbrev pub IsOutOfMemoryAnswer : Text → Type 0
IsOutOfMemoryAnswer answer = (answer ≡ advised_refusal_text Memory) ⊎ (take 7 answer ≡ codes "memory ")

-- the line is answered as exploring may answer it, and nothing is written
abbrev pub IsSilentAnswer : ExplorerState → Line → Text → ExplorerState → Type 0
IsSilentAnswer s line said new = (said ≡ []) × (answer : Text) × AnswersExplorerLine s line answer new

-- the line is answered as exploring may answer it, nothing is written, and no allocation failed for it
abbrev pub IsCompleteSilentAnswer : ExplorerState → Line → Text → ExplorerState → Type 0
IsCompleteSilentAnswer s line said new = (said ≡ []) × (answer : Text) × AnswersExplorerLine s line answer new × (¬ IsOutOfMemoryAnswer answer)

-- The text, an image or source, was accepted, and so was the image that gives its chip, if there is one; and the lines after it
-- led to this machine and this ending.
pub record IsSilentSession (A : AnswerRelation ExplorerState) (chip : Option Text) (limit : ℕ) (read rest : Bytes) (written : Text) (last : ExplorerState) (ending : Result CommandsEnd WriteError) : Type 0 where
  pub text : Text
  pub commands : Bytes
  pub machine : ExplorerState
  pub said : Text
  pub splits : read ≡ text ++ commands
  pub front : IsTextBeforeCommands text (commands ++ rest)
  pub opens : OpensTextBeforeCommands chip text limit machine
  pub serves : ServesCommands A NeverAnswersAndEnds (input_limit - length text) machine commands rest said last ending
  pub out : IsWholeOrPrefixOnWriteError ending said written

-- a refusal was written whole, or that failed
abbrev pub WritesPictureRefusal : LabFault → Text → Status → Type 0
WritesPictureRefusal fault text Done = ⊥
WritesPictureRefusal fault text ImageRefused = text ≡ refusal_text fault
WritesPictureRefusal fault text StreamFault = TextHasPrefix (refusal_text fault) text
WritesPictureRefusal fault text NotFinished = ⊥
WritesPictureRefusal fault text CommandRefused = ⊥

-- Why no machine was reached: no session began; in the commands a read failed, or they went past the bound of the input; or
-- memory was wanting for one of them.
pub data IsSessionReachingNoMachine (chip : Option Text) (limit : ℕ) (read rest : Bytes) (text : Text) (status : Status) : Type 0 where
  unbegun : IsUnopenedSession chip read rest text status → IsSessionReachingNoMachine chip limit read rest text status
  broken : (last : ExplorerState) → (ending : Result CommandsEnd WriteError) → status_of_commands_end ending ≡ StreamFault → status ≡ StreamFault
      → IsSilentSession IsSilentAnswer chip limit read rest text last ending → IsSessionReachingNoMachine chip limit read rest text status
  short : (last : ExplorerState) → (ending : Result CommandsEnd WriteError) → status_of_commands_end ending ≡ Done → IsSilentSession IsSilentAnswer chip limit read rest [] last ending
      → WritesPictureRefusal Memory text status → IsSessionReachingNoMachine chip limit read rest text status

-- If the input was executed to its end, or to `quit`, nothing is written, and the machine is the one after all lines.
abbrev pub IsSilentSessionResult : Option Text → ℕ → Bytes → Bytes → Text → Result ExplorerState Status → Type 0
IsSilentSessionResult chip limit read rest text (Ok last) =
    (text ≡ []) × (ending : Result CommandsEnd WriteError) × (status_of_commands_end ending ≡ Done) × IsSilentSession IsCompleteSilentAnswer chip limit read rest [] last ending
IsSilentSessionResult chip limit read rest text (Err status) = IsSessionReachingNoMachine chip limit read rest text status

-- ---- what a session that ends with a picture may write, and its status

-- a requested step doesn't exist; or all do, and an allocation failed for the picture
abbrev pub HasNoPicture : MachineState → PictureView → LabFault → Type 0
HasNoPicture s view Waiting = ⊥
HasNoPicture s view Stopped = ⊥
HasNoPicture s view Full = ⊥
HasNoPicture s view Memory = has_requested_steps s view ≡ true
HasNoPicture s view Empty = ⊥
HasNoPicture s view NoStep = has_requested_steps s view ≡ false
HasNoPicture s view EventNumbersSpent = ⊥

-- the picture was written whole, or that failed
abbrev pub IsPictureOutput : Text → Text → Status → Type 0
IsPictureOutput picture text Done = text ≡ picture
IsPictureOutput picture text ImageRefused = ⊥
IsPictureOutput picture text StreamFault = TextHasPrefix picture text
IsPictureOutput picture text NotFinished = ⊥
IsPictureOutput picture text CommandRefused = ⊥

-- a picture of the machine was written, or why there is none
abbrev pub WritesPictureOrRefusal : MachineState → PictureView → Text → Status → Type 0
WritesPictureOrRefusal s view text status = ((picture : Text) × IsPictureText s view picture × IsPictureOutput picture text status)
    ⊎ ((fault : LabFault) × HasNoPicture s view fault × WritesPictureRefusal fault text status)

-- What may have been written, where read was read of the input and rest is left of it.
pub data WritesSessionPicture (chip : Option Text) (limit : ℕ) (view : PictureView) (read rest : Bytes) (text : Text) (status : Status) : Type 0 where
  reached : (last : ExplorerState) → (ending : Result CommandsEnd WriteError) → status_of_commands_end ending ≡ Done → IsSilentSession IsCompleteSilentAnswer chip limit read rest [] last ending
      → WritesPictureOrRefusal last.lab view text status → WritesSessionPicture chip limit view read rest text status
  stopped : IsSessionReachingNoMachine chip limit read rest text status → WritesSessionPicture chip limit view read rest text status
