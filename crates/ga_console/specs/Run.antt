-- What a whole session may write, and how it may end (docs/REFERENCE.md, "Sessions"; this project's own). A is how the session
-- answers a line, R how it answers one at which it ends, and begin its machine on a fresh one.
use Rattle.std.specs.Prelude.{◌≡◌, ℕ, ◌-◌, ◌<◌, ◌⊎◌, List, [], ◌++◌, length, Result, Ok, Err}
use Rattle.ga_node.specs.Record.{NodeState}
use Rattle.ga_grid.specs.Chip.{records_of_chip}
use Rattle.ga_text.specs.Lines.{Bytes, Text, lines_of_text}
use Rattle.ga_image.specs.Grammar.{IsImage}
use Rattle.ga_image.specs.FirstFault.{out_of_memory_fault, IsFirstImageFault}
use Rattle.ga_image.specs.declared.fault.ImageFault.{ImageFault}
use Rattle.ga_text.specs.Input.{input_limit, input_block_size}
use Rattle.ga_text.specs.Output.{TextHasPrefix, ready_line_text}
use Rattle.ga_text.specs.Image.{EndsWithEndLine, HasNoEndLine}
use Rattle.ga_lab.specs.Machine.{MachineState, initial_state}
use Rattle.ga_display.specs.Texts.{image_fault_text}
use Rattle.ga_console.specs.Session.{AnswerRelation, NeverAnswersAndEnds, ServesCommands, IsWholeOrPrefixOnWriteError}
use Rattle.ga_console.specs.Replies.{IsBriefAnswer}
use Rattle.ga_console.specs.declared.commands.CommandsEnd.{CommandsEnd}
use Rattle.ga_console.specs.declared.commands.CommandsEnd.TheVariants as end
use Rattle.ga_text.specs.declared.output.WriteError.{WriteError}
use Rattle.ga_console.specs.declared.run.Status.{Status}
use Rattle.ga_console.specs.declared.run.Status.TheVariants.{Done, ImageRefused, StreamFault, NotFinished, CommandRefused}

-- The image is what was read up to the first line `end`, or all of an input in which none was read, or all that is within the bound.
abbrev pub IsImageBeforeCommands : Text → Bytes → Bytes → Type 0
IsImageBeforeCommands image commands rest = EndsWithEndLine image
    ⊎ ((commands ≡ []) × (rest ≡ []) × HasNoEndLine image)
    ⊎ ((length image ≡ input_limit) × HasNoEndLine image)

-- Nothing is read that the image doesn't need: after its line `end` only what the same read returned, after all that is within
-- the bound the byte that exceeds it.
abbrev pub ReadsOnlyImage : Text → Bytes → Bytes → Type 0
ReadsOnlyImage image ahead rest = (EndsWithEndLine image × (length ahead < input_block_size))
    ⊎ ((ahead ≡ []) × (rest ≡ []) × HasNoEndLine image)
    ⊎ ((length image ≡ input_limit) × (length ahead ≡ 1) × HasNoEndLine image)

-- the image was accepted, and the commands after it were served to this ending
pub record IsServedSession {M : Type 0} (A R : AnswerRelation M) (begin : MachineState → M) (limit : ℕ) (read rest : Bytes) (text : Text) (ending : Result CommandsEnd WriteError) : Type 0 where
  pub image : Text
  pub commands : Bytes
  pub chip : List NodeState
  pub said : Text
  pub splits : read ≡ image ++ commands
  pub part : IsImageBeforeCommands image commands rest
  pub accepted : IsImage (lines_of_text image) chip
  pub last : M
  pub serves : ServesCommands A R (input_limit - length image) (begin (initial_state (records_of_chip chip) limit)) commands rest said last ending
  pub written : IsWholeOrPrefixOnWriteError ending (ready_line_text ++ said) text

-- the image was refused with its first fault, and nothing was read after it
pub record IsFaultyImageInput (read rest : Bytes) (fault : ImageFault) : Type 0 where
  pub image : Text
  pub ahead : Bytes
  pub splits : read ≡ image ++ ahead
  pub part : ReadsOnlyImage image ahead rest
  pub faulty : IsFirstImageFault (lines_of_text image) fault

-- the image was refused, with its first fault or for want of memory
abbrev pub Refused : Bytes → Bytes → ImageFault → Type 0
Refused read rest fault = (fault ≡ out_of_memory_fault) ⊎ IsFaultyImageInput read rest fault

abbrev pub status_of_commands_end : Result CommandsEnd WriteError → Status
status_of_commands_end (Ok end.InputEnded) = Done
status_of_commands_end (Ok end.Quit) = Done
status_of_commands_end (Ok (end.Refused number)) = CommandRefused
status_of_commands_end (Ok (end.PastLimit number)) = StreamFault
status_of_commands_end (Ok end.ReadFailed) = StreamFault
status_of_commands_end (Err failed) = StreamFault

-- What a session may have written, where read was read of its input and rest is left of it.
abbrev pub WritesSessionOfResponder : {M : Type 0} → AnswerRelation M → AnswerRelation M → (MachineState → M) → ℕ → Bytes → Bytes → Text → Status → Type 0
WritesSessionOfResponder A R begin limit read rest text Done = (ending : Result CommandsEnd WriteError) × (status_of_commands_end ending ≡ Done) × IsServedSession A R begin limit read rest text ending
WritesSessionOfResponder A R begin limit read rest text ImageRefused = (fault : ImageFault) × Refused read rest fault × (text ≡ image_fault_text fault)
-- the command part failed, or a read in the image part, or a write of the refusal
WritesSessionOfResponder A R begin limit read rest text StreamFault =
    ((ending : Result CommandsEnd WriteError)
    × (status_of_commands_end ending ≡ StreamFault)
    × IsServedSession A R begin limit read rest text ending)
    ⊎ ((text ≡ []) × HasNoEndLine read)
    ⊎ ((fault : ImageFault) × Refused read rest fault × TextHasPrefix (image_fault_text fault) text)
WritesSessionOfResponder A R begin limit read rest text NotFinished = ⊥
WritesSessionOfResponder A R begin limit read rest text CommandRefused =
    (ending : Result CommandsEnd WriteError) × (status_of_commands_end ending ≡ CommandRefused) × IsServedSession A R begin limit read rest text ending

-- The debugger's session.
abbrev pub WritesSession : ℕ → Bytes → Bytes → Text → Status → Type 0
WritesSession limit read rest text status = WritesSessionOfResponder IsBriefAnswer NeverAnswersAndEnds (λ s. s) limit read rest text status

-- a refusal was written whole, or that failed
abbrev pub WritesImageRefusal : ImageFault → Text → Status → Type 0
WritesImageRefusal fault text Done = ⊥
WritesImageRefusal fault text ImageRefused = text ≡ image_fault_text fault
WritesImageRefusal fault text StreamFault = TextHasPrefix (image_fault_text fault) text
WritesImageRefusal fault text NotFinished = ⊥
WritesImageRefusal fault text CommandRefused = ⊥

-- an image was accepted, and the machine has its chip as its load
abbrev pub IsOpenedOnImage : Text → ℕ → MachineState → Type 0
IsOpenedOnImage image limit machine = (chip : List NodeState) × IsImage (lines_of_text image) chip × (machine ≡ initial_state (records_of_chip chip) limit)

-- an image is refused with its first fault, or for want of memory
abbrev pub IsFaultOfImage : Text → ImageFault → Type 0
IsFaultOfImage image fault = (fault ≡ out_of_memory_fault) ⊎ IsFirstImageFault (lines_of_text image) fault
