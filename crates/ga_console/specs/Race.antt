-- What a race over an image may write, and how it may end (docs/REFERENCE.md, "Races"; this project's own).
use Rattle.std.specs.Prelude.{◌≡◌, ℕ, ◌<◌, ◌*◌, ◌⊎◌, List, [], ◌++◌, length, replicate, codes, decimal}
use Rattle.ga_node.specs.Record.{NodeState, NodeRecord}
use Rattle.ga_grid.specs.Chip.{records_of_chip}
use Rattle.ga_grid.specs.Grid.{node_id}
use Rattle.ga_text.specs.Lines.{Bytes, Text, lines_of_text}
use Rattle.ga_image.specs.Grammar.{IsImage}
use Rattle.ga_image.specs.FirstFault.{IsFirstImageFault}
use Rattle.ga_image.specs.declared.fault.ImageFault.{ImageFault}
use Rattle.ga_lab.specs.Machine.{MachineState, initial_state}
use Rattle.ga_shared.specs.declared.call.Call.{Call}
use Rattle.ga_shared.specs.declared.call.Call.TheVariants.{Step}
use Rattle.ga_shared.specs.declared.call.LogEntry.{LogEntry}
use Rattle.ga_shared.specs.Log.{IsLegalLog, calls_of_worker}
use Rattle.ga_text.specs.Output.{TextHasPrefix}
use Rattle.ga_text.specs.Image.{HasNoEndLine}
use Rattle.ga_console.specs.Run.{ReadsOnlyImage}
use Rattle.ga_display.specs.Texts.{image_fault_text}
use Rattle.ga_console.specs.declared.run.Status.{Status}
use Rattle.ga_console.specs.declared.run.Status.TheVariants.{Done, ImageRefused, StreamFault, NotFinished, CommandRefused}

-- the calls of a worker: a number of steps of the node with its number
abbrev pub worker_calls : ℕ → ℕ → List Call
worker_calls worker count = replicate count (Step (node_id worker))

-- The calls of all workers, in the order in which they had the lock, lead the machine from the load to this lab.
pub record IsRaceOfWorkers (load : List NodeRecord) (limit workers calls : ℕ) (lab : MachineState) : Type 0 where
  pub log : List LogEntry
  pub legal : IsLegalLog (initial_state load limit) log lab
  pub by_worker : (w : ℕ) → w < workers → calls_of_worker w log ≡ worker_calls w calls
  pub count : length log ≡ workers * calls

-- how many calls were made, how many events, and how many of them are kept
abbrev pub worker_race_report_text : ℕ → ℕ → ℕ → Text
worker_race_report_text calls made kept =
    codes "calls " ++ decimal calls ++ codes "\nmade " ++ decimal made ++ codes "\nkept " ++ decimal kept ++ codes "\n"

-- the text is an image, and this reports a race on its chip
pub record IsWorkerRaceReport (limit workers calls : ℕ) (image text : Text) : Type 0 where
  pub chip : List NodeState
  pub lab : MachineState
  pub accepted : IsImage (lines_of_text image) chip
  pub race : IsRaceOfWorkers (records_of_chip chip) limit workers calls lab
  pub told : text ≡ worker_race_report_text (workers * calls) lab.made (length lab.kept)

-- the text is no image, and this reports its first fault
pub record IsImageRefusal (image text : Text) : Type 0 where
  pub fault : ImageFault
  pub first : IsFirstImageFault (lines_of_text image) fault
  pub told : text ≡ image_fault_text fault

-- a write failed within a text for which this holds
pub record IsTruncationOfText (IsText : Text → Type 0) (text : Text) : Type 0 where
  pub whole : Text
  pub is_text : IsText whole
  pub front : TextHasPrefix whole text

-- P holds of the image that was read, and nothing was read after it
abbrev pub ReadsImageThatSatisfies : Bytes → Bytes → (Text → Type 0) → Type 0
ReadsImageThatSatisfies read rest P = (image : Text) × (ahead : Bytes) × (read ≡ image ++ ahead) × ReadsOnlyImage image ahead rest × P image

-- What a race may have written, where read was read of its input and rest is left of it.
abbrev pub WritesWorkerRaceReport : ℕ → ℕ → ℕ → Bytes → Bytes → Text → Status → Type 0
WritesWorkerRaceReport limit workers calls read rest text Done = ReadsImageThatSatisfies read rest (λ image. IsWorkerRaceReport limit workers calls image text)
WritesWorkerRaceReport limit workers calls read rest text ImageRefused = ReadsImageThatSatisfies read rest (λ image. IsImageRefusal image text)
-- a read in the image failed, or a write of the report or of the refusal
WritesWorkerRaceReport limit workers calls read rest text StreamFault = ((text ≡ []) × HasNoEndLine read)
    ⊎ ReadsImageThatSatisfies read rest (λ image. IsTruncationOfText (IsWorkerRaceReport limit workers calls image) text ⊎ IsTruncationOfText (IsImageRefusal image) text)
WritesWorkerRaceReport limit workers calls read rest text NotFinished = text ≡ []
WritesWorkerRaceReport limit workers calls read rest text CommandRefused = ⊥
