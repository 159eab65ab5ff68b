-- What a session of exploring begins on: an image, or source, which may have a chip of its own (docs/REFERENCE.md, "Exploring"; this project's own).
use Rattle.std.specs.Prelude.{Option, option_map, Vec, ◌≡◌, ℕ, ◌⊎◌, Bool, true, false, List, [], ◌++◌, length, take, codes, bytes_eq, Result, Ok, Err, Some, None}
use Rattle.std.specs.Global.{Global}
use Rattle.ga_lab.specs.Machine.{MachineState, initial_state}
use Rattle.ga_debug_info.specs.declared.notes.DebugInfo.{DebugInfo}
use Rattle.std.specs.List.{All}
use Rattle.ga_node.specs.Record.{NodeState}
use Rattle.ga_grid.specs.Chip.{records_of_chip}
use Rattle.ga_text.specs.Lines.{Bytes, Text, lines_of_text}
use Rattle.ga_image.specs.FirstFault.{out_of_memory_fault}
use Rattle.ga_image.specs.Given.{ranges_of_given_words, given_ranges_of_image}
use Rattle.ga_image.specs.declared.fault.ImageFault.{ImageFault}
use Rattle.ga_source.specs.declared.program.Program.{Program}
use Rattle.ga_source.specs.Programs.{IsAssembledChip, ArePlainProgramsOfSource, AreProgramsOfSource}
use Rattle.ga_source.specs.Cells.{HasRequestedCellGroups}
use Rattle.ga_source.specs.Made.{IsChipOfSource}
use Rattle.ga_debug_info.specs.Notes.{IsDebugInfoOfSource}
use Rattle.ga_debug_info.specs.Given.{HasGivenRangesOfSource}
use Rattle.ga_text.specs.Input.{UnreadInput}
use Rattle.ga_text.specs.Image.{EndsWithEndLine, HasNoEndLine}
use Rattle.ga_console.specs.Run.{IsOpenedOnImage as OpensImage, ReadsOnlyImage, IsFaultyImageInput, WritesImageRefusal, IsFaultOfImage}
use Rattle.ga_console.specs.declared.run.Status.{Status}
use Rattle.ga_console.specs.declared.run.Status.TheVariants.{ImageRefused, StreamFault}

-- ---- what is explored (docs/REFERENCE.md, "Exploring"; this project's own)

-- a machine, and what is known of the text on which it began, where that is known
pub record ExplorerState : Type 0 where
  pub lab : MachineState
  pub notes : Option DebugInfo

abbrev pub explorer_state : MachineState → Option DebugInfo → ExplorerState
explorer_state lab notes = record { lab = lab; notes = notes }

-- the text is an image, and not source
abbrev pub begins_as_image : Text → Bool
begins_as_image text = bytes_eq (take 5 text) (codes "ga144")

-- The machine has as its load the chip of a source: that of the programs which the source has, with what its plain words make. The
-- notes are those of this source and these programs.
pub record OpensSource (source : Text) (limit : ℕ) (begun : ExplorerState) : Type 0 where
  pub chip : List NodeState
  pub programs : List Program
  pub notes : DebugInfo
  pub assembled : IsAssembledChip chip programs
  pub read : ArePlainProgramsOfSource source programs
  pub asked : AreProgramsOfSource source programs
  pub groups : All HasRequestedCellGroups programs
  pub made : IsChipOfSource source chip
  pub load : begun.lab ≡ initial_state (records_of_chip chip) limit
  pub noted : begun.notes ≡ Some notes
  pub says : IsDebugInfoOfSource source programs notes
  pub gives : HasGivenRangesOfSource programs notes

-- the words that an image gives are known, in format 2 all
abbrev pub KnowsWhichWordsImageGives : Text → DebugInfo → Type 0
KnowsWhichWordsImageGives image notes = ranges_of_given_words notes.given ≡ given_ranges_of_image (lines_of_text image)

-- The machine has the chip of an image as its load. Known is which words the image gives, and nothing of its cells; and nothing is
-- expected of it.
pub record OpensExplorerOnImage (image : Text) (limit : ℕ) (begun : ExplorerState) : Type 0 where
  pub notes : DebugInfo
  pub opens : OpensImage image limit begun.lab
  pub noted : begun.notes ≡ Some notes
  pub labels : notes.names.items ≡ []
  pub cells : notes.notes.items ≡ []
  pub slots : notes.words.items ≡ []
  pub expected : notes.expectations.items ≡ []
  pub gives : KnowsWhichWordsImageGives image notes

-- the machine has the text's chip as its load
abbrev pub OpensExplorer : Text → ℕ → ExplorerState → Type 0
OpensExplorer text limit begun = ((begins_as_image text ≡ true) × OpensExplorerOnImage text limit begun) ⊎ ((begins_as_image text ≡ false) × OpensSource text limit begun)

-- The notes are those of a source and of the programs that it has.
pub record IsDebugInfoOf (source : Text) (notes : DebugInfo) : Type 0 where
  pub chip : List NodeState
  pub programs : List Program
  pub assembled : IsAssembledChip chip programs
  pub read : ArePlainProgramsOfSource source programs
  pub asked : AreProgramsOfSource source programs
  pub groups : All HasRequestedCellGroups programs
  pub made : IsChipOfSource source chip
  pub says : IsDebugInfoOfSource source programs notes

-- The machine has as its load the chip of an image, which gives the words, and the notes are those of the source, whatever that
-- chip holds.
pub record OpensSourceOnImage (source image : Text) (limit : ℕ) (begun : ExplorerState) : Type 0 where
  pub notes : DebugInfo
  pub opens : OpensImage image limit begun.lab
  pub noted : begun.notes ≡ Some notes
  pub notes_of : IsDebugInfoOf source notes
  pub gives : KnowsWhichWordsImageGives image notes

-- the text of the image that is given for the chip, where one is
abbrev pub optional_image_text : Option (Vec ℕ Global) → Option Text
optional_image_text chip = option_map (λ (image : Vec ℕ Global). image.items) chip

-- what is opened on a text: where an image is given for the chip, the text is its source
abbrev pub OpensTextBeforeCommands : Option Text → Text → ℕ → ExplorerState → Type 0
OpensTextBeforeCommands None text limit begun = OpensExplorer text limit begun
OpensTextBeforeCommands (Some image) text limit begun = OpensSourceOnImage text image limit begun

-- the text is read as an image: never where another image is given for the chip
abbrev pub is_read_as_image : Option Text → Text → Bool
is_read_as_image None text = begins_as_image text
is_read_as_image (Some image) text = false

-- The text extends to its first line `end`; or no such line was read, and nothing is left after it.
abbrev pub IsTextBeforeCommands : Text → Bytes → Type 0
IsTextBeforeCommands text behind = EndsWithEndLine text ⊎ ((behind ≡ []) × HasNoEndLine text)

-- Source was read, and nothing after it.
pub record IsSourceWithoutCommands (chip : Option Text) (read rest : Bytes) : Type 0 where
  pub source : Text
  pub ahead : Bytes
  pub splits : read ≡ source ++ ahead
  pub part : ReadsOnlyImage source ahead rest
  pub is_source : is_read_as_image chip source ≡ false

-- The image that was read has this first fault, and nothing was read after it; or the one that gives the chip has.
abbrev pub IsFaultyImage : Option Text → Bytes → Bytes → ImageFault → Type 0
IsFaultyImage None read rest fault = (faulty : IsFaultyImageInput read rest fault) × (begins_as_image faulty.image ≡ true)
IsFaultyImage (Some image) read rest fault = IsSourceWithoutCommands (Some image) read rest × IsFaultOfImage image fault

-- an image was refused with its first fault; or memory was wanting before
abbrev pub IsRefusedImage : Option Text → Bytes → Bytes → ImageFault → Type 0
IsRefusedImage chip read rest fault = (fault ≡ out_of_memory_fault) ⊎ IsFaultyImage chip read rest fault

-- Why no session begins, what is written then, and the status: read was read of the input, and rest is left of it.
pub data IsUnopenedSession (chip : Option Text) (read rest : Bytes) (written : Text) (status : Status) : Type 0 where
  image_refused : (fault : ImageFault) → IsRefusedImage chip read rest fault → WritesImageRefusal fault written status → IsUnopenedSession chip read rest written status
  -- standard error has the reason
  source_refused : IsSourceWithoutCommands chip read rest → written ≡ [] → status ≡ ImageRefused → IsUnopenedSession chip read rest written status
  -- a read failed in the image or source
  unread : HasNoEndLine read → written ≡ [] → status ≡ StreamFault → IsUnopenedSession chip read rest written status

-- A text was taken of what was left to read, and a machine opened on it; or no session begins.
abbrev pub IsSessionOpenResult : Option Text → ℕ → Bytes → UnreadInput → Bytes → Text → Result ExplorerState Status → Type 0
IsSessionOpenResult chip limit left input rest written (Ok begun) = (written ≡ []) × (text : Text) × (left ≡ text ++ (input.bytes ++ rest))
    × (input.taken ≡ length text) × IsTextBeforeCommands text (input.bytes ++ rest) × OpensTextBeforeCommands chip text limit begun
IsSessionOpenResult chip limit left input rest written (Err status) = (read : Bytes) × (left ≡ read ++ rest) × IsUnopenedSession chip read rest written status
