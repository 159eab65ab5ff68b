-- What may be written for source (docs/REFERENCE.md, "Source"; this project's own).
use Rattle.std.specs.Prelude.{◌≡◌, ℕ, ◌<◌, ◌⊎◌, List, [], ◌∷◌, ◌++◌, map, slice_index, codes}
use Rattle.ga_node.specs.Record.{NodeState}
use Rattle.ga_grid.specs.Chip.{node_at, records_of_chip}
use Rattle.ga_text.specs.Lines.{Bytes, Text, lines_of_text}
use Rattle.ga_image.specs.Grammar.{IsImage}
use Rattle.ga_image.specs.Printing.{printed_image, IsImageOfRecords}
use Rattle.ga_image.specs.declared.fault.ImageFault.{ImageFault}
use Rattle.ga_parser.specs.declared.fault.SourceFault.{SourceFault}
use Rattle.ga_source.specs.declared.program.Program.{Program}
use Rattle.ga_source.specs.declared.program.AssembledChip.{AssembledChip}
use Rattle.ga_parser.specs.declared.scan.Token.{Token}
use Rattle.ga_parser.specs.Saying.{token_contents}
use Rattle.ga_parser.specs.Words.{source_tokens}
use Rattle.ga_source.specs.Recovery.{tokens_with_word_numbers, IsAssemblyOfWords, AreFaultsOfSource}
use Rattle.ga_debug_info.specs.Faults.{source_fault_text}
use Rattle.ga_debug_info.specs.Source.{trimmed_source_line}
use Rattle.ga_source.specs.Programs.{IsAssembledChip, ArePlainProgramsOfSource, AreProgramsOfSource}
use Rattle.ga_source.specs.Made.{IsChipOfSource, IsPlainSource}
use Rattle.ga_text.specs.Image.{HasNoEndLine}
use Rattle.ga_text.specs.Output.{IsImageReadWhole, TextHasPrefix}
use Rattle.ga_display.specs.Texts.{image_fault_text}
use Rattle.ga_console.specs.Run.{Refused}
use Rattle.ga_console.specs.Race.{ReadsImageThatSatisfies, IsTruncationOfText}
use Rattle.ga_console.specs.declared.run.Status.{Status}
use Rattle.ga_console.specs.declared.run.Status.TheVariants.{Done, ImageRefused, StreamFault, NotFinished, CommandRefused}

-- The text is the image, as it is dumped, of a chip with programs that the source makes; and what reads images accepts it with
-- this chip.
pub record IsAssembledImage (source text : Text) : Type 0 where
  pub chip : List NodeState
  pub programs : List Program
  pub read : ArePlainProgramsOfSource source programs
  pub asked : AreProgramsOfSource source programs
  pub assembled : IsAssembledChip chip programs
  pub made : IsChipOfSource source chip
  pub told : text ≡ printed_image (records_of_chip chip)
  pub back : IsImageOfRecords (lines_of_text text) (records_of_chip chip)

-- P holds of the source that was read, and nothing was read after it
abbrev pub ReadsSourceThatSatisfies : Bytes → Bytes → (Text → Type 0) → Type 0
ReadsSourceThatSatisfies read rest P = (source : Text) × (ahead : Bytes) × (read ≡ source ++ ahead) × IsImageReadWhole source ahead rest × P source

-- What `asm` may have written, where read was read of its input and rest is left of it.
abbrev pub WritesAssembly : Bytes → Bytes → Bytes → Status → Type 0
WritesAssembly read rest text Done = ReadsSourceThatSatisfies read rest (λ source. IsAssembledImage source text)
WritesAssembly read rest text ImageRefused = text ≡ []
WritesAssembly read rest text StreamFault = ((text ≡ []) × HasNoEndLine read) ⊎ ReadsSourceThatSatisfies read rest (λ source. IsTruncationOfText (IsAssembledImage source) text)
WritesAssembly read rest text NotFinished = ⊥
WritesAssembly read rest text CommandRefused = ⊥

-- The chip has the programs of all words of the source.
pub record HasAssembledChip (source : Text) : Type 0 where
  pub words : List Token
  pub all : AssembledChip
  pub said : token_contents words ≡ source_tokens source
  pub assembled : IsAssemblyOfWords (tokens_with_word_numbers 1 words) all

-- the source isn't one of plain words that give each cell once
abbrev pub IsNotPlainSource : Text → Type 0
IsNotPlainSource source = IsPlainSource source → ⊥

-- ---- faults in a listing

-- a fault as it is listed: with its line's number, before the source line
abbrev pub fault_line_text : SourceFault → Text → Text
fault_line_text fault line = source_fault_text fault ++ codes " \\ " ++ line ++ codes "\n"

abbrev pub listed_fault_text : Text → SourceFault → Text
listed_fault_text source fault = fault_line_text fault (trimmed_source_line source fault.line)

-- the text has these parts in this order, among others
unfoldable pub HasTextPartsInOrder : List Text → Text → Type 0
HasTextPartsInOrder [] text = Unit {0}
HasTextPartsInOrder (part ∷ parts) text = (before after : Text) × (text ≡ before ++ part ++ after) × HasTextPartsInOrder parts after

-- each fault of the source is in the listing, in the order of lines
abbrev pub ListsFaultsOfSource : Text → Text → Type 0
ListsFaultsOfSource source text = (first : SourceFault) × (faults : List SourceFault) × AreFaultsOfSource source first faults × HasTextPartsInOrder (map (listed_fault_text source) faults) text

-- What `list` may have written. Where nothing is wrong, all words of the source have a chip.
abbrev pub WritesListing : Bytes → Bytes → Bytes → Status → Type 0
WritesListing read rest text Done = ReadsSourceThatSatisfies read rest (λ source. HasAssembledChip source)
WritesListing read rest text ImageRefused = (text ≡ []) ⊎ ReadsSourceThatSatisfies read rest (λ source. IsNotPlainSource source × ListsFaultsOfSource source text)
WritesListing read rest text StreamFault = ((text ≡ []) × HasNoEndLine read) ⊎ ReadsSourceThatSatisfies read rest (λ source. Unit {0})
WritesListing read rest text NotFinished = ⊥
WritesListing read rest text CommandRefused = ⊥

-- a node that source made has the memories and A, B and P of this one
pub record HasSameMemoriesAndRegisters (node made : NodeState) : Type 0 where
  pub ram : (k : ℕ) → k < 64 → slice_index made.ram k ≡ slice_index node.ram k
  pub rom : (k : ℕ) → k < 64 → slice_index made.rom k ≡ slice_index node.rom k
  pub a : made.a ≡ node.a
  pub b : made.b ≡ node.b
  pub p : made.p ≡ node.p

-- Only want of memory keeps the text from being assembled, and the chip that it makes has the memories, A, B and P of this one.
pub record IsSourceOfChip (chip : List NodeState) (text : Text) : Type 0 where
  pub sound : IsPlainSource text
  pub same : (made : List NodeState) → IsChipOfSource text made → (n : ℕ) → n < 144 → HasSameMemoriesAndRegisters (node_at chip n) (node_at made n)

-- the text is an image, and its source makes the same
abbrev pub IsDisassembly : Text → Text → Type 0
IsDisassembly image text = (chip : List NodeState) × IsImage (lines_of_text image) chip × IsSourceOfChip chip text

-- What `dis` may have written, where read was read of its input and rest is left of it.
abbrev pub WritesDisassembly : Bytes → Bytes → Bytes → Status → Type 0
WritesDisassembly read rest text Done = ReadsImageThatSatisfies read rest (λ image. IsDisassembly image text)
WritesDisassembly read rest text ImageRefused = (fault : ImageFault) × Refused read rest fault × (text ≡ image_fault_text fault)
WritesDisassembly read rest text StreamFault =
    ((text ≡ []) × HasNoEndLine read)
    ⊎ ReadsImageThatSatisfies read rest (λ image. IsTruncationOfText (IsDisassembly image) text)
    ⊎ ((fault : ImageFault) × Refused read rest fault × TextHasPrefix (image_fault_text fault) text)
WritesDisassembly read rest text NotFinished = ⊥
WritesDisassembly read rest text CommandRefused = ⊥
