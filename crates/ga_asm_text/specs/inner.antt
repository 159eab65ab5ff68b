-- What only private contracts and proofs name.
use Rattle.std.specs.Prelude.{drop, Option, Some, None, ◌≡◌, ◌≤◌, ◌<◌, ◌^◌, ℕ, zero, suc, ◌+◌, ◌==◌, nat_lt, Bool, true, false, not, ◌&&◌, ◌||◌, if◌then◌else◌, List, [], ◌∷◌, ◌++◌, map, length, slice_index, codes, bytes_eq, ◌⊎◌}
use Rattle.std.specs.List.{All, list_all, dedup, dedup_from}
use Rattle.ga_word.specs.Word.{hex_digit_at_place}
use Rattle.ga_grid.specs.Grid.{decimal_name_of_node, initial_p_of_node}
use Rattle.ga_node.specs.Record.{NodeState}
use Rattle.ga_text.specs.Lines.{Bytes, Text}
use Rattle.ga_text.specs.Digits.{three_decimal_digits}
use Rattle.ga_parser.specs.Saying.{has_bytes, TokenContent, is_word_token, source_lines, tokens_of_lines}
use Rattle.ga_parser.specs.declared.fault.SourceFault.{SourceFault}
use Rattle.ga_parser.specs.contracts.fault.SourceFaultPartialEq.TheImpl.{ghosts as faults_compare}
use Rattle.ga_parser.specs.declared.scan.Token.{Token}
use Rattle.ga_source.specs.Recovery.{fault_at_line_of_word}
use Rattle.ga_asm_text.specs.declared.fault_lines.FaultLines.{FaultLines}
use Rattle.ga_image.specs.declared.fault.ImageFault.{ImageFault}
use Rattle.ga_text.specs.Image.{HasNoEndLine}
use Rattle.ga_text.specs.Output.{TextHasPrefix}
use Rattle.ga_display.specs.Texts.{image_fault_text}
use Rattle.ga_console.specs.Run.{IsFaultOfImage}
use Rattle.ga_console.specs.Race.{IsTruncationOfText}
use Rattle.ga_console.specs.declared.run.Status.{Status}
use Rattle.ga_console.specs.declared.run.Status.TheVariants.{Done, ImageRefused, StreamFault, NotFinished, CommandRefused}
use Rattle.ga_asm_text.specs.declared.assembling.SourceAssembly.{SourceAssembly}
use Rattle.ga_asm_text.specs.declared.assembling.SourceAssembly.TheVariants.{Image, Faulty, NoMemory}
use Rattle.ga_asm_text.specs.SourceJson.{IsImageWithWarnings, AreSourceFaultLines, IsImageJson, IsRefusalJson}
use Rattle.ga_asm_text.specs.Source.{IsAssembledImage, IsDisassembly, HasAssembledChip, IsNotPlainSource, listed_fault_text, HasTextPartsInOrder, ListsFaultsOfSource}

-- ---- what the source of an image says, line by line (docs/REFERENCE.md, "Source"; this project's own)

-- ---- texts that say words

-- a word of a source
abbrev pub SourceWordText : Type 0
SourceWordText = Bytes

-- The text is whole lines that say these words: before any lines, from any number on. Without a word it is empty.
pub record TextSaysWords (text : Text) (words : List SourceWordText) : Type 0 where
  pub says : (line : ℕ) (rest : Text) → (said : List TokenContent) × (next : ℕ) × (tokens_of_lines line (source_lines (text ++ rest)) ≡ said ++ tokens_of_lines next (source_lines rest))
      × (map (λ one. one.text) said ≡ words) × (list_all is_word_token said ≡ true)
  pub nothing : words ≡ [] → text ≡ []

-- a byte that is shown, and so neither a blank nor a line feed
abbrev pub is_shown_byte : ℕ → Bool
is_shown_byte byte = nat_lt 32 byte

-- a word that begins no comment and no expectation
pub record IsOrdinarySourceWord (word : SourceWordText) : Type 0 where
  pub bytes : has_bytes word ≡ true
  pub shown : list_all is_shown_byte word ≡ true
  pub no_remark : bytes_eq word (codes "\\") ≡ false
  pub no_opening : bytes_eq word (codes "(") ≡ false
  pub no_expect : bytes_eq word (codes "expect") ≡ false

-- a text grew by lines that say these words
abbrev pub AppendsSourceWords : Text → Text → List SourceWordText → Type 0
AppendsSourceWords old new words = (added : Text) × (new ≡ old ++ added) × TextSaysWords added words

-- a byte that a line may have after a `\`: no line feed, and no carriage return
abbrev pub is_comment_byte : ℕ → Bool
is_comment_byte byte = not (byte == 10) && not (byte == 13)

-- a text doesn't begin as a byte order mark does
abbrev pub LacksByteOrderMark : Text → Type 0
LacksByteOrderMark text = (slice_index text 0 == 0xef) ≡ false

-- a text grew by at most `size` bytes, within its last line
abbrev pub AddsBytesWithinLastLine : ℕ → Text → Text → Type 0
AddsBytesWithinLastLine most old new = (added : Text) × (new ≡ old ++ added) × (list_all is_comment_byte added ≡ true) × (length added ≤ most)

-- ---- numbers

-- the last hexadecimal digits of a number, the highest first
abbrev pub last_hex_digits : ℕ → ℕ → Text
last_hex_digits zero n = []
last_hex_digits (suc places) n = hex_digit_at_place n places ∷ last_hex_digits places n

-- a number as a word
abbrev pub hex_number_source_word : ℕ → ℕ → SourceWordText
hex_number_source_word places n = codes "0x" ++ last_hex_digits places n

-- ---- the words of a node

-- a register, unless it has its usual value
abbrev pub register_source_words : SourceWordText → ℕ → ℕ → List SourceWordText
register_source_words name value usual = if value == usual then [] else name ∷ hex_number_source_word 5 value ∷ []

-- the address of a cell, unless it is the next
abbrev pub address_source_words : ℕ → ℕ → List SourceWordText
address_source_words address next = if address == next then [] else codes "org" ∷ hex_number_source_word 2 address ∷ []

-- a cell, unless it is 0
abbrev pub cell_source_words : ℕ → ℕ → ℕ → List SourceWordText
cell_source_words word address next = if word == 0 then [] else address_source_words address next ++ hex_number_source_word 6 word ∷ codes "," ∷ []

-- the address after the last cell
abbrev pub address_after_cell : ℕ → ℕ → ℕ → ℕ
address_after_cell word address next = if word == 0 then next else address + 1

-- cells from an address on
unfoldable pub cells_words : ℕ → ℕ → List ℕ → List SourceWordText
cells_words address next [] = []
cells_words address next (word ∷ words) = cell_source_words word address next ++ cells_words (address + 1) (address_after_cell word address next) words

-- the address after the last of these cells
unfoldable pub address_after_cells : ℕ → ℕ → List ℕ → ℕ
address_after_cells address next [] = next
address_after_cells address next (word ∷ words) = address_after_cells (address + 1) (address_after_cell word address next) words

-- a cell isn't 0
unfoldable pub is_nonzero_cell : List ℕ → Bool
is_nonzero_cell [] = false
is_nonzero_cell (word ∷ words) = not (word == 0) || is_nonzero_cell words

-- a cell of a memory isn't 0
abbrev pub has_nonzero_memory : NodeState → Bool
has_nonzero_memory node = is_nonzero_cell node.ram || is_nonzero_cell node.rom

-- P as it is where no line gives it
abbrev pub default_register_p : ℕ → Bool → ℕ
default_register_p n has_cells = if has_cells then 0 else initial_p_of_node n

-- the registers of a node
abbrev pub registers_source_words : ℕ → NodeState → Bool → List SourceWordText
registers_source_words n node has_cells =
    register_source_words (codes "/p") node.p (default_register_p n has_cells) ++ register_source_words (codes "/a") node.a 0 ++ register_source_words (codes "/b") node.b 0x15d

-- the cells of a node
abbrev pub memory_source_words : NodeState → List SourceWordText
memory_source_words node = cells_words 0 0 node.ram ++ cells_words 0x80 (address_after_cells 0 0 node.ram) node.rom

-- the words of all of a node
abbrev pub node_source_words : ℕ → NodeState → List SourceWordText
node_source_words n node = registers_source_words n node (has_nonzero_memory node) ++ memory_source_words node

-- `node` and its name, if anything follows
abbrev pub node_source_words_with_name : ℕ → List SourceWordText → List SourceWordText
node_source_words_with_name n [] = []
node_source_words_with_name n (word ∷ words) = codes "node" ∷ three_decimal_digits (decimal_name_of_node n) ∷ word ∷ words

-- the nodes from a number on
unfoldable pub source_words : ℕ → List NodeState → List SourceWordText
source_words n [] = []
source_words n (node ∷ nodes) = node_source_words_with_name n (node_source_words n node) ++ source_words (n + 1) nodes

-- ---- what a node has

-- a word of 18 bits
abbrev pub IsNumberOf18Bits : ℕ → Type 0
IsNumberOf18Bits word = word < 2 ^ 18

-- the cells of a memory
pub record AreCellsOfWholeMemory (cells : List ℕ) : Type 0 where
  pub size : length cells ≡ 64
  pub words : All IsNumberOf18Bits cells

-- P, A and B are in range
pub record HasRegistersInRange (node : NodeState) : Type 0 where
  pub p : node.p < 2 ^ 10
  pub a : node.a < 2 ^ 18
  pub b : node.b < 2 ^ 9

-- both memories have their cells
pub record HasBothMemoriesWhole (node : NodeState) : Type 0 where
  pub ram : AreCellsOfWholeMemory node.ram
  pub rom : AreCellsOfWholeMemory node.rom

-- the node is one whose words can be read back
pub record HasMemoriesAndRegistersInRange (node : NodeState) : Type 0 where
  pub registers : HasRegistersInRange node
  pub memories : HasBothMemoriesWhole node

-- ---- what is written once a source or an image was read

-- What may be written once the source was read: nothing where it is refused.
abbrev pub WritesAssemblyAfterRead : Text → Text → Status → Type 0
WritesAssemblyAfterRead source text Done = IsAssembledImage source text
WritesAssemblyAfterRead source text ImageRefused = text ≡ []
WritesAssemblyAfterRead source text StreamFault = IsTruncationOfText (IsAssembledImage source) text
WritesAssemblyAfterRead source text NotFinished = ⊥
WritesAssemblyAfterRead source text CommandRefused = ⊥

-- what comes of a source
abbrev pub IsSourceAssembly : Text → SourceAssembly → Type 0
IsSourceAssembly source (Image it) = IsImageWithWarnings source it.image.items it.nodes it.warnings.items
IsSourceAssembly source (Faulty lines) = AreSourceFaultLines source lines.items
IsSourceAssembly source NoMemory = Unit {0}

-- a refusal is written whole or in part
abbrev pub WritesRefusalText : Text → Text → Status → Type 0
WritesRefusalText whole text ImageRefused = text ≡ whole
WritesRefusalText whole text StreamFault = TextHasPrefix whole text
WritesRefusalText whole text Done = ⊥
WritesRefusalText whole text NotFinished = ⊥
WritesRefusalText whole text CommandRefused = ⊥

-- What may be written as JSON once the source was read.
abbrev pub WritesAssemblyJsonAfterRead : Text → Text → Text → Status → Type 0
WritesAssemblyJsonAfterRead file source text Done = IsImageJson file source text
WritesAssemblyJsonAfterRead file source text ImageRefused = IsRefusalJson file source text
WritesAssemblyJsonAfterRead file source text StreamFault = IsTruncationOfText (IsImageJson file source) text ⊎ IsTruncationOfText (IsRefusalJson file source) text
WritesAssemblyJsonAfterRead file source text NotFinished = ⊥
WritesAssemblyJsonAfterRead file source text CommandRefused = ⊥

-- a listing of the source, with a fault or without
abbrev pub IsListingOutcome : Text → Bool → Text → Type 0
IsListingOutcome source false text = HasAssembledChip source
IsListingOutcome source true text = IsNotPlainSource source × ListsFaultsOfSource source text

-- the status after a listing with a fault
abbrev pub status_with_listing_fault : Status → Status
status_with_listing_fault Done = ImageRefused
status_with_listing_fault ImageRefused = ImageRefused
status_with_listing_fault StreamFault = StreamFault
status_with_listing_fault NotFinished = NotFinished
status_with_listing_fault CommandRefused = CommandRefused

-- the status after a listing with a fault or none
abbrev pub status_after_listing : Status → Bool → Status
status_after_listing status false = status
status_after_listing status true = status_with_listing_fault status

-- What may be written of a listing once the source was read: nothing where memory was refused. Of the text only the faults are defined.
abbrev pub WritesListingAfterRead : Text → Text → Status → Type 0
WritesListingAfterRead source text Done = HasAssembledChip source
WritesListingAfterRead source text ImageRefused = (text ≡ []) ⊎ (IsNotPlainSource source × ListsFaultsOfSource source text)
WritesListingAfterRead source text StreamFault = Unit {0}
WritesListingAfterRead source text NotFinished = ⊥
WritesListingAfterRead source text CommandRefused = ⊥

-- What may be written once an image was read: its source or its refusal.
abbrev pub WritesDisassemblyAfterRead : Text → Text → Status → Type 0
WritesDisassemblyAfterRead image text Done = IsDisassembly image text
WritesDisassemblyAfterRead image text ImageRefused = (fault : ImageFault) × IsFaultOfImage image fault × (text ≡ image_fault_text fault)
WritesDisassemblyAfterRead image text StreamFault = IsTruncationOfText (IsDisassembly image) text ⊎ ((fault : ImageFault) × IsFaultOfImage image fault × TextHasPrefix (image_fault_text fault) text)
WritesDisassemblyAfterRead image text NotFinished = ⊥
WritesDisassemblyAfterRead image text CommandRefused = ⊥

-- the status to end with where source wasn't read whole
abbrev pub IsUnreadSourceStatus : Bytes → Status → Type 0
IsUnreadSourceStatus read ImageRefused = Unit {0}
IsUnreadSourceStatus read StreamFault = HasNoEndLine read
IsUnreadSourceStatus read Done = ⊥
IsUnreadSourceStatus read NotFinished = ⊥
IsUnreadSourceStatus read CommandRefused = ⊥

-- ---- a listing with faults, as it is made

abbrev pub is_repeated_fault : Option SourceFault → SourceFault → Bool
is_repeated_fault None fault = false
is_repeated_fault (Some last) fault = faults_compare.eq fault last

-- the faults that are listed after this last one: none that is equal to the one before
abbrev pub faults_without_repeats : Option SourceFault → List SourceFault → List SourceFault
faults_without_repeats None faults = dedup faults_compare.eq faults
faults_without_repeats (Some last) faults = drop 1 (dedup_from faults_compare.eq last faults)

-- the lines of faults at the numbers of words, after this last one
abbrev pub fault_lines_of_tokens : Text → List Token → Option SourceFault → List SourceFault → List Text
fault_lines_of_tokens source words last faults = map (listed_fault_text source) (faults_without_repeats last (map (fault_at_line_of_word words) faults))

-- the lines that are still to be listed
abbrev pub fault_lines_left : FaultLines → List Text
fault_lines_left l = fault_lines_of_tokens l.lines l.words.now l.last (drop l.told l.faults.items)

-- a text grew
pub record IsTextExtended (old new : Text) : Type 0 where
  pub added : Text
  pub text : new ≡ old ++ added

-- a text grew by those of the lines before that aren't left, among others
pub record IsListingExtended (old new : Text) (before left : List Text) : Type 0 where
  pub added : Text
  pub lines : List Text
  pub text : new ≡ old ++ added
  pub told : before ≡ lines ++ left
  pub among : HasTextPartsInOrder lines added
