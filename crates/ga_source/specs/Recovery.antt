-- Words with their numbers in place of their lines, what is assembled of them, and their faults (docs/REFERENCE.md, "Source"; this
-- project's own).
use Rattle.std.specs.Prelude.{ℕ, ◌≡◌, ◌-◌, nat_lt, Bool, true, false, ◌&&◌, if◌then◌else◌, List, [], ◌∷◌, ◌++◌, length, map, drop, replicate, slice_get, slice_index_or, slice_set, Option, Some, None}
use Rattle.std.specs.List.{All, dedup}
use Rattle.std.specs.List.Sorted.{IsPermutation, IsNonDecreasingBy}
use Rattle.std.specs.Option.{option_map_or}
use Rattle.ga_parser.specs.declared.fault.SourceFault.{SourceFault}
use Rattle.ga_parser.specs.contracts.fault.SourceFaultPartialEq.TheImpl.{ghosts as faults_compare}
use Rattle.ga_parser.specs.declared.fault.SourceFaultCause.{SourceFaultCause}
use Rattle.ga_parser.specs.declared.fault.SourceFaultCause.TheVariants.{LongLine as TooLong, OpenComment as LeftOpen, NoNumber as NumberLeftOut, MissingNameOrValue as NameLeftOut, NameTaken as IsTaken, NoNodeBegun, NoSuchNode, NodeTwice, CellTwice}
use Rattle.ga_parser.specs.declared.item.NodeRequests.{NodeRequests}
use Rattle.ga_parser.specs.declared.item.Operand.{Operand}
use Rattle.ga_parser.specs.declared.item.Operand.TheVariants.{Number, Label as LabelOf}
use Rattle.ga_parser.specs.declared.item.RegisterValue.{RegisterValue}
use Rattle.ga_parser.specs.declared.item.InitialRegisters.{InitialRegisters}
use Rattle.ga_parser.specs.declared.labels.Label.{Label}
use Rattle.ga_parser.specs.declared.scan.TokenKind.{TokenKind}
use Rattle.ga_parser.specs.declared.scan.TokenKind.TheVariants.{Word, LongLine, OpenComment, NoNumber, MissingNameOrValue, NameTaken}
use Rattle.ga_parser.specs.declared.vocabulary.Register.{Register}
use Rattle.ga_parser.specs.declared.vocabulary.Register.TheVariants.{P, A, B}
use Rattle.ga_parser.specs.Asking.{Refusal}
use Rattle.ga_parser.specs.Asking.RefusalCause.{NoNumberHere}
use Rattle.ga_parser.specs.Plain.{is_node_keyword, named_node_number}
use Rattle.ga_parser.specs.Recovery.{AreRecoveredRequests}
use Rattle.ga_parser.specs.Requests.{refusal_of_source_fault}
use Rattle.ga_parser.specs.Vocabulary.{register_bound, register_range}
use Rattle.ga_source.specs.declared.program.AssembledChip.{AssembledChip}
use Rattle.ga_parser.specs.declared.scan.Token.{Token}
use Rattle.ga_parser.specs.Saying.{TokenContent, is_word_token, next_line_number, token_contents}
use Rattle.ga_parser.specs.Words.{source_tokens_without_copies}
use Rattle.ga_source.specs.Programs.{body_tokens, body_token_lists, AreProgramsOfBodies, IsAssembledChip}
use Rattle.ga_source.specs.Cells.{HasRequestedCellGroups}
use Rattle.ga_source.specs.Reading.{operand_value}

-- ---- numbers of words

abbrev pub token_with_line : Token → ℕ → Token
token_with_line word number = record word { line = number }

-- the words with numbers, from this one on, in place of their lines
unfoldable pub tokens_with_word_numbers : ℕ → List Token → List Token
tokens_with_word_numbers number [] = []
tokens_with_word_numbers number (word ∷ words) = token_with_line word number ∷ tokens_with_word_numbers (next_line_number number) words

-- The chip has the programs of these words: each asks for what its words do, and each other node is as at load.
pub record IsAssemblyOfWords (words : List Token) (all : AssembledChip) : Type 0 where
  pub programs : IsAssembledChip all.chip all.programs.items
  pub asked : AreProgramsOfBodies (body_token_lists (token_contents words)) all.programs.items
  pub groups : All HasRequestedCellGroups all.programs.items

-- ---- from numbers back to lines

-- the line of the word with this number, 0 if there is none
abbrev pub line_of_numbered_word : List Token → ℕ → ℕ
line_of_numbered_word words number = option_map_or (λ (word : Token). word.line) (slice_get words (number - 1)) 0

-- a cell that is given twice names two words
abbrev pub cause_with_line_of_word : List Token → SourceFaultCause → SourceFaultCause
cause_with_line_of_word words (CellTwice cell number) = CellTwice cell (line_of_numbered_word words number)
cause_with_line_of_word words cause = cause

-- the fault at the number of a word, at that word's line
abbrev pub fault_at_line_of_word : List Token → SourceFault → SourceFault
fault_at_line_of_word words fault = record { line = line_of_numbered_word words fault.line; cause = cause_with_line_of_word words fault.cause }

-- the faults at their lines, without those that are equal to the one before
abbrev pub faults_at_lines_of_words : List Token → List SourceFault → List SourceFault
faults_at_lines_of_words words faults = dedup faults_compare.eq (map (fault_at_line_of_word words) faults)

-- ---- the faults of a node's registers

-- the name of the label whose address the value is
abbrev pub name_of_label : Option Label → List ℕ
name_of_label (Some label) = label.name.now
name_of_label None = []

abbrev pub label_name_of_operand : List Label → Operand → List ℕ
label_name_of_operand names (Number n) = []
label_name_of_operand names (LabelOf label) = name_of_label (slice_get names label)

abbrev pub is_some_below : ℕ → Option ℕ → Bool
is_some_below bound (Some n) = nat_lt n bound
is_some_below bound None = false

-- a register that is given a number out of its range
abbrev pub register_value_refusals : List (Option ℕ) → List Label → Register → Option RegisterValue → List Refusal
register_value_refusals labels names register (Some given) =
    if is_some_below (register_bound register) (operand_value labels given.value) then [] else record { line = given.line; wrong = NoNumberHere (label_name_of_operand names given.value) (register_range register) } ∷ []
register_value_refusals labels names register None = []

abbrev pub register_refusals : List (Option ℕ) → List Label → InitialRegisters → List Refusal
register_refusals labels names registers =
    register_value_refusals labels names P registers.p ++ register_value_refusals labels names A registers.a ++ register_value_refusals labels names B registers.b

-- ---- the faults of nodes

-- The faults of what words ask for: those of registers, and then those of cells. Requests that can't be packed have one fault.
pub data AreFaultsOfRequests (requests : NodeRequests) : List SourceFault → Type 0 where
  packed : (labels : List (Option ℕ)) (of_registers of_cells : List SourceFault) → map refusal_of_source_fault of_registers ≡ register_refusals labels requests.names.items requests.registers
      → AreFaultsOfRequests requests (of_registers ++ of_cells)
  unpacked : (fault : SourceFault) → AreFaultsOfRequests requests (fault ∷ [])

-- The faults of the words after a node's name on this line: those of the words, and then those of what these ask for.
pub record AreFaultsOfNode (line : ℕ) (words : List TokenContent) (faults : List SourceFault) : Type 0 where
  pub requests : NodeRequests
  pub of_words : List SourceFault
  pub of_requests : List SourceFault
  pub left : AreRecoveredRequests line words requests of_words
  pub asked : AreFaultsOfRequests requests of_requests
  pub all : faults ≡ of_words ++ of_requests

-- a program begins with this word
abbrev pub is_node_token : TokenContent → Bool
is_node_token said = is_word_token said && is_node_keyword said.text

-- the node that a word names
abbrev pub node_of_token : TokenContent → Option ℕ
node_of_token said = if is_word_token said then named_node_number said.text else None

-- what is wrong where a word can't be, or else with its line
abbrev pub cause_of_token : TokenKind → SourceFaultCause → SourceFaultCause
cause_of_token Word cause = cause
cause_of_token LongLine cause = TooLong
cause_of_token OpenComment cause = LeftOpen
cause_of_token NoNumber cause = NumberLeftOut
cause_of_token MissingNameOrValue cause = NameLeftOut
cause_of_token NameTaken cause = IsTaken

abbrev pub misplaced_word_fault : TokenContent → SourceFaultCause → SourceFault
misplaced_word_fault said cause = record { line = said.line; cause = cause_of_token said.kind cause }

-- the words from the next `node` on
abbrev pub words_from_next_node : List TokenContent → List TokenContent
words_from_next_node words = drop (length (body_tokens words)) words

-- no node has begun
abbrev pub no_nodes_begun : List Bool
no_nodes_begun = replicate 144 false

-- The faults of words in the order of nodes, where some nodes have begun. If no node begins, the words up to the next `node` are skipped,
-- with the name after a `node`; after a fault of a line or of a constant nothing is.
pub data AreFaultsOfNodes : List Bool → List TokenContent → List SourceFault → Type 0 where
  no_words : {begun : List Bool} → AreFaultsOfNodes begun [] []
  faulty : {begun : List Bool} {words : List TokenContent} {rest : List SourceFault} (first : TokenContent) → is_word_token first ≡ false
      → AreFaultsOfNodes begun words rest → AreFaultsOfNodes begun (first ∷ words) (misplaced_word_fault first NoNodeBegun ∷ rest)
  not_begun : {begun : List Bool} {words : List TokenContent} {rest : List SourceFault} (first : TokenContent) → is_word_token first ≡ true → is_node_token first ≡ false
      → AreFaultsOfNodes begun (words_from_next_node words) rest → AreFaultsOfNodes begun (first ∷ words) (misplaced_word_fault first NoNodeBegun ∷ rest)
  unnamed : {begun : List Bool} {rest : List SourceFault} (first : TokenContent) → is_node_token first ≡ true
      → AreFaultsOfNodes begun [] rest → AreFaultsOfNodes begun (first ∷ []) (misplaced_word_fault first NameLeftOut ∷ rest)
  misnamed : {begun : List Bool} {words : List TokenContent} {rest : List SourceFault} (first name : TokenContent) → is_node_token first ≡ true → node_of_token name ≡ None
      → AreFaultsOfNodes begun (words_from_next_node words) rest → AreFaultsOfNodes begun (first ∷ name ∷ words) (misplaced_word_fault name NoSuchNode ∷ rest)
  again : {begun : List Bool} {words : List TokenContent} {rest : List SourceFault} (first name : TokenContent) (n : ℕ) → is_node_token first ≡ true → node_of_token name ≡ Some n
      → slice_index_or begun n false ≡ true → AreFaultsOfNodes begun (words_from_next_node words) rest → AreFaultsOfNodes begun (first ∷ name ∷ words) (misplaced_word_fault name NodeTwice ∷ rest)
  begins : {begun : List Bool} {words : List TokenContent} {own rest : List SourceFault} (first name : TokenContent) (n : ℕ) → is_node_token first ≡ true → node_of_token name ≡ Some n
      → slice_index_or begun n false ≡ false → AreFaultsOfNode name.line (body_tokens words) own → AreFaultsOfNodes (slice_set begun n true) (words_from_next_node words) rest
      → AreFaultsOfNodes begun (first ∷ name ∷ words) (own ++ rest)

-- all faults of words, in the order of their lines
pub record AreFaultsOfWords (words : List TokenContent) (faults : List SourceFault) : Type 0 where
  pub found : List SourceFault
  pub nodes : AreFaultsOfNodes no_nodes_begun words found
  pub same : IsPermutation found faults
  pub order : IsNonDecreasingBy (λ (fault : SourceFault). fault.line) faults

-- some faults, or else this one
abbrev pub faults_or_first_fault : List SourceFault → SourceFault → List SourceFault
faults_or_first_fault [] first = first ∷ []
faults_or_first_fault (fault ∷ faults) first = fault ∷ faults

-- The faults of a source that isn't assembled for this first one.
pub record AreFaultsOfSource (source : List ℕ) (first : SourceFault) (faults : List SourceFault) : Type 0 where
  pub words : List Token
  pub numbered : List SourceFault
  pub said : token_contents words ≡ source_tokens_without_copies source
  pub found : AreFaultsOfWords (token_contents (tokens_with_word_numbers 1 words)) numbered
  pub lines : faults ≡ faults_or_first_fault (faults_at_lines_of_words words numbered) first
