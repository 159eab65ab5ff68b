-- The programs of a source, what its words ask for, and chips with programs (docs/REFERENCE.md, "Source"; the notation is this
-- project's own).
use Rattle.std.specs.Prelude.{ℕ, ◌≡◌, if◌then◌else◌, List, [], ◌∷◌, drop, slice_index_or, Some, ◌≢◌, Bool, true, false, Option, None, codes, position, bytes_eq}
use Rattle.ga_source.specs.declared.program.Program.{Program}
use Rattle.ga_parser.specs.Saying.{TokenContent}
use Rattle.ga_parser.specs.Words.{source_tokens_until_fault, source_word_texts}
use Rattle.ga_parser.specs.Plain.{PlainRequests, is_node_keyword, named_node_number, plain_requests_of_words, as_plain_requests, body_word_lists}
use Rattle.ga_parser.specs.declared.item.NodeRequests.{NodeRequests}
use Rattle.ga_parser.specs.Requests.{AreRequestsOfWords}
use Rattle.std.specs.List.{All, list_any}
use Rattle.std.specs.Option.{option_map_or}
use Rattle.ga_node.specs.Record.{NodeState}
use Rattle.ga_grid.specs.Chip.{node_at}
use Rattle.ga_grid.specs.Grid.{default_chip}
use Rattle.ga_parser.specs.declared.item.RegisterValue.{RegisterValue}
use Rattle.ga_parser.specs.declared.item.InitialRegisters.{InitialRegisters}
use Rattle.ga_parser.specs.declared.item.Operand.{Operand}
use Rattle.ga_parser.specs.declared.item.Operand.TheVariants.{Number, Label as LabelOf}
use Rattle.ga_parser.specs.declared.item.AssemblyRequest.{AssemblyRequest}
use Rattle.ga_parser.specs.declared.item.AssemblyRequest.TheVariants.{PlaceItem, Unext}
use Rattle.ga_parser.specs.declared.item.LocatedRequest.{LocatedRequest}
use Rattle.ga_parser.specs.declared.labels.Label.{Label}
use Rattle.ga_source.specs.Reading.{operand_value, first_spot_of_cell, cells_match_requests}
use Rattle.ga_source.specs.Cells.{program_uses_cell, KeepsOtherCells}

-- ---- the words of each node, with their lines

-- the words up to the first `node`
unfoldable pub body_tokens : List TokenContent → List TokenContent
body_tokens [] = []
body_tokens (said ∷ words) = if is_node_keyword said.text then [] else said ∷ body_tokens words

-- for each `node` the words after it, up to the next
unfoldable pub body_token_lists : List TokenContent → List (List TokenContent)
body_token_lists [] = []
body_token_lists (said ∷ words) = if is_node_keyword said.text then body_tokens words ∷ body_token_lists words else body_token_lists words

-- ---- what they ask for

-- what the program asks for
abbrev pub program_requests : Program → NodeRequests
program_requests program = record { asked = program.asked; names = program.names; registers = program.registers }

-- The program begins on this line, and has exactly the requests of the words after its node's name.
pub record HasRequestsOfWords (line : ℕ) (words : List TokenContent) (program : Program) : Type 0 where
  pub begins : program.line ≡ line
  pub requests : AreRequestsOfWords line words (program_requests program)

-- the program of the words after a `node`: the first is its node's name
abbrev pub IsProgramOfBody : List TokenContent → Program → Type 0
IsProgramOfBody [] program = ⊥
IsProgramOfBody (name ∷ words) program = (named_node_number name.text ≡ Some program.node.number) × HasRequestsOfWords name.line words program

-- the programs are those of these words, one for one and in order
unfoldable pub AreProgramsOfBodies : List (List TokenContent) → List Program → Type 0
AreProgramsOfBodies [] [] = Unit {0}
AreProgramsOfBodies (words ∷ rest) (program ∷ programs) = IsProgramOfBody words program × AreProgramsOfBodies rest programs
AreProgramsOfBodies [] (program ∷ programs) = ⊥
AreProgramsOfBodies (words ∷ rest) [] = ⊥

-- each program is that of the words after a `node` of the source, in order
abbrev pub AreProgramsOfSource : List ℕ → List Program → Type 0
AreProgramsOfSource source programs = AreProgramsOfBodies (body_token_lists (source_tokens_until_fault source)) programs

-- ---- what they ask for as plain words

-- The program is that of the words after a `node`: they begin with its node's name, and if the others are plain it has their
-- requests, and no label.
pub record IsPlainBodyProgram (words : List (List ℕ)) (program : Program) : Type 0 where
  pub node : named_node_number (slice_index_or words 0 []) ≡ Some program.node.number
  pub asks : (plain : PlainRequests) → plain_requests_of_words (drop 1 words) ≡ Some plain → as_plain_requests program.asked.items program.registers ≡ plain
  pub names : (plain : PlainRequests) → plain_requests_of_words (drop 1 words) ≡ Some plain → program.names.items ≡ []

-- the programs are those of these words, one for one and in order
unfoldable pub ArePlainBodyPrograms : List (List (List ℕ)) → List Program → Type 0
ArePlainBodyPrograms [] [] = Unit {0}
ArePlainBodyPrograms (words ∷ rest) (program ∷ programs) = IsPlainBodyProgram words program × ArePlainBodyPrograms rest programs
ArePlainBodyPrograms [] (program ∷ programs) = ⊥
ArePlainBodyPrograms (words ∷ rest) [] = ⊥

-- the source has these programs: one for each `node`
abbrev pub ArePlainProgramsOfSource : List ℕ → List Program → Type 0
ArePlainProgramsOfSource source programs = ArePlainBodyPrograms (body_word_lists (source_word_texts source)) programs

-- ---- chips with programs (docs/REFERENCE.md, "Source"; the notation is this project's own)

-- the value that a register is given
abbrev pub given_register_value : List (Option ℕ) → Option RegisterValue → Option ℕ
given_register_value labels (Some given) = operand_value labels given.value
given_register_value labels None = None

-- a value, or what was there before
abbrev pub value_or_previous : Option ℕ → ℕ → ℕ
value_or_previous (Some value) before = value
value_or_previous None before = before

-- the node with the registers that are given; the others stay
abbrev pub node_with_given_registers : NodeState → List (Option ℕ) → InitialRegisters → NodeState
node_with_given_registers node labels registers = record node {
  p = value_or_previous (given_register_value labels registers.p) node.p;
  a = value_or_previous (given_register_value labels registers.a) node.a;
  b = value_or_previous (given_register_value labels registers.b) node.b;
}

-- the request asks for an item
abbrev pub is_item_request : AssemblyRequest → Bool
is_item_request (PlaceItem _) = true
is_item_request (Unext _) = true
is_item_request _ = false

-- one of the requests asks for an item, and so for a cell
abbrev pub requests_have_cells : List LocatedRequest → Bool
requests_have_cells asked = list_any (λ one. is_item_request one.request) asked

-- the label has this name
abbrev pub is_label_named : List ℕ → Label → Bool
is_label_named name label = bytes_eq label.name.now name

-- P where no line gives it: the address of the label `main` where there is one, else 0
abbrev pub default_p_operand : List Label → Operand
default_p_operand labels = option_map_or LabelOf (position (is_label_named (codes "main")) labels) (Number 0)

abbrev pub p_value_or_default : Option RegisterValue → List Label → Bool → Option RegisterValue
p_value_or_default None labels true = Some (record { line = 0; value = default_p_operand labels })
p_value_or_default given _ _ = given

-- the registers of a program at load: those that it gives, and where it has cells and gives no P, the one that it has then
abbrev pub registers_at_load : InitialRegisters → List Label → Bool → InitialRegisters
registers_at_load given labels has = record given { p = p_value_or_default given.p labels has }

-- From address 0 on, the cells of the node read as what the program asks of it, and each cell that it doesn't name is as it was.
-- Its registers are those of the program at load, and what is left is as it was before.
pub record HasProgram (before after : NodeState) (program : Program) : Type 0 where
  pub reads : cells_match_requests after program.labels.items (first_spot_of_cell 0) program.asked.items ≡ true
  pub elsewhere : KeepsOtherCells (program_uses_cell program) before after
  pub rest : after ≡ node_with_given_registers (record before { ram = after.ram; rom = after.rom }) program.labels.items (registers_at_load program.registers program.names.items (requests_have_cells program.asked.items))

-- the program's node has it, and was as at load before
abbrev pub IsProgramLoaded : List NodeState → Program → Type 0
IsProgramLoaded chip program =
    HasProgram (node_at default_chip program.node.number) (node_at chip program.node.number) program

-- a node that no program names
abbrev pub IsUnprogrammedNode : List Program → ℕ → Type 0
IsUnprogrammedNode programs n = All (λ program. program.node.number ≢ n) programs

-- nothing but the memories and the registers P, A and B differs
abbrev pub KeepsFieldsThatSourceCannotGive : NodeState → NodeState → Type 0
KeepsFieldsThatSourceCannotGive before after = after ≡ record before { ram = after.ram; rom = after.rom; p = after.p; a = after.a; b = after.b }

-- each program is loaded into its node, and each other node is as at load
pub record IsAssembledChip (chip : List NodeState) (programs : List Program) : Type 0 where
  pub each : All (IsProgramLoaded chip) programs
  pub rest : (n : ℕ) → IsUnprogrammedNode programs n → node_at chip n ≡ node_at default_chip n
  pub state : (n : ℕ) → KeepsFieldsThatSourceCannotGive (node_at default_chip n) (node_at chip n)
