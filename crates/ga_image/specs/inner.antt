-- Fields, lines, a parser and the text of blocks, as the code has them.
use Rattle.ga_image.specs.declared.line.Line.TheVariants as line
use Rattle.ga_image.specs.declared.field.Bank.TheVariants as bank
use Rattle.ga_image.specs.declared.parser.ImageReadStage.TheVariants as expects
use Rattle.std.specs.Prelude.{◌<◌, ℕ, List, map, flat_map}
use Rattle.ga_image.specs.declared.field.Field.{Field}
use Rattle.ga_image.specs.declared.field.Field.TheVariants.{Data, Return, Ram, Rom, Wait, Carry, Slot, Stop}
use Rattle.std.specs.List.{AllByRecursion}
use Rattle.ga_node.specs.State.{IsWaitCode}
use Rattle.ga_image.specs.declared.line.Line.{Line}
use Rattle.ga_image.specs.declared.field.Bank.{Bank}
use Rattle.ga_image.specs.Spelling.{LineForm, Node, Words, End}
use Rattle.ga_image.specs.declared.parser.Parser.{Parser}
use Rattle.ga_image.specs.declared.parser.ImageReadStage.{ImageReadStage as Expects}
use Rattle.ga_image.specs.Reading.{ImageReadStage, ImageReadProgress, Header, Open, Ended}
use Rattle.ga_text.specs.Lines.{Text}
use Rattle.ga_node.specs.Record.{NodeRecord}
use Rattle.ga_image.specs.Grammar.{NodeBlock, line_forms_of_block}
use Rattle.ga_image.specs.Printing.{field_text, text_of_line_form, lines_text}
use Rattle.ga_image.specs.Reading as stage

-- ---- fields with a cell that there is

-- a register, a word that a stack has, or a cell that a memory has
abbrev pub IsFieldWithinBank : Field → Type 0
IsFieldWithinBank (Data k) = k < 10
IsFieldWithinBank (Return k) = k < 9
IsFieldWithinBank (Ram cell) = cell < 64
IsFieldWithinBank (Rom cell) = cell < 64
IsFieldWithinBank register = Unit {0}

-- ---- valid words for a field

-- a word for a field, which for a wait is the number of one
abbrev pub IsFieldWord : Field → ℕ → Type 0
IsFieldWord Wait word = IsWaitCode word
IsFieldWord _ word = Unit {0}

abbrev pub AreFieldWords : Field → List ℕ → Type 0
AreFieldWords field words = AllByRecursion (IsFieldWord field) words

-- a line, as contracts see it
abbrev pub form_of_parsed_line : Line → LineForm
form_of_parsed_line (line.Node number) = Node number
form_of_parsed_line (line.Words field words) = Words field words.items
form_of_parsed_line line.End = End

-- a field of a stack or a memory
abbrev pub field_of_bank : Bank → ℕ → Field
field_of_bank bank.Data word = Data word
field_of_bank bank.Return word = Return word
field_of_bank bank.Ram cell = Ram cell
field_of_bank bank.Rom cell = Rom cell

-- ---- A parser, as contracts see it

-- a stage, as contracts see it
abbrev pub stage_of_parser : Expects → ImageReadStage
stage_of_parser expects.Header = Header
stage_of_parser expects.Open = Open
stage_of_parser (expects.Block node) = stage.Block node.number
stage_of_parser expects.Ended = Ended

-- a parser, as contracts see it
abbrev pub progress_of_parser : Parser → ImageReadProgress
progress_of_parser parser = record {
  format = parser.format;
  stage = stage_of_parser parser.stage;
  blocks = parser.blocks;
  given = parser.given;
  held = parser.held;
  chip = parser.chip;
}

-- the header was read, and no end
abbrev pub IsAfterHeader : ImageReadStage → Type 0
IsAfterHeader Open = Unit {0}
IsAfterHeader (stage.Block node) = Unit {0}
IsAfterHeader _ = ⊥

-- ---- the text of fields and blocks as it is put together

-- the text of field lines
abbrev pub field_lines_text : List (Field × List ℕ) → Text
field_lines_text lines = lines_text (map (λ line. field_text line.0 line.1) lines)

-- the text of blocks
abbrev pub blocks_text : List NodeBlock → Text
blocks_text blocks = lines_text (map text_of_line_form (flat_map line_forms_of_block blocks))

-- the fields whose lines give words, and those whose lines give one digit
abbrev pub IsFieldOfOneDigit : Field → Type 0
IsFieldOfOneDigit Carry = Unit {0}
IsFieldOfOneDigit Slot = Unit {0}
IsFieldOfOneDigit Stop = Unit {0}
IsFieldOfOneDigit _ = ⊥

abbrev pub IsWordField : Field → Type 0
IsWordField Carry = ⊥
IsWordField Slot = ⊥
IsWordField Wait = ⊥
IsWordField Stop = ⊥
IsWordField _ = Unit {0}

-- the words of a stack or a memory
abbrev pub words_of_bank : Bank → NodeRecord → List ℕ
words_of_bank bank.Data node = node.d
words_of_bank bank.Return node = node.r
words_of_bank bank.Ram node = node.ram
words_of_bank bank.Rom node = node.rom

-- how many words a stack or a memory has
abbrev pub bank_size : Bank → ℕ
bank_size bank.Data = 10
bank_size bank.Return = 9
bank_size bank.Ram = 64
bank_size bank.Rom = 64
