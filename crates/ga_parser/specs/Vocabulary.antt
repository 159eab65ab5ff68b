-- Numbers and ports as words of a source, and the words that stand for themselves (docs/REFERENCE.md, "Source" and "Addresses"; the
-- notation is this project's own, after arrayForth).
use Rattle.std.specs.Prelude.{ℕ, ◌-◌, ◌*◌, ◌%◌, ◌==◌, nat_lt, nat_le, bit_xor, ◌&&◌, if◌then◌else◌, List, [], ◌∷◌, length, take, drop, codes, bytes_eq, Bool, Option, Some, None, true, false, ◌||◌, map, is_some}
use Rattle.std.specs.List.{list_all}
use Rattle.ga_ports.specs.Steps.{◌>>=◌}
use Rattle.ga_ports.specs.Address.{parse_side_set}
use Rattle.std.specs.Option.{option_or, option_map_or}
use Rattle.std.specs.Char.{is_digit}
use Rattle.std.specs.Str.Parse.{digits_value}
use Rattle.ga_parser.specs.declared.number.Number.{Number}
use Rattle.ga_parser.specs.declared.number.Number.TheVariants.{Of, OutOfRange, Nothing}
use Rattle.ga_parser.specs.Saying.{has_bytes}
use Rattle.ga_slots.specs.declared.op.Op.{Op}
use Rattle.ga_slots.specs.declared.op.Op.TheVariants.{Jump, Call, Unext as UnextOp, Next as NextOp, If as IfOp, MinusIf, Invert, Or, Nop}
use Rattle.ga_slots.specs.Codes.{name_of_opcode, all_opcodes}
use Rattle.ga_parser.specs.declared.vocabulary.Control.{Control}
use Rattle.ga_parser.specs.declared.vocabulary.Control.TheVariants.{Begin, For, Again, Until, Next, NextAround, Unext, While, Repeat, If, Else, Then}
use Rattle.ga_parser.specs.declared.vocabulary.Directive.{Directive}
use Rattle.ga_parser.specs.declared.vocabulary.Directive.TheVariants.{Label, Address, Register as Given, BeginNewCell, Carry}
use Rattle.ga_parser.specs.declared.vocabulary.Register.{Register}
use Rattle.ga_parser.specs.declared.vocabulary.Register.TheVariants.{P, A, B}
use Rattle.ga_parser.specs.declared.fault.NumberRange.{NumberRange}
use Rattle.ga_parser.specs.declared.fault.NumberRange.TheVariants.{Word as ToWord, P as ToP, B as ToB}

-- ---- numbers

-- the text is digits of a base, and has some
abbrev pub is_numeral : ℕ → List ℕ → Bool
is_numeral base text = has_bytes text && list_all (λ byte. is_digit byte base) text

-- the number that digits of a base write
abbrev pub value_of_digits : ℕ → List ℕ → Option ℕ
value_of_digits base text = if is_numeral base text then Some (digits_value base text) else None

-- the text begins with this front
abbrev pub has_prefix : List ℕ → List ℕ → Bool
has_prefix text front = bytes_eq (take (length front) text) front

-- decimal digits, or hexadecimal ones after `0x`
abbrev pub unsigned_number : List ℕ → Option ℕ
unsigned_number text = if has_prefix text (codes "0x") then value_of_digits 16 (drop 2 text) else value_of_digits 10 text

-- a number up to 262143
abbrev pub number_in_word_range : ℕ → Number
number_in_word_range size = if nat_lt size 262144 then Of size else OutOfRange

-- a number down to -131072, modulo 2^18
abbrev pub negative_number_in_range : ℕ → Number
negative_number_in_range size = if nat_le size 131072 then Of ((262144 - size) % 262144) else OutOfRange

abbrev pub signed_number : List ℕ → Number
signed_number text =
    if has_prefix text (codes "-") then option_map_or negative_number_in_range (unsigned_number (drop 1 text)) Nothing
    else option_map_or number_in_word_range (unsigned_number text) Nothing

-- ---- ports

-- what a table has for a name
abbrev pub find_in_table : {X : Type 0} → List (List ℕ × X) → List ℕ → Option X
find_in_table [] text = None
find_in_table (row ∷ rest) text = if bytes_eq text row.0 then Some row.1 else find_in_table rest text

abbrev pub named_port_addresses : List (List ℕ × ℕ)
named_port_addresses =
    (codes "right", 0x1d5)
    ∷ (codes "down", 0x115)
    ∷ (codes "left", 0x175)
    ∷ (codes "up", 0x145)
    ∷ (codes "io", 0x15d)
    ∷ []

-- the address of a set of ports, by the number of the set (DB001, ports): a side that it has turns a bit over; none where it is empty
abbrev pub port_set_address : ℕ → Option ℕ
port_set_address set = if set == 0 then None else Some (bit_xor 0x155 (16 * set))

-- a set of ports: a letter or a hyphen for each side
abbrev pub named_port_set : List ℕ → Option ℕ
named_port_set text = parse_side_set text >>= port_set_address

abbrev pub named_port_address : List ℕ → Option ℕ
named_port_address text = option_or (find_in_table named_port_addresses text) (named_port_set text)

-- ---- what a word says of a number: the address of a port, or the number modulo 2^18
abbrev pub number_spelled_by_word : List ℕ → Number
number_spelled_by_word text = option_map_or Of (named_port_address text) (signed_number text)

-- ---- opcodes

-- the names that an opcode has beside its own
abbrev pub opcodes_by_alias : List (List ℕ × Op)
opcodes_by_alias =
    (codes "-", Invert)
    ∷ (codes "inv", Invert)
    ∷ (codes "xor", Or)
    ∷ (codes "nop", Nop)
    ∷ []

-- each opcode by its own name
abbrev pub opcodes_by_name : List (List ℕ × Op)
opcodes_by_name = map (λ op. (name_of_opcode op, op)) all_opcodes

-- the opcode, if no address follows it: one with an address is written as a call, a loop or a jump ahead
abbrev pub opcode_without_address : Op → Option Op
opcode_without_address Jump = None
opcode_without_address Call = None
opcode_without_address UnextOp = None
opcode_without_address NextOp = None
opcode_without_address IfOp = None
opcode_without_address MinusIf = None
opcode_without_address op = Some op

-- the opcode that a word is
unfoldable pub opcode_of_word : List ℕ → Option Op
opcode_of_word word = option_or (find_in_table opcodes_by_alias word) (find_in_table opcodes_by_name word) >>= opcode_without_address

-- ---- control words

-- the control words that close the innermost loop
abbrev pub loop_closing_words : List (List ℕ × Control)
loop_closing_words =
    (codes "again", Again)
    ∷ (codes "until", Until IfOp)
    ∷ (codes "-until", Until MinusIf)
    ∷ (codes "next", Next)
    ∷ (codes "*next", NextAround)
    ∷ (codes "unext", Unext)
    ∷ (codes "while", While IfOp)
    ∷ (codes "-while", While MinusIf)
    ∷ (codes "repeat", Repeat)
    ∷ []

abbrev pub control_words_by_name : List (List ℕ × Control)
control_words_by_name =
    (codes "begin", Begin)
    ∷ (codes "for", For)
    ∷ (codes "if", If IfOp)
    ∷ (codes "-if", If MinusIf)
    ∷ (codes "ahead", If Jump)
    ∷ (codes "else", Else)
    ∷ (codes "then", Then)
    ∷ loop_closing_words

-- the control word that a word is
unfoldable pub control_of_word : List ℕ → Option Control
control_of_word word = find_in_table control_words_by_name word

-- ---- directives

abbrev pub directives_by_name : List (List ℕ × Directive)
directives_by_name =
    (codes ":", Label)
    ∷ (codes "org", Address)
    ∷ (codes "/p", Given P)
    ∷ (codes "/a", Given A)
    ∷ (codes "/b", Given B)
    ∷ (codes "..", BeginNewCell)
    ∷ (codes "+cy", Carry true)
    ∷ (codes "-cy", Carry false)
    ∷ []

-- the directive that a word is
unfoldable pub directive_of_word : List ℕ → Option Directive
directive_of_word word = find_in_table directives_by_name word

-- what a register is given is below this
abbrev pub register_bound : Register → ℕ
register_bound P = 0x400
register_bound A = 0x40000
register_bound B = 0x200

-- the numbers that a register takes
abbrev pub register_range : Register → NumberRange
register_range P = ToP
register_range A = ToWord
register_range B = ToB

-- ---- names

-- what a word says is a number, in range or not
abbrev pub spells_number : Number → Bool
spells_number (Of _) = true
spells_number OutOfRange = true
spells_number Nothing = false

-- the word begins a node or an expectation, defines a constant, ends a cell or begins a comment, or has an apostrophe in front
abbrev pub is_syntax_word : List ℕ → Bool
is_syntax_word word = bytes_eq word (codes "node") || bytes_eq word (codes "expect") || bytes_eq word (codes "constant") || bytes_eq word (codes ",") || bytes_eq word (codes "\\") || bytes_eq word (codes "(") || has_prefix word (codes "'")

-- The word says something of itself, so that no label has this name: an opcode, with an address or without, a control word, a number,
-- a port, a directive, or a sign.
unfoldable pub is_reserved_word : List ℕ → Bool
is_reserved_word word =
    (is_some (opcode_of_word word) || bytes_eq word (codes "jump") || bytes_eq word (codes "call"))
    || is_some (control_of_word word)
    || spells_number (number_spelled_by_word word)
    || is_some (directive_of_word word)
    || is_syntax_word word
