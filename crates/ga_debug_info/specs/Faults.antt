-- What standard error and a listing say of a source and of an image (docs/REFERENCE.md, "Source"; this project's own).
use Rattle.std.specs.Prelude.{ℕ, ◌-◌, zero, suc, nat_lt, nat_le, ◌&&◌, if◌then◌else◌, List, [], ◌∷◌, ◌++◌, length, take, codes, decimal, Option, Some, None}
use Rattle.std.specs.List.{flat_map}
use Rattle.ga_text.specs.Lines.{Text}
use Rattle.ga_text.specs.Digits.{two_hex_digits_text}
use Rattle.ga_parser.specs.Hints.{hint_for_word}
use Rattle.ga_parser.specs.declared.fault.SourceFault.{SourceFault}
use Rattle.ga_parser.specs.declared.fault.NumberRange.{NumberRange}
use Rattle.ga_parser.specs.declared.fault.NumberRange.TheVariants.{Word, P, B, Cell}
use Rattle.ga_parser.specs.declared.fault.SourceFaultCause.{SourceFaultCause}
use Rattle.ga_parser.specs.declared.fault.SourceFaultCause.TheVariants.{Memory, LongLine, OpenComment, NoNodeBegun, NoSuchNode, NodeTwice, UnknownWord, NameTaken, MissingNameOrValue, NoNumber, LabelTwice, RegisterTwice, UnmatchedControlWord, UnclosedControlWord, OperandOutOfRange, CellTwice, PastMemoryEnd, JumpOutOfReach, UnextOutOfReach}
use Rattle.ga_source.specs.declared.program.Program.{Program}
use Rattle.ga_source.specs.declared.stores.StoreOverCode.{StoreOverCode}
use Rattle.ga_source.specs.Stores.{stores_over_code_of_program}
use Rattle.ga_debug_info.specs.Source.{address_text}

-- ---- a fault

-- printable ASCII is printed unchanged, and any other byte as `\x` and its two hexadecimal digits
abbrev pub printable_byte_text : ℕ → Text
printable_byte_text byte = if nat_le 32 byte && nat_lt byte 127 then byte ∷ [] else codes "\\x" ++ two_hex_digits_text byte

abbrev pub printable_text : Text → Text
printable_text word = flat_map printable_byte_text word

-- the spelling or the word that is proposed in place of an unknown one
abbrev pub hint_suffix_text : Option Text → Text
hint_suffix_text None = []
hint_suffix_text (Some text) = codes ": " ++ printable_text text

-- the numbers of a range
abbrev pub number_range_text : NumberRange → Text
number_range_text Word = codes "-131072 to 262143"
number_range_text P = codes "0 to 0x3ff"
number_range_text B = codes "0 to 0x1ff"
number_range_text Cell = codes "0 to 0x3f, 0x80 to 0xbf"

-- the cell that a line gave before
abbrev pub repeated_cell_text : ℕ → ℕ → Text
repeated_cell_text cell line = codes "cell " ++ address_text cell ++ codes " given before on line " ++ decimal line

-- the cell in decimal, for `org`
abbrev pub org_address_text : ℕ → Text
org_address_text cell = codes " (org " ++ decimal cell ++ codes " is " ++ address_text cell ++ codes ")"

-- what is wrong
abbrev pub source_cause_text : SourceFaultCause → Text
source_cause_text Memory = codes "no memory"
source_cause_text LongLine = codes "the line has more than 200 bytes"
source_cause_text OpenComment = codes "a comment without its )"
source_cause_text NoNodeBegun = codes "no node has begun"
source_cause_text NoSuchNode = codes "no such node"
source_cause_text NodeTwice = codes "the node has a program already"
source_cause_text (UnknownWord word) = codes "what is " ++ printable_text word.now ++ hint_suffix_text (hint_for_word word.now)
source_cause_text NameTaken = codes "the name is taken"
source_cause_text MissingNameOrValue = codes "a name or a value is missing"
source_cause_text NoNumber = codes "no number from -131072 to 262143 before constant"
source_cause_text LabelTwice = codes "the label stands twice"
source_cause_text RegisterTwice = codes "the register is given twice"
source_cause_text UnmatchedControlWord = codes "nothing is open that this closes"
source_cause_text UnclosedControlWord = codes "this is never closed"
source_cause_text (OperandOutOfRange word range) = codes "number out of range: " ++ printable_text word.now ++ codes " (" ++ number_range_text range ++ codes ")"
source_cause_text (CellTwice cell line) = repeated_cell_text cell line ++ org_address_text cell
source_cause_text (PastMemoryEnd address) = address_text address ++ codes " is past the end of RAM or ROM"
source_cause_text (JumpOutOfReach cell target) = address_text target ++ codes " is out of reach of a jump in " ++ address_text cell
source_cause_text (UnextOutOfReach cell) = codes "the loop of unext in " ++ address_text cell ++ codes " is longer than its cell"

-- a fault with its line
abbrev pub source_fault_text : SourceFault → Text
source_fault_text fault = codes "line " ++ decimal fault.line ++ codes ": " ++ source_cause_text fault.cause

-- ---- faults

-- a line after a prefix
abbrev pub prefixed_line : Text → Text → Text
prefixed_line prefix text = prefix ++ text ++ codes "\n"

-- the number of faults that are left out
abbrev pub more_faults_text : Text → ℕ → Text
more_faults_text prefix zero = []
more_faults_text prefix (suc n) = prefixed_line prefix (codes "and " ++ decimal (suc n) ++ codes " more")

-- the maximum number of faults that are printed
abbrev pub max_reported_faults : ℕ
max_reported_faults = 20

-- the first of some faults, each on a line, and the number of the others
abbrev pub reported_faults_text : Text → List SourceFault → Text
reported_faults_text prefix faults = flat_map (λ fault. prefixed_line prefix (source_fault_text fault)) (take max_reported_faults faults) ++ more_faults_text prefix (length faults - max_reported_faults)

-- ---- lines of standard error

abbrev pub error_prefix : Text
error_prefix = codes "ga144: "

abbrev pub out_of_memory_text : Text
out_of_memory_text = prefixed_line error_prefix (codes "no memory")

abbrev pub input_too_long_text : Text
input_too_long_text = prefixed_line error_prefix (codes "the source has more than 16777216 bytes")

-- a line that writes an address
abbrev pub address_write_warning_text : ℕ → ℕ → Text
address_write_warning_text line address = codes "line " ++ decimal line ++ codes ": warning: this writes " ++ address_text address

-- the warning of a store over code
abbrev pub store_warning_text : StoreOverCode → Text
store_warning_text store = prefixed_line error_prefix (address_write_warning_text store.line store.address ++ codes ", which holds code of line " ++ decimal store.code_line)

-- the stores over code of programs, in their order
abbrev pub stores_of_programs : List Program → List StoreOverCode
stores_of_programs programs = flat_map stores_over_code_of_program programs
