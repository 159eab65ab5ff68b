-- The numbers of conditions (Debug Adapter Protocol, "SourceBreakpoint": the forms are the debugger's own; ports: G144A12 Chip Reference
-- DB002).
use Rattle.std.specs.Prelude.{ℕ, ◌+◌, ◌-◌, ◌*◌, ◌%◌, ◌^◌, nat_lt, nat_le, ◌&&◌, if◌then◌else◌, [], ◌∷◌, take, drop, codes, bytes_eq, Option, Some, None, option_and_then, List}
use Rattle.ga_text.specs.Lines.{Text, Line}
use Rattle.ga_text.specs.Parsing.{parse_number, u32_if_fits}
use Rattle.ga_ports.specs.Steps.{◌>>=◌}
use Rattle.ga_text.specs.Digits.{hex_byte_value}
use Rattle.ga_grid.specs.declared.node_id.NodeId.{NodeId}
use Rattle.ga_parser.specs.Vocabulary.{named_port_address}
use Rattle.ga_debug_info.specs.declared.notes.LabelAddress.{LabelAddress}
use Rattle.ga_debug_info.specs.Notes.{label_address_of_node}

-- a number that fits in a word
abbrev pub word_if_in_range : ℕ → Option ℕ
word_if_in_range n = if nat_lt n (2 ^ 18) then Some n else None

-- a word of six hexadecimal digits, in either case
unfoldable pub parsed_hex_word : Line → Option ℕ
parsed_hex_word (a ∷ b ∷ c ∷ d ∷ e ∷ f ∷ []) = do
  high ← hex_byte_value (a ∷ b ∷ [])
  middle ← hex_byte_value (c ∷ d ∷ [])
  low ← hex_byte_value (e ∷ f ∷ [])
  word_if_in_range (65536 * high + 256 * middle + low)
parsed_hex_word _ = None

-- ---- a number: decimal without leading zeros, or hexadecimal after 0x; after - it is negative, modulo 2^18

abbrev pub parse_hex_digit : ℕ → Option ℕ
parse_hex_digit byte =
    if nat_le 48 byte && nat_le byte 57 then Some (byte - 48)
    else if nat_le 97 byte && nat_le byte 102 then Some (byte - 87)
    else if nat_le 65 byte && nat_le byte 70 then Some (byte - 55)
    else None

abbrev pub append_hex_digit : ℕ → ℕ → Option ℕ
append_hex_digit number byte = do
  digit ← parse_hex_digit byte
  u32_if_fits (16 * number + digit)

abbrev pub append_hex_digits : ℕ → Text → Option ℕ
append_hex_digits number [] = Some number
append_hex_digits number (byte ∷ text) = do
  more ← append_hex_digit number byte
  append_hex_digits more text

abbrev pub parse_hex_number : Text → Option ℕ
parse_hex_number [] = None
parse_hex_number (byte ∷ text) = do
  digit ← parse_hex_digit byte
  append_hex_digits digit text

abbrev pub parse_unsigned_number : Text → Option ℕ
parse_unsigned_number text = if bytes_eq (take 2 text) (codes "0x") then parse_hex_number (drop 2 text) else parse_number text

abbrev pub word_of_negated_number : ℕ → Option ℕ
word_of_negated_number size = if nat_le size 131072 then Some ((262144 - size) % 262144) else None

abbrev pub parse_signed_number : Text → Option ℕ
parse_signed_number text = if bytes_eq (take 1 text) (codes "-") then option_and_then word_of_negated_number (parse_unsigned_number (drop 1 text)) else parse_unsigned_number text

-- ---- the operand of a comparison: a number, a word as answers have it, the address of a port, or else that of a label of the node

abbrev pub first_known_operand : Option ℕ → Option ℕ → Option ℕ
first_known_operand None other = other
first_known_operand (Some number) other = Some number

abbrev pub parse_operand_without_label : Text → Option ℕ
parse_operand_without_label text = first_known_operand (parse_signed_number text) (first_known_operand (parsed_hex_word text) (named_port_address text))

abbrev pub parsed_operand : List LabelAddress → NodeId → Text → Option ℕ
parsed_operand names node text = first_known_operand (parse_operand_without_label text) (label_address_of_node names node text)
