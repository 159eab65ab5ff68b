-- Words of a line: where one ends, and the node, the number or the address that it names (docs/REFERENCE.md, "Sessions"; this
-- project's own).
use Rattle.std.specs.Prelude.{◌≡◌, ℕ, ◌+◌, ◌*◌, ◌^◌, ◌<◌, ◌==◌, nat_lt, if◌then◌else◌, [], ◌∷◌, Option, Some, None, option_map}
use Rattle.std.specs.Str.{str_to_ascii_lowercase}
use Rattle.ga_text.specs.Lines.{Text}
use Rattle.ga_text.specs.Digits.{two_hex_digits_text}
use Rattle.ga_grid.specs.Grid.{node_number_of_name, node_id, decimal_digit, parse_decimal_name}
use Rattle.ga_grid.specs.declared.node_id.NodeId.{NodeId}
use Rattle.ga_ports.specs.Steps.{◌>>=◌}

-- a byte more in front of the first part
abbrev pub parts_with_prepended_byte : ℕ → Option (Text × Text) → Option (Text × Text)
parts_with_prepended_byte b None = None
parts_with_prepended_byte b (Some parts) = Some (b ∷ parts.0, parts.1)

-- the text before the first space, and the text after it
abbrev pub split_at_space : Text → Option (Text × Text)
split_at_space [] = None
split_at_space (b ∷ text) = if b == 32 then Some ([], text) else parts_with_prepended_byte b (split_at_space text)

-- the node of three decimal digits
unfoldable pub parse_node : Text → Option NodeId
parse_node word = do
  decimal_name ← parse_decimal_name word
  option_map node_id (node_number_of_name decimal_name)

-- a number that fits
abbrev pub u32_if_fits : ℕ → Option ℕ
u32_if_fits n = if nat_lt n (2 ^ 32) then Some n else None

-- a number with one decimal digit more; none after a leading zero
abbrev pub number_with_decimal_digit : ℕ → ℕ → Option ℕ
number_with_decimal_digit n byte =
    if n == 0 then None
    else (do
      digit ← decimal_digit byte
      u32_if_fits (10 * n + digit))

-- a number with all of these decimal digits more
abbrev pub number_with_decimal_digits : ℕ → Text → Option ℕ
number_with_decimal_digits n [] = Some n
number_with_decimal_digits n (byte ∷ text) = do
  more ← number_with_decimal_digit n byte
  number_with_decimal_digits more text

-- the number of decimal digits without leading zeros
abbrev pub parse_number : Text → Option ℕ
parse_number [] = None
parse_number (byte ∷ text) = do
  digit ← decimal_digit byte
  number_with_decimal_digits digit text

-- the numbers of steps that can be named
abbrev pub IsStepNumberInRange : ℕ → Type 0
IsStepNumberInRange k = k < 2 ^ 32

-- an address has two hexadecimal digits, of either case
pub record SpellsAddress (address : ℕ) (word : Text) : Type 0 where
  pub in_range : address < 256
  pub digits : str_to_ascii_lowercase word ≡ two_hex_digits_text address
