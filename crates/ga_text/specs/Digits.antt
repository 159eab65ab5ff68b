-- Digits: decimal ones and hexadecimal ones (docs/REFERENCE.md, "Images").
use Rattle.std.specs.Prelude.{ℕ, ◌+◌, ◌*◌, ◌/◌, ◌%◌, List, [], ◌∷◌, Option, Some, None, flat_map, ◌++◌, codes, decimal}
use Rattle.ga_text.specs.Lines.{Text}
use Rattle.hex.specs.Hex.{hex_digit_value}
use Rattle.ga_word.specs.Word.{hex_digit_at_place, hex_digits_of_word}
use Rattle.ga_ports.specs.Steps.{◌>>=◌}
use Rattle.ga_grid.specs.Grid.{decimal_name_of_node}
use Rattle.ga_grid.specs.declared.node_id.NodeId.{NodeId}

-- ---- written

-- three decimal digits
abbrev pub three_decimal_digits : ℕ → Text
three_decimal_digits n = (48 + n / 100) ∷ (48 + n / 10 % 10) ∷ (48 + n % 10) ∷ []

-- two hexadecimal digits
abbrev pub two_hex_digits_text : ℕ → Text
two_hex_digits_text n = hex_digit_at_place n 1 ∷ hex_digit_at_place n 0 ∷ []

-- words of six digits, each after one space
abbrev pub spaced_words_text : List ℕ → Text
spaced_words_text words = flat_map (λ word. 32 ∷ hex_digits_of_word word) words

-- ---- read

-- the number of exactly two hexadecimal digits, in either case
unfoldable pub hex_byte_value : Text → Option ℕ
hex_byte_value (x ∷ y ∷ []) = do
  high ← hex_digit_value x
  low ← hex_digit_value y
  Some (high * 16 + low)
hex_byte_value _ = None

-- ---- the names of nodes and of their steps (docs/REFERENCE.md, "Sessions"; this project's own)

-- a node's name: three decimal digits, of its row and its column
abbrev pub name_of_node : NodeId → Text
name_of_node node = three_decimal_digits (decimal_name_of_node node.number)

-- a step of a node
abbrev pub step_text : NodeId → ℕ → Text
step_text node step = name_of_node node ++ codes " " ++ decimal step
