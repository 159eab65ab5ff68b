-- Comparisons of a value that a node holds, as text (Debug Adapter Protocol, "SourceBreakpoint": the forms are the debugger's own): VALUE OP
-- NUMBER, one space between.
use Rattle.std.specs.Prelude.{ℕ, ◌-◌, ◌==◌, nat_le, ◌&&◌, ◌||◌, if◌then◌else◌, List, [], ◌∷◌, length, slice_index, slice_range, codes, bytes_eq, Option, Some, None, option_map}
use Rattle.ga_text.specs.Lines.{Text}
use Rattle.ga_text.specs.Parsing.{split_at_space}
use Rattle.ga_ports.specs.Steps.{◌>>=◌}
use Rattle.ga_text.specs.Digits.{hex_byte_value}
use Rattle.ga_grid.specs.declared.node_id.NodeId.{NodeId}
use Rattle.ga_debug_info.specs.declared.notes.LabelAddress.{LabelAddress}
use Rattle.ga_scheduler.specs.declared.value_test.NodeValue.{NodeValue}
use Rattle.ga_scheduler.specs.declared.value_test.NodeValue.TheVariants.{StepCountValue, P, A, B, I, Slot, Carry, Io, DataWord, ReturnWord, Cell}
use Rattle.ga_scheduler.specs.declared.value_test.Comparison.{Comparison}
use Rattle.ga_scheduler.specs.declared.value_test.Comparison.TheVariants.{Equal, Unequal, Less, AtMost, More, AtLeast}
use Rattle.ga_scheduler.specs.declared.value_test.ValueTest.{ValueTest}
use Rattle.ga_conditions.specs.Numbers.{parsed_operand}

-- ---- the value: t s r p a b i, d2 to d9, r1 to r8, io, slot, carry, step, or the cell [HH]

abbrev pub node_value_of_one_letter : ℕ → Option NodeValue
node_value_of_one_letter letter =
    if letter == 116 then Some (DataWord 0)
    else if letter == 115 then Some (DataWord 1)
    else if letter == 114 then Some (ReturnWord 0)
    else if letter == 112 then Some P
    else if letter == 97 then Some A
    else if letter == 98 then Some B
    else if letter == 105 then Some I
    else None

abbrev pub node_value_of_two_letters : ℕ → ℕ → Option NodeValue
node_value_of_two_letters stack place =
    if stack == 100 && nat_le 50 place && nat_le place 57 then Some (DataWord (place - 48))
    else if stack == 114 && nat_le 49 place && nat_le place 56 then Some (ReturnWord (place - 48))
    else if stack == 105 && place == 111 then Some Io
    else None

abbrev pub node_value_in_brackets : Text → Option NodeValue
node_value_in_brackets text =
    if length text == 4 && slice_index text 0 == 91 && slice_index text 3 == 93 then option_map (λ address. Cell address) (hex_byte_value (slice_range text 1 3)) else None

abbrev pub node_value_of_keyword : Text → Option NodeValue
node_value_of_keyword text =
    if bytes_eq text (codes "slot") then Some Slot
    else if bytes_eq text (codes "carry") then Some Carry
    else if bytes_eq text (codes "step") then Some StepCountValue
    else node_value_in_brackets text

unfoldable pub parsed_node_value : Text → Option NodeValue
parsed_node_value (letter ∷ []) = node_value_of_one_letter letter
parsed_node_value (stack ∷ place ∷ []) = node_value_of_two_letters stack place
parsed_node_value text = node_value_of_keyword text

-- ---- the comparison

abbrev pub parsed_comparison : Text → Option Comparison
parsed_comparison text =
    if bytes_eq text (codes "=") || bytes_eq text (codes "==") then Some Equal
    else if bytes_eq text (codes "!=") then Some Unequal
    else if bytes_eq text (codes "<") then Some Less
    else if bytes_eq text (codes "<=") then Some AtMost
    else if bytes_eq text (codes ">") then Some More
    else if bytes_eq text (codes ">=") then Some AtLeast
    else None

-- ---- the test, with the labels of a program

unfoldable pub parsed_value_test : List LabelAddress → NodeId → Text → Option ValueTest
parsed_value_test names node text = do
  after_value ← split_at_space text
  after_sign ← split_at_space after_value.1
  value ← parsed_node_value after_value.0
  comparison ← parsed_comparison after_sign.0
  number ← parsed_operand names node after_sign.1
  Some (record { value = value; comparison = comparison; number = number })
