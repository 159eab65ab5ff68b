-- Values that a node holds, compared with a number (F18A Technology Reference DB001, registers, stacks and memory map; Debug Adapter
-- Protocol, "SourceBreakpoint", of a breakpoint's condition).
use Rattle.std.specs.Prelude.{ℕ, ◌==◌, nat_lt, nat_le, Bool, true, false, not, ◌||◌, if◌then◌else◌, slice_index}
use Rattle.std.specs.Int.{from_bool}
use Rattle.ga_node.specs.Record.{NodeRecord}
use Rattle.ga_lab.specs.Machine.{memory_word_at_address}
use Rattle.ga_scheduler.specs.declared.value_test.NodeValue.{NodeValue}
use Rattle.ga_scheduler.specs.declared.value_test.NodeValue.TheVariants as value
use Rattle.ga_scheduler.specs.declared.value_test.Comparison.{Comparison}
use Rattle.ga_scheduler.specs.declared.value_test.Comparison.TheVariants as comparison
use Rattle.ga_scheduler.specs.declared.value_test.ValueTest.{ValueTest}

-- a word of a stack from the top on
abbrev pub data_word_from_top : NodeRecord → ℕ → ℕ
data_word_from_top n place = if nat_lt place 10 then slice_index n.d place else 0

abbrev pub return_word_from_top : NodeRecord → ℕ → ℕ
return_word_from_top n place = if nat_lt place 9 then slice_index n.r place else 0

-- a value of a node that made `steps` steps
abbrev pub node_value : NodeRecord → ℕ → NodeValue → ℕ
node_value n steps value.StepCountValue = steps
node_value n steps value.P = n.p
node_value n steps value.A = n.a
node_value n steps value.B = n.b
node_value n steps value.I = n.i
node_value n steps value.Slot = n.slot
node_value n steps value.Carry = from_bool n.carry
node_value n steps value.Io = n.io
node_value n steps (value.DataWord place) = data_word_from_top n place
node_value n steps (value.ReturnWord place) = return_word_from_top n place
node_value n steps (value.Cell address) = memory_word_at_address n address

abbrev pub is_comparison_satisfied : Comparison → ℕ → ℕ → Bool
is_comparison_satisfied comparison.Equal value number = value == number
is_comparison_satisfied comparison.Unequal value number = not (value == number)
is_comparison_satisfied comparison.Less value number = nat_lt value number
is_comparison_satisfied comparison.AtMost value number = nat_le value number
is_comparison_satisfied comparison.More value number = nat_lt number value
is_comparison_satisfied comparison.AtLeast value number = nat_le number value

-- a node that made `steps` steps passes the test
abbrev pub is_value_test_passed : ValueTest → NodeRecord → ℕ → Bool
is_value_test_passed test n steps = is_comparison_satisfied test.comparison (node_value n steps test.value) test.number

-- the value is the number of steps, and no word
abbrev pub is_step_count_value : NodeValue → Bool
is_step_count_value value.StepCountValue = true
is_step_count_value other = false

-- a word has 18 bits; a number of steps is any
abbrev pub is_test_number_in_range : ValueTest → Bool
is_test_number_in_range test = nat_lt test.number 262144 || is_step_count_value test.value
