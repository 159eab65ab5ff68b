-- The fields of an image that source doesn't give (docs/REFERENCE.md, "Source"; this project's own).
use Rattle.std.specs.Prelude.{ℕ, ◌+◌, ◌==◌, Bool, if◌then◌else◌, List, [], ◌∷◌, ◌++◌, length, codes}
use Rattle.std.specs.List.{list_all}
use Rattle.std.specs.Int.{from_bool}
use Rattle.ga_stacks.specs.Ring.{initial_stack_word}
use Rattle.ga_node.specs.Record.{NodeState, record_of_node}
use Rattle.ga_node.specs.State.{wait_code}
use Rattle.ga_grid.specs.Grid.{decimal_name_of_node}
use Rattle.ga_text.specs.Digits.{three_decimal_digits}
use Rattle.ga_text.specs.Lines.{Text}
use Rattle.ga_debug_info.specs.Faults.{prefixed_line, error_prefix}

-- the name of a field, unless it is as at load
abbrev pub field_name_unless_default : Bool → Text → Text
field_name_unless_default is_at_load name = if is_at_load then [] else name

abbrev pub is_initial_stack_word : ℕ → Bool
is_initial_stack_word word = word == initial_stack_word

-- the fields beside the memories, P, A and B that aren't as at load, in their order in an image
abbrev pub unrepresented_fields : NodeState → Text
unrepresented_fields node =
    field_name_unless_default (node.i == 0) (codes " i") ++ field_name_unless_default (node.io == initial_stack_word) (codes " io")
    ++ field_name_unless_default (from_bool node.carry == 0) (codes " carry") ++ field_name_unless_default (node.slot == 4) (codes " slot")
    ++ field_name_unless_default (list_all is_initial_stack_word (record_of_node node).d) (codes " d") ++ field_name_unless_default (list_all is_initial_stack_word (record_of_node node).r) (codes " r")
    ++ field_name_unless_default (wait_code node.wait == 0) (codes " wait") ++ field_name_unless_default (node.stop == 0) (codes " stop")

-- the line of a node with these fields
abbrev pub unrepresented_node_line : ℕ → Text → Text
unrepresented_node_line n fields = prefixed_line error_prefix (codes "node " ++ three_decimal_digits (decimal_name_of_node n) ++ codes ": not in source:" ++ fields)

-- the line of a node, if there is such a field
abbrev pub unrepresented_fields_line : ℕ → Text → Text
unrepresented_fields_line n fields = if length fields == 0 then [] else unrepresented_node_line n fields

-- the lines of nodes, the first of which has this number
unfoldable pub unrepresented_lines_from : ℕ → List NodeState → Text
unrepresented_lines_from n [] = []
unrepresented_lines_from n (node ∷ nodes) = unrepresented_fields_line n (unrepresented_fields node) ++ unrepresented_lines_from (n + 1) nodes

-- the lines of a chip
abbrev pub unrepresented_fields_text : List NodeState → Text
unrepresented_fields_text chip = unrepresented_lines_from 0 chip
