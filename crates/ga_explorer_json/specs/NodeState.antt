-- What `node` answers, as a JSON value (docs/REFERENCE.md, "Sessions"; this project's own).
use Rattle.std.specs.Prelude.{ℕ, zero, suc, ◌+◌, ◌-◌, nat_lt, if◌then◌else◌, pos, List, [], ◌∷◌, ◌++◌, codes}
use Rattle.std.specs.Int.{from_bool}
use Rattle.ga_ports.specs.declared.side.Side.TheVariants.{Right, Down, Left, Up}
use Rattle.ga_node.specs.Record.{NodeRecord}
use Rattle.ga_grid.specs.declared.node_id.NodeId.{NodeId}
use Rattle.ga_grid.specs.Chip.{node_record_at}
use Rattle.ga_event.specs.Flow.{node_part_value}
use Rattle.ga_event.specs.declared.flow.part.NodePart.{NodePart}
use Rattle.ga_event.specs.declared.flow.part.NodePart.TheVariants as part
use Rattle.ga_lab.specs.Machine.{MachineState, chip_of_machine}
use Rattle.ga_races.specs.Acts.{awaits_side}
use Rattle.ga_text.specs.Digits.{name_of_node}
use Rattle.ga_explorer_text.specs.Waiting.{activity_name}
use Rattle.ga_json.specs.Values.{JsonValue, boolean, number, string, JsonItems, no_items, item}
use Rattle.ga_json.specs.Fields.{NamedValue, json_object, json_report}
use Rattle.ga_explorer_json.specs.Parts.{json_number_unless_zero, part_word_fields}

-- what the node does: on which sides it waits, and its stop
abbrev pub node_status_fields : NodeRecord → List NamedValue
node_status_fields node =
    (codes "does", string (activity_name node.wait node.stop))
    ∷ (codes "at_right", boolean (awaits_side node.wait Right))
    ∷ (codes "at_down", boolean (awaits_side node.wait Down))
    ∷ (codes "at_left", boolean (awaits_side node.wait Left))
    ∷ (codes "at_up", boolean (awaits_side node.wait Up))
    ∷ (codes "stop", json_number_unless_zero node.stop)
    ∷ []

abbrev pub node_register_fields : NodeRecord → List NamedValue
node_register_fields node =
    (codes "p", number (pos node.p))
    ∷ (codes "a", number (pos node.a))
    ∷ (codes "b", number (pos node.b))
    ∷ (codes "i", number (pos node.i))
    ∷ (codes "slot", number (pos node.slot))
    ∷ (codes "carry", number (pos (from_bool node.carry)))
    ∷ (codes "io", number (pos node.io))
    ∷ []

abbrev pub node_fields : NodeId → NodeRecord → List NamedValue
node_fields node at =
    ((codes "command", string (codes "node")) ∷ (codes "node", string (name_of_node node)) ∷ []) ++ node_status_fields at ++ node_register_fields at

-- the words of the stacks in order: ten of data, and nine of returns, the top of each first
abbrev pub stack_part_at_index : ℕ → NodePart
stack_part_at_index k = if nat_lt k 10 then part.Data k else part.Return (k - 10)

abbrev pub stack_word_json : NodeRecord → ℕ → JsonValue
stack_word_json node k = json_object (part_word_fields (stack_part_at_index k) (node_part_value 0 node (stack_part_at_index k)))

-- a number of them, from this one on
unfoldable pub stack_rows : NodeRecord → ℕ → ℕ → JsonItems
stack_rows node k zero = no_items
stack_rows node k (suc more) = item (stack_word_json node k) (stack_rows node (k + 1) more)

abbrev pub node_record_json : NodeId → NodeRecord → JsonValue
node_record_json node at = json_report (node_fields node at) (stack_rows at 0 19)

abbrev pub node_json : MachineState → NodeId → JsonValue
node_json s node = node_record_json node (node_record_at (chip_of_machine s) node.number)
