-- What `mem` and `count` answer, as JSON values (docs/REFERENCE.md, "Sessions"; this project's own).
use Rattle.std.specs.Prelude.{ℕ, pos, [], ◌∷◌, length, codes}
use Rattle.ga_grid.specs.declared.node_id.NodeId.{NodeId}
use Rattle.ga_grid.specs.Chip.{node_record_at}
use Rattle.ga_lab.specs.Machine.{MachineState, chip_of_machine, memory_word_at_address}
use Rattle.ga_text.specs.Digits.{name_of_node}
use Rattle.ga_json.specs.Values.{JsonValue, number, string}
use Rattle.ga_json.specs.Fields.{json_object}

-- an address of a node's memory, and the word there
abbrev pub address_word_json : NodeId → ℕ → ℕ → JsonValue
address_word_json node address word =
    json_object
    ((codes "command", string (codes "mem"))
    ∷ (codes "node", string (name_of_node node))
    ∷ (codes "address", number (pos address))
    ∷ (codes "word", number (pos word))
    ∷ [])

abbrev pub memory_word_json : MachineState → NodeId → ℕ → JsonValue
memory_word_json s node address = address_word_json node address (memory_word_at_address (node_record_at (chip_of_machine s) node.number) address)

-- how many events are kept, how many were made, and how many may be kept
abbrev pub event_counts_json : ℕ → ℕ → ℕ → JsonValue
event_counts_json kept made limit =
    json_object
    ((codes "command", string (codes "count"))
    ∷ (codes "kept", number (pos kept))
    ∷ (codes "made", number (pos made))
    ∷ (codes "limit", number (pos limit))
    ∷ [])

abbrev pub history_counts_json : MachineState → JsonValue
history_counts_json s = event_counts_json (length s.kept) s.made s.limit
