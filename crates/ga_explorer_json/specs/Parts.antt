-- Parts of a node, as fields of a row (docs/REFERENCE.md, "Causes"; this project's own).
use Rattle.std.specs.Prelude.{List, [], ◌∷◌, ℕ, ◌+◌, ◌%◌, ◌==◌, nat_lt, if◌then◌else◌, pos, codes, Option, Some, None}
use Rattle.ga_text.specs.Lines.{Text}
use Rattle.ga_event.specs.declared.flow.part.NodePart.{NodePart}
use Rattle.ga_event.specs.declared.flow.part.NodePart.TheVariants as part
use Rattle.ga_json.specs.Values.{JsonValue, null, number, string}
use Rattle.ga_json.specs.Fields.{NamedValue}

-- a number, if there is one
abbrev pub json_number_or_null : Option ℕ → JsonValue
json_number_or_null None = null
json_number_or_null (Some n) = number (pos n)

-- a number, unless it is 0: the step that made a value, which a loaded one has not, or a stop
abbrev pub json_number_unless_zero : ℕ → JsonValue
json_number_unless_zero step = if step == 0 then null else number (pos step)

-- a register, a stack or a memory; T, S and R have names of their own
abbrev pub node_part_keyword : NodePart → Text
node_part_keyword (part.Data k) = if k == 0 then codes "t" else if k == 1 then codes "s" else codes "d"
node_part_keyword (part.Return k) = codes "r"
node_part_keyword (part.Ram k) = codes "ram"
node_part_keyword (part.Rom k) = codes "rom"
node_part_keyword part.A = codes "a"
node_part_keyword part.B = codes "b"
node_part_keyword part.P = codes "p"
node_part_keyword part.I = codes "i"
node_part_keyword part.Io = codes "io"
node_part_keyword part.Carry = codes "carry"
node_part_keyword part.Slot = codes "slot"
node_part_keyword part.Wait = codes "wait"
node_part_keyword part.Stop = codes "stop"
node_part_keyword part.OutsideWord = codes "outside"

-- the place below the top of a stack, from 2 on below T and from 1 on below R, or the address of a cell
abbrev pub stack_place_or_cell_address : NodePart → Option ℕ
stack_place_or_cell_address (part.Data k) = if nat_lt k 2 then None else Some k
stack_place_or_cell_address (part.Return k) = if nat_lt k 1 then None else Some k
stack_place_or_cell_address (part.Ram k) = Some k
stack_place_or_cell_address (part.Rom k) = Some (128 + k % 64)
stack_place_or_cell_address _ = None

-- a part with its word
abbrev pub part_word_fields : NodePart → ℕ → List NamedValue
part_word_fields part word = (codes "part", string (node_part_keyword part)) ∷ (codes "index", json_number_or_null (stack_place_or_cell_address part)) ∷ (codes "value", number (pos word)) ∷ []
