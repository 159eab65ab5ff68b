-- The responses to `scopes` and `variables` (Debug Adapter Protocol, "ScopesRequest", "VariablesRequest"): what a node holds.
use Rattle.std.specs.Prelude.{ℕ, ◌-◌, ◌==◌, min, Bool, true, false, if◌then◌else◌, List, [], ◌∷◌, ◌++◌, codes, decimal, Option, Some, None, slice_index}
use Rattle.std.specs.Int.{from_bool}
use Rattle.std.specs.List.{range_with_len}
use Rattle.serde_json.specs.Data.{Data, string, boolean, object, no_members, member}
use Rattle.ga_word.specs.Word.{hex_digits_of_word}
use Rattle.ga_text.specs.Lines.{Text}
use Rattle.ga_node.specs.Record.{NodeRecord}
use Rattle.ga_grid.specs.Grid.{neighbour_number}
use Rattle.ga_grid.specs.Chip.{node_record_at}
use Rattle.ga_event.specs.Told.{count_steps}
use Rattle.ga_lab.specs.Machine.{MachineState, chip_of_machine, memory_word_at_address}
use Rattle.ga_dap_views.specs.Activity.{thread_activity_text, node_name_and_activity_text, word_value_text}
use Rattle.ga_dap_views.specs.Json.{json_whole_number, json_array_of_mapped_items, json_object_of_member}
use Rattle.ga_dap_views.specs.Numbers.{chip_address, variables_reference}
use Rattle.ga_dap_views.specs.Shown.{variable_count, scope_variable_at_index, variable_name}
use Rattle.ga_dap_views.specs.declared.variable.Variable.{Variable}
use Rattle.ga_dap_views.specs.declared.variable.Variable.TheVariants as variable
use Rattle.ga_dap_views.specs.declared.scope.Scope.{Scope}
use Rattle.ga_dap_views.specs.declared.scope.Scope.TheVariants as scope

-- ---- `scopes`

abbrev pub scope_name : Scope → Text
scope_name scope.Registers = codes "Registers"
scope_name scope.DataStackScope = codes "Data stack"
scope_name scope.ReturnStackScope = codes "Return stack"
scope_name scope.Links = codes "Links"
scope_name scope.Ram = codes "RAM"
scope_name scope.Rom = codes "ROM"

-- a scope; of a memory, that it is long, and of how many cells a client may ask for a part
unfoldable pub scope_object : Bool → ℕ → Text → ℕ → Data
scope_object true cells name reference =
    object (member (codes "expensive") (boolean true) (member (codes "indexedVariables") (json_whole_number cells)
    (member (codes "name") (string name) (member (codes "variablesReference") (json_whole_number reference) no_members))))
scope_object false cells name reference =
    object (member (codes "expensive") (boolean false) (member (codes "name") (string name)
    (member (codes "variablesReference") (json_whole_number reference) no_members)))

abbrev pub is_memory_scope : Scope → Bool
is_memory_scope scope.Ram = true
is_memory_scope scope.Rom = true
is_memory_scope other = false

abbrev pub node_scope_object : ℕ → Scope → Data
node_scope_object n one = scope_object (is_memory_scope one) (variable_count one) (scope_name one) (variables_reference n one)

abbrev pub all_scopes : List Scope
all_scopes = scope.Registers ∷ scope.DataStackScope ∷ scope.ReturnStackScope ∷ scope.Links ∷ scope.Ram ∷ scope.Rom ∷ []

abbrev pub scopes_body : ℕ → Data
scopes_body n = json_object_of_member (codes "scopes") (json_array_of_mapped_items (node_scope_object n) all_scopes)

-- ---- `variables`

abbrev pub next_slot_number_text : ℕ → Text
next_slot_number_text slot = if slot == 4 then codes "4, a fetch is due" else decimal slot

-- the neighbour on a side and what it does, where there is one
abbrev pub neighbour_text : List NodeRecord → Option ℕ → Text
neighbour_text chip None = codes "none"
neighbour_text chip (Some m) = node_name_and_activity_text chip m

abbrev pub deadlock_text : Bool → Text
deadlock_text true = codes "can never go on"
deadlock_text false = codes "no"

-- The value of a variable of a node. `stuck` is whether the node is in the greatest deadlocked set (Stuck.antt of ga_races).
abbrev pub variable_value_text : MachineState → Bool → ℕ → Variable → Text
variable_value_text s stuck n variable.NodeStatus = thread_activity_text (chip_of_machine s) n
variable_value_text s stuck n variable.Step = decimal (count_steps n s.kept)
variable_value_text s stuck n variable.P = word_value_text (node_record_at (chip_of_machine s) n).p
variable_value_text s stuck n variable.A = word_value_text (node_record_at (chip_of_machine s) n).a
variable_value_text s stuck n variable.B = word_value_text (node_record_at (chip_of_machine s) n).b
variable_value_text s stuck n variable.I = word_value_text (node_record_at (chip_of_machine s) n).i
variable_value_text s stuck n variable.Slot = next_slot_number_text (node_record_at (chip_of_machine s) n).slot
variable_value_text s stuck n variable.Carry = decimal (from_bool (node_record_at (chip_of_machine s) n).carry)
variable_value_text s stuck n variable.Io = word_value_text (node_record_at (chip_of_machine s) n).io
variable_value_text s stuck n (variable.DataWord k) = word_value_text (slice_index (node_record_at (chip_of_machine s) n).d k)
variable_value_text s stuck n (variable.ReturnWord k) = word_value_text (slice_index (node_record_at (chip_of_machine s) n).r k)
variable_value_text s stuck n (variable.Cell address) = word_value_text (memory_word_at_address (node_record_at (chip_of_machine s) n) address)
variable_value_text s stuck n (variable.Neighbour side) = neighbour_text (chip_of_machine s) (neighbour_number n side)
variable_value_text s stuck n variable.Stuck = deadlock_text stuck

-- an address of the chip in hexadecimal digits, as clients hand it back
abbrev pub memory_reference : ℕ → Text
memory_reference address = codes "0x" ++ hex_digits_of_word address

-- a value that has no parts
unfoldable pub variable_object : Text → Text → Data
variable_object name value =
    object (member (codes "name") (string name) (member (codes "value") (string value) (member (codes "variablesReference") (json_whole_number 0) no_members)))

-- a value at an address of the chip
unfoldable pub cell_object : ℕ → Text → Text → Data
cell_object address name value =
    object (member (codes "memoryReference") (string (memory_reference address)) (member (codes "name") (string name)
    (member (codes "value") (string value) (member (codes "variablesReference") (json_whole_number 0) no_members))))

abbrev pub variable_or_cell_object : ℕ → Variable → Text → Text → Data
variable_or_cell_object n (variable.Cell address) name value = cell_object (chip_address n address) name value
variable_or_cell_object n other name value = variable_object name value

abbrev pub variable_value_object : MachineState → Bool → ℕ → Variable → Data
variable_value_object s stuck n one = variable_or_cell_object n one (variable_name one) (variable_value_text s stuck n one)

-- the requested places: `count` from one on, or all remaining if the number is 0
abbrev pub requested_index_range : ℕ → ℕ → ℕ → List ℕ
requested_index_range size start count = range_with_len start (if count == 0 then size - start else min count (size - start))

abbrev pub variables_body : MachineState → Bool → ℕ → Scope → ℕ → ℕ → Data
variables_body s stuck n of start count =
    json_object_of_member (codes "variables") (json_array_of_mapped_items (λ k. variable_value_object s stuck n (scope_variable_at_index of k)) (requested_index_range (variable_count of) start count))
