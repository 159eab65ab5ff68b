-- The response to `disassemble` (Debug Adapter Protocol, "DisassembleRequest", "DisassembledInstruction"): each cell of memory is an instruction of up to four
-- opcodes (F18A Technology Reference DB001, instruction word).
use Rattle.std.specs.Prelude.{ℕ, zero, suc, ◌+◌, ◌%◌, ◌==◌, nat_lt, Bool, true, false, if◌then◌else◌, [], ◌∷◌, ◌++◌, codes, decimal, Option, Some, None, option_and_then}
use Rattle.std.specs.List.{range_with_len}
use Rattle.std.specs.Str.Lossy.{utf8_lossy}
use Rattle.serde_json.specs.Data.{Data, string, object, Members, no_members, member, put}
use Rattle.ga_word.specs.Word.{hex_digits_of_word, hex_digit_at_place}
use Rattle.ga_slots.specs.declared.op.Op.{Op}
use Rattle.ga_slots.specs.declared.op.Op.TheVariants.{Return, Execute, Jump, Call, Next, If, MinusIf}
use Rattle.ga_slots.specs.Codes.{name_of_opcode}
use Rattle.ga_slots.specs.Slots.{opcode, target}
use Rattle.ga_ports.specs.Address.{advanced_address}
use Rattle.ga_text.specs.Lines.{Text}
use Rattle.ga_grid.specs.declared.node_id.NodeId.{NodeId}
use Rattle.ga_grid.specs.Chip.{node_record_at}
use Rattle.ga_lab.specs.Machine.{MachineState, chip_of_machine, memory_word_at_address}
use Rattle.ga_debug_info.specs.declared.notes.LabelAddress.{LabelAddress}
use Rattle.ga_debug_info.specs.declared.notes.CellSource.{CellSource}
use Rattle.ga_debug_info.specs.declared.notes.DebugInfo.{DebugInfo}
use Rattle.ga_debug_info.specs.Source.{cell_of_address}
use Rattle.ga_dap_views.specs.declared.frames.SourceFile.{SourceFile}
use Rattle.ga_dap_views.specs.Frames.{source_object}
use Rattle.ga_dap_views.specs.Json.{json_whole_number, json_array_of_mapped_items, json_object_of_member}
use Rattle.ga_dap_views.specs.Labels.{label_of_cell, debug_info_of_cell}
use Rattle.ga_dap_views.specs.Numbers.{chip_address}
use Rattle.ga_dap_views.specs.Variables.{memory_reference}

-- ---- opcodes

-- an address in three hexadecimal digits
abbrev pub three_hex_digits : ℕ → Text
three_hex_digits n = hex_digit_at_place n 2 ∷ hex_digit_at_place n 1 ∷ hex_digit_at_place n 0 ∷ []

-- where a jump leads: the label there, or the address without bit 9
abbrev pub label_or_address_text : ℕ → Option LabelAddress → Text
label_or_address_text address None = three_hex_digits (address % 512)
label_or_address_text address (Some name) = utf8_lossy name.text.items

abbrev pub jump_target_text : DebugInfo → NodeId → ℕ → Text
jump_target_text notes node address = label_or_address_text address (option_and_then (label_of_cell notes.names.items node) (cell_of_address address))

-- what follows an opcode: an address, nothing that is carried out, or the next slot
abbrev pub has_address_operand : Op → Bool
has_address_operand Jump = true
has_address_operand Call = true
has_address_operand Next = true
has_address_operand If = true
has_address_operand MinusIf = true
has_address_operand _ = false

abbrev pub ends_instruction_word : Op → Bool
ends_instruction_word Return = true
ends_instruction_word Execute = true
ends_instruction_word op = has_address_operand op

-- the address of a slot, where its opcode has one and it has room for it: slot 3 has none
abbrev pub slot_target_text : DebugInfo → NodeId → ℕ → ℕ → ℕ → Text
slot_target_text notes node p word slot =
    if slot == 3 then [] else if has_address_operand (opcode word slot) then codes " " ++ jump_target_text notes node (target p word slot) else []

-- an opcode after a blank, except for the first
abbrev pub opcode_with_leading_blank : ℕ → Text → Text
opcode_with_leading_blank slot text = if slot == 0 then text else codes " " ++ text

-- the opcodes of `left` slots from one on, up to one after which nothing is carried out; P is that after the cell
unfoldable pub slots_text : DebugInfo → NodeId → ℕ → ℕ → ℕ → ℕ → Text
slots_text notes node p word slot zero = []
slots_text notes node p word slot (suc left) =
    opcode_with_leading_blank slot (name_of_opcode (opcode word slot)) ++ slot_target_text notes node p word slot
    ++ (if ends_instruction_word (opcode word slot) then [] else slots_text notes node p word (slot + 1) left)

-- ---- an instruction

-- a cell that the source gives and that is no instruction word: a literal, or data
abbrev pub is_data_in_source : Option CellSource → Bool
is_data_in_source None = false
is_data_in_source (Some note) = if note.is_code then false else true

abbrev pub instruction_text : DebugInfo → NodeId → ℕ → ℕ → Text
instruction_text notes node cell word =
    if is_data_in_source (debug_info_of_cell notes node cell) then codes "word " ++ decimal word else slots_text notes node (advanced_address cell) word 0 4

-- the line and the label of a cell, where the source has them
abbrev pub members_with_source_line : SourceFile → Option CellSource → Members → Members
members_with_source_line file None members = members
members_with_source_line file (Some note) members = put (codes "location") (source_object file) (put (codes "line") (json_whole_number note.line) members)

abbrev pub members_with_label : Option LabelAddress → Members → Members
members_with_label None members = members
members_with_label (Some name) members = put (codes "symbol") (string (utf8_lossy name.text.items)) members

abbrev pub instruction_members : Text → Text → Text → Members
instruction_members address words bytes =
    put (codes "instructionBytes") (string bytes) (put (codes "instruction") (string words) (put (codes "address") (string address) no_members))

-- the cell at an address of the node, as an instruction
abbrev pub instruction_object : SourceFile → DebugInfo → MachineState → NodeId → ℕ → ℕ → Data
instruction_object file notes s node address cell =
    let word = memory_word_at_address (node_record_at (chip_of_machine s) node.number) cell in
    object (members_with_label (label_of_cell notes.names.items node cell) (members_with_source_line file (debug_info_of_cell notes node cell)
    (instruction_members (memory_reference (chip_address node.number address)) (instruction_text notes node cell word) (hex_digits_of_word word))))

-- the instruction of an address at which a node has no cell
unfoldable pub invalid_instruction_object : Text → Data
invalid_instruction_object address =
    object (member (codes "address") (string address) (member (codes "instruction") (string (codes "no memory"))
    (member (codes "presentationHint") (string (codes "invalid")) no_members)))

-- The first 256 addresses of a node name its cells: RAM and ROM, twice each.
abbrev pub cell_of_node_address : ℕ → Option ℕ
cell_of_node_address address = if nat_lt address 256 then cell_of_address address else None

abbrev pub instruction_object_or_invalid : SourceFile → DebugInfo → MachineState → NodeId → ℕ → Option ℕ → Data
instruction_object_or_invalid file notes s node address None = invalid_instruction_object (memory_reference (chip_address node.number address))
instruction_object_or_invalid file notes s node address (Some cell) = instruction_object file notes s node address cell

abbrev pub instruction_object_at : SourceFile → DebugInfo → MachineState → NodeId → ℕ → Data
instruction_object_at file notes s node address = instruction_object_or_invalid file notes s node address (cell_of_node_address address)

-- The body of the response: `count` instructions from an address of the node on; after the last of its 4096 addresses comes the
-- first.
abbrev pub disassemble_response_body : SourceFile → DebugInfo → MachineState → NodeId → ℕ → ℕ → Data
disassemble_response_body file notes s node first count =
    json_object_of_member (codes "instructions") (json_array_of_mapped_items (λ k. instruction_object_at file notes s node (k % 4096)) (range_with_len first count))
