-- `disassemble`, and references to memory (Debug Adapter Protocol, "DisassembleRequest", "DisassembleArguments"). The machine stays.
use Rattle.std.specs.Prelude.{◌≡◌, string_bytes, Option, Some, None, ◌<◌, ℕ, ◌+◌, ◌%◌, ℤ, pos, unsigned_abs, nat_lt, if◌then◌else◌, ◌++◌, codes, option_and_then, unwrap_or}
use Rattle.ga_debug_info.specs.declared.notes.DebugInfo.{DebugInfo}
use Rattle.ga_dap_views.specs.declared.frames.SourceFile.{SourceFile}
use Rattle.ga_dap_queries.specs.declared.debuggee.Debuggee.{Debuggee}
use Rattle.std.specs.Int.{int_rem_euclid}
use Rattle.std.specs.Str.Parse.{IsNumeral, digits_value, without_leading_plus}
use Rattle.serde_json.specs.Data.{Data}
use Rattle.serde_json.specs.Find.{get, as_number, as_i64}
use Rattle.serde_json.specs.View.{view}
use Rattle.ga_text.specs.Lines.{Text}
use Rattle.ga_grid.specs.declared.node_id.NodeId.{NodeId}
use Rattle.ga_dap_views.specs.Numbers.{chip_address}
use Rattle.ga_dap_views.specs.Disassembly.{disassemble_response_body}
use Rattle.ga_dap_protocol.specs.Messages.{member_as_text, member_as_number}
use Rattle.ga_dap_protocol.specs.declared.request.ClientRequest.{ClientRequest}
use Rattle.ga_dap_queries.specs.Sending.{Message, success_response, refused_response}

-- ---- A program that was launched

-- what the source of a program says of the cells
abbrev pub debug_info_or_empty : Option DebugInfo → DebugInfo → DebugInfo
debug_info_or_empty None empty_debug_info = empty_debug_info
debug_info_or_empty (Some notes) empty_debug_info = notes

abbrev pub program_debug_info : Debuggee → DebugInfo
program_debug_info p = debug_info_or_empty p.source p.empty_debug_info

-- the file of a program
abbrev pub IsProgramSourceFile : Debuggee → SourceFile → Type 0
IsProgramSourceFile p file = (file.name.now ≡ string_bytes p.name) × (file.path.now ≡ string_bytes p.path)

-- a text that is a number in hexadecimal digits, after 0x
abbrev pub SpellsHexadecimal : Text → ℕ → Type 0
SpellsHexadecimal digits number = IsNumeral 16 (without_leading_plus digits) × (digits_value 16 (without_leading_plus digits) ≡ number)

abbrev pub SpellsMemoryReference : Text → ℕ → Type 0
SpellsMemoryReference text address = (digits : Text) × (text ≡ codes "0x" ++ digits) × SpellsHexadecimal digits address

-- the node and the cell of a reference to memory, or that there are none
abbrev pub IsMemoryReference : Text → Option (NodeId × ℕ) → Type 0
IsMemoryReference text (Some at) = SpellsMemoryReference text (chip_address at.0.number at.1)
IsMemoryReference text None = (n cell : ℕ) → n < 144 → cell < 256 → SpellsMemoryReference text (chip_address n cell) → ⊥

-- the number of a member, which may be less than 0; 0 where it has none
abbrev pub signed_member_or_zero : Text → Data → ℤ
signed_member_or_zero name d = unwrap_or (option_and_then as_i64 (option_and_then as_number (get name d))) (pos 0)

-- how many addresses further an offset leads, among the 4096 of a node, of which the first follows the last
abbrev pub wrapped_address_offset : ℤ → ℕ
wrapped_address_offset offset = unsigned_abs (int_rem_euclid offset (pos 4096))

abbrev pub first_instruction_address : Data → ℕ → ℕ
first_instruction_address d cell = (cell + (wrapped_address_offset (signed_member_or_zero (codes "offset") d) + wrapped_address_offset (signed_member_or_zero (codes "instructionOffset") d))) % 4096

-- exactly as many instructions are sent as are requested; more than 4096 are refused
abbrev pub instruction_count_if_in_limit : ℕ → Option ℕ
instruction_count_if_in_limit count = if nat_lt 4096 count then None else Some count

abbrev pub DisassemblesWithinLimit : Debuggee → ClientRequest → NodeId × ℕ → Option ℕ → Message → Type 0
DisassemblesWithinLimit p request at None message = message ≡ refused_response request (codes "disassemble: 4096 instructions at most")
DisassemblesWithinLimit p request at (Some count) message = (file : SourceFile) × IsProgramSourceFile p file
    × (message ≡ success_response request (disassemble_response_body file (program_debug_info p) p.lab at.0 (first_instruction_address (view request.arguments) at.1) count))

abbrev pub DisassemblesRequestedCount : Debuggee → ClientRequest → NodeId × ℕ → Option ℕ → Message → Type 0
DisassemblesRequestedCount p request at None message = message ≡ refused_response request (codes "disassemble: there is no instructionCount")
DisassemblesRequestedCount p request at (Some count) message = DisassemblesWithinLimit p request at (instruction_count_if_in_limit count) message

abbrev pub DisassemblesMemory : Debuggee → ClientRequest → Option (NodeId × ℕ) → Message → Type 0
DisassemblesMemory p request None message = message ≡ refused_response request (codes "disassemble: no such memory")
DisassemblesMemory p request (Some at) message = DisassemblesRequestedCount p request at (member_as_number (codes "instructionCount") (view request.arguments)) message

abbrev pub DisassemblesReference : Debuggee → ClientRequest → Option Text → Message → Type 0
DisassemblesReference p request None message = message ≡ refused_response request (codes "disassemble: there is no memoryReference")
DisassemblesReference p request (Some text) message = (at : Option (NodeId × ℕ)) × IsMemoryReference text at × DisassemblesMemory p request at message

abbrev pub AnswersDisassemble : Debuggee → ClientRequest → Message → Type 0
AnswersDisassemble p request message = DisassemblesReference p request (member_as_text (codes "memoryReference") (view request.arguments)) message
