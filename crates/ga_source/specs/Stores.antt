-- Stores of a constant address over the code of their own node (docs/REFERENCE.md, "Source"; this project's own).
use Rattle.std.specs.Prelude.{ℕ, ◌+◌, ◌%◌, ◌==◌, nat_lt, Bool, false, ◌&&◌, not, if◌then◌else◌, List, [], ◌∷◌, replicate, slice_index, slice_get, slice_set, Option, Some, None, option_map}
use Rattle.std.specs.Option.{option_map_or}
use Rattle.ga_slots.specs.declared.op.Op.{Op}
use Rattle.ga_slots.specs.declared.op.Op.TheVariants.{StoreB, Store as StoreA, StorePlus, FetchPlus, AStore, BStore, MultiplyStep, Return, Execute, Jump, Call, Unext as UnextOp}
use Rattle.ga_ports.specs.Address.{advanced_address}
use Rattle.ga_parser.specs.declared.item.AssemblyItem.{AssemblyItem}
use Rattle.ga_parser.specs.declared.item.AssemblyItem.TheVariants.{Opcode, Literal, JumpToEarlierLabel, JumpToLaterLabel}
use Rattle.ga_parser.specs.declared.item.AssemblyRequest.{AssemblyRequest}
use Rattle.ga_parser.specs.declared.item.AssemblyRequest.TheVariants.{PlaceItem, Unext, MarkLabel}
use Rattle.ga_parser.specs.declared.item.LocatedRequest.{LocatedRequest}
use Rattle.ga_parser.specs.declared.labels.Label.{Label}
use Rattle.ga_parser.specs.Saying.{has_bytes}
use Rattle.ga_source.specs.Reading.{operand_value, p_after_item, is_data_cell}
use Rattle.ga_source.specs.declared.group.CellGroup.{CellGroup}
use Rattle.ga_source.specs.declared.program.Program.{Program}
use Rattle.ga_source.specs.declared.stores.StoreOverCode.{StoreOverCode}
use Rattle.ga_source.specs.declared.stores.Known.{Known}

-- ---- which cells hold code

-- the place of a cell among those of RAM, and then ROM, by its address
abbrev pub cell_index : ℕ → ℕ
cell_index address = if nat_lt (address % 256) 128 then address % 256 % 64 else 128 + address % 256 % 64

-- a cell holds code of this line
abbrev pub code_lines_with_line : List ℕ → ℕ → ℕ → List ℕ
code_lines_with_line code address line = slice_set code (cell_index address) line

-- so does the cell of a literal, which is at P
abbrev pub code_lines_with_literal : List ℕ → ℕ → ℕ → AssemblyItem → List ℕ
code_lines_with_literal code p line (Literal _) = code_lines_with_line code p line
code_lines_with_literal code p line _ = code

-- the cells of the literals among items from the i-th on, whose lines these are
unfoldable pub code_lines_with_literals : List ℕ → List ℕ → ℕ → ℕ → List AssemblyItem → List ℕ
code_lines_with_literals code lines p i [] = code
code_lines_with_literals code lines p i (item ∷ items) = code_lines_with_literals (code_lines_with_literal code p (slice_index lines i) item) lines (p_after_item p item) (i + 1) items

-- an instruction word, followed by its literals
abbrev pub code_lines_with_word : List ℕ → CellGroup → List ℕ
code_lines_with_word code group =
    code_lines_with_literals (code_lines_with_line code group.address (slice_index group.lines.items 0)) group.lines.items (advanced_address group.address) 0 group.items.items

-- of each cell the line of its code, 0 where none is: all groups but cells of data
unfoldable pub code_lines_with_groups : List ℕ → List CellGroup → List ℕ
code_lines_with_groups code [] = code
code_lines_with_groups code (group ∷ groups) = code_lines_with_groups (if is_data_cell group.items.items then code else code_lines_with_word code group) groups

abbrev pub code_line_of_each_cell : Program → List ℕ
code_line_of_each_cell program = code_lines_with_groups (replicate 192 0) program.groups.items

-- ---- what is known of A and B along the source

abbrev pub unknown_registers : Known
unknown_registers = record { a = None; b = None; literal = None }

-- the address at which an opcode stores, where it is known
abbrev pub store_address : Known → Op → Option ℕ
store_address known StoreB = known.b
store_address known StoreA = known.a
store_address known StorePlus = known.a
store_address known _ = None

-- `a!` and `b!` take the literal just before them, `!+` and `@+` increment A, `+*` changes it, and after a way out nothing is
-- known
abbrev pub known_registers_after_opcode : Known → Op → Known
known_registers_after_opcode known AStore = record { a = known.literal; b = known.b; literal = None }
known_registers_after_opcode known BStore = record { a = known.a; b = known.literal; literal = None }
known_registers_after_opcode known StorePlus = record { a = option_map advanced_address known.a; b = known.b; literal = None }
known_registers_after_opcode known FetchPlus = record { a = option_map advanced_address known.a; b = known.b; literal = None }
known_registers_after_opcode known MultiplyStep = record { a = None; b = known.b; literal = None }
known_registers_after_opcode known Return = unknown_registers
known_registers_after_opcode known Execute = unknown_registers
known_registers_after_opcode known Jump = unknown_registers
known_registers_after_opcode known Call = unknown_registers
known_registers_after_opcode known _ = record { a = known.a; b = known.b; literal = None }

-- after the end of a loop, which may move A more than once
abbrev pub known_registers_after_loop : Known → Op → Known
known_registers_after_loop known op = record { a = None; b = (known_registers_after_opcode known op).b; literal = None }

-- a control word made the label, so that it isn't reached from elsewhere
abbrev pub is_unnamed_label : List Label → ℕ → Bool
is_unnamed_label names label = option_map_or (λ (found : Label). not (has_bytes found.name.now)) (slice_get names label) false

abbrev pub known_values_after_request : Program → Known → AssemblyRequest → Known
known_values_after_request program known (PlaceItem (Literal value)) = record { a = known.a; b = known.b; literal = operand_value program.labels.items value }
known_values_after_request program known (PlaceItem (Opcode op)) = known_registers_after_opcode known op
known_values_after_request program known (PlaceItem (JumpToLaterLabel op _)) = known_registers_after_opcode known op
known_values_after_request program known (PlaceItem (JumpToEarlierLabel op _)) = known_registers_after_loop known op
known_values_after_request program known (Unext _) = known_registers_after_loop known UnextOp
known_values_after_request program known (MarkLabel label) = if is_unnamed_label program.names.items label then known else unknown_registers
known_values_after_request program known _ = known

-- ---- stores

-- a store at this address, where its cell is one of RAM that holds code
abbrev pub store_over_code_at_address : List ℕ → ℕ → ℕ → Option StoreOverCode
store_over_code_at_address code line address =
    if not (slice_index code (cell_index address) == 0) && nat_lt (address % 512) 128
    then Some (record { line = line; address = address % 64; code_line = slice_index code (cell_index address) })
    else None

abbrev pub store_over_code_of_request : List ℕ → Known → ℕ → AssemblyRequest → Option StoreOverCode
store_over_code_of_request code known line (PlaceItem (Opcode op)) = option_map_or (store_over_code_at_address code line) (store_address known op) None
store_over_code_of_request code known line _ = None

abbrev pub stores_with_optional_store : Option StoreOverCode → List StoreOverCode → List StoreOverCode
stores_with_optional_store None stores = stores
stores_with_optional_store (Some store) stores = store ∷ stores

-- those of the requests, in their order, where this is known before the first
unfoldable pub code_stores_of_requests : Program → List ℕ → Known → List LocatedRequest → List StoreOverCode
code_stores_of_requests program code known [] = []
code_stores_of_requests program code known (asked ∷ rest) =
    stores_with_optional_store (store_over_code_of_request code known asked.line asked.request) (code_stores_of_requests program code (known_values_after_request program known asked.request) rest)

-- all of a program
abbrev pub stores_over_code_of_program : Program → List StoreOverCode
stores_over_code_of_program program = code_stores_of_requests program (code_line_of_each_cell program) unknown_registers program.asked.items
