-- The numbers by which a client names what it is shown (Debug Adapter Protocol, "Thread.id", "StackFrame.id",
-- "Scope.variablesReference", "DisassembledInstruction.address"). Each number determines what it names, so none becomes stale:
-- there is no table of handles.
use Rattle.std.specs.Prelude.{ℕ, ◌+◌, ◌*◌, ◌/◌, ◌%◌}
use Rattle.ga_grid.specs.Grid.{decimal_name_of_node}
use Rattle.ga_dap_views.specs.declared.scope.Scope.{Scope}
use Rattle.ga_dap_views.specs.declared.scope.Scope.TheVariants.{Registers, DataStackScope, ReturnStackScope, Links, Ram, Rom}

-- the thread of a node: 1000 more than its name, since some clients take 0 for no thread
abbrev pub thread_id : ℕ → ℕ
thread_id node = 1000 + decimal_name_of_node node

-- a frame of a node: the frame of its position has level 0, and each caller's one more
abbrev pub frame_id : ℕ → ℕ → ℕ
frame_id node level = 1 + 16 * node + level

-- the number of a scope
abbrev pub scope_index : Scope → ℕ
scope_index Registers = 0
scope_index DataStackScope = 1
scope_index ReturnStackScope = 2
scope_index Links = 3
scope_index Ram = 4
scope_index Rom = 5

-- the variables of a node's scope; 0 is none in the protocol
abbrev pub variables_reference : ℕ → Scope → ℕ
variables_reference node scope = 1 + 8 * node + scope_index scope

-- An address of the chip is the node's name in three digits, and three hexadecimal digits in the node: 701005 hexadecimal is the cell 05 of
-- 701, and 80 to bf of a node is its ROM.
abbrev pub node_name_as_hexadecimal : ℕ → ℕ
node_name_as_hexadecimal decimal_name = decimal_name / 100 * 256 + decimal_name / 10 % 10 * 16 + decimal_name % 10

abbrev pub chip_address : ℕ → ℕ → ℕ
chip_address node cell = 4096 * node_name_as_hexadecimal (decimal_name_of_node node) + cell
