-- What a scope of a node has (Debug Adapter Protocol, "Scope", "Variable"), by names.
use Rattle.std.specs.Prelude.{ℕ, ◌+◌, ◌==◌, ◌<◌, if◌then◌else◌, List, [], ◌∷◌, ◌++◌, codes, decimal, slice_index_or}
use Rattle.ga_text.specs.Lines.{Text}
use Rattle.ga_text.specs.Digits.{two_hex_digits_text}
use Rattle.ga_ports.specs.declared.side.Side.TheVariants.{Right, Down, Left, Up}
use Rattle.ga_dap_views.specs.Activity.{side_name}
use Rattle.ga_dap_views.specs.declared.variable.Variable.{Variable}
use Rattle.ga_dap_views.specs.declared.variable.Variable.TheVariants.{NodeStatus, Step, P, A, B, I, Slot, Carry, Io, DataWord, ReturnWord, Cell, Neighbour, Stuck}
use Rattle.ga_dap_views.specs.declared.scope.Scope.{Scope}
use Rattle.ga_dap_views.specs.declared.scope.Scope.TheVariants as scope

-- the variables of the registers
abbrev pub register_variables : List Variable
register_variables = NodeStatus ∷ Step ∷ P ∷ DataWord 0 ∷ DataWord 1 ∷ ReturnWord 0 ∷ A ∷ B ∷ I ∷ Slot ∷ Carry ∷ Io ∷ []

-- the variables of the links
abbrev pub link_variables : List Variable
link_variables = Neighbour Right ∷ Neighbour Down ∷ Neighbour Left ∷ Neighbour Up ∷ Stuck ∷ []

-- how many variables a scope has, and which
abbrev pub variable_count : Scope → ℕ
variable_count scope.Registers = 12
variable_count scope.DataStackScope = 10
variable_count scope.ReturnStackScope = 9
variable_count scope.Links = 5
variable_count scope.Ram = 64
variable_count scope.Rom = 64

abbrev pub scope_variable_at_index : Scope → ℕ → Variable
scope_variable_at_index scope.Registers k = slice_index_or register_variables k NodeStatus
scope_variable_at_index scope.DataStackScope k = DataWord k
scope_variable_at_index scope.ReturnStackScope k = ReturnWord k
scope_variable_at_index scope.Links k = slice_index_or link_variables k Stuck
scope_variable_at_index scope.Ram k = Cell k
scope_variable_at_index scope.Rom k = Cell (128 + k)

-- a variable that a node has: ten words of data, nine of returns, and cells at addresses of one byte
abbrev pub IsNodeVariable : Variable → Type 0
IsNodeVariable (DataWord k) = k < 10
IsNodeVariable (ReturnWord k) = k < 9
IsNodeVariable (Cell address) = address < 256
IsNodeVariable other = Unit {0}

-- the name of a variable; a cell has the name by which a client requests it
abbrev pub variable_name : Variable → Text
variable_name NodeStatus = codes "state"
variable_name Step = codes "step"
variable_name P = codes "p"
variable_name A = codes "a"
variable_name B = codes "b"
variable_name I = codes "i"
variable_name Slot = codes "slot"
variable_name Carry = codes "carry"
variable_name Io = codes "io"
variable_name (DataWord k) = if k == 0 then codes "t" else if k == 1 then codes "s" else codes "d" ++ decimal k
variable_name (ReturnWord k) = if k == 0 then codes "r" else codes "r" ++ decimal k
variable_name (Cell address) = codes "[" ++ two_hex_digits_text address ++ codes "]"
variable_name (Neighbour side) = side_name side
variable_name Stuck = codes "stuck"
