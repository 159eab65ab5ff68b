-- What private contracts, invariants and bridges cite.
use Rattle.std.specs.Prelude.{ℕ, ◌+◌, ◌*◌, ◌==◌, ◌||◌, Bool, nat_eq, if◌then◌else◌, codes, slice_index, Option, Some, None, option_map}
use Rattle.std.specs.Cmp.Lexicographic.{pointwise}
use Rattle.ga_text.specs.Lines.{Text, Line}
use Rattle.ga_grid.specs.declared.node_id.NodeId.{NodeId}
use Rattle.ga_ports.specs.Steps.{◌>>=◌}
use Rattle.ga_console.specs.declared.command.DebuggerCommand.{DebuggerCommand}
use Rattle.ga_console.specs.declared.command.DebuggerCommand.TheVariants.{Step, Back, Rewind, Node, Memory, Trace, Why, Count, Dump, Quit}
use Rattle.ga_text.specs.Digits.{hex_byte_value}
use Rattle.ga_text.specs.Parsing.{split_at_space, parse_node, parse_number}

-- a node and a step of it
unfoldable pub parse_step_arguments : Text → Option (NodeId × ℕ)
parse_step_arguments text = do
  parts ← split_at_space text
  node ← parse_node parts.0
  step ← parse_number parts.1
  Some (node, step)

unfoldable pub parse_rewind_arguments : Text → Option DebuggerCommand
parse_rewind_arguments text = option_map (λ step. Rewind step.0 step.1) (parse_step_arguments text)

unfoldable pub parse_memory_arguments : Text → Option DebuggerCommand
parse_memory_arguments text = do
  parts ← split_at_space text
  node ← parse_node parts.0
  address ← hex_byte_value parts.1
  Some (Memory node address)

unfoldable pub parse_why_arguments : Text → Option DebuggerCommand
parse_why_arguments text = do
  first ← split_at_space text
  second ← split_at_space first.1
  from ← parse_node first.0
  from_step ← parse_number second.0
  to ← parse_step_arguments second.1
  Some (Why from from_step to.0 to.1)

-- a command without arguments
unfoldable pub command_without_arguments : Line → Option DebuggerCommand
command_without_arguments name =
    if pointwise nat_eq name (codes "back") then Some Back
    else if pointwise nat_eq name (codes "count") then Some Count
    else if pointwise nat_eq name (codes "dump") then Some Dump
    else if pointwise nat_eq name (codes "quit") then Some Quit
    else None

-- a command with arguments
unfoldable pub debugger_command_with_arguments : Text → Text → Option DebuggerCommand
debugger_command_with_arguments name text =
    if pointwise nat_eq name (codes "step") then option_map Step (parse_node text)
    else if pointwise nat_eq name (codes "rewind") then parse_rewind_arguments text
    else if pointwise nat_eq name (codes "node") then option_map Node (parse_node text)
    else if pointwise nat_eq name (codes "mem") then parse_memory_arguments text
    else if pointwise nat_eq name (codes "trace") then option_map Trace (parse_node text)
    else if pointwise nat_eq name (codes "why") then parse_why_arguments text
    else None

abbrev pub debugger_command_of_split_line : Option (Text × Text) → Text → Option DebuggerCommand
debugger_command_of_split_line None line = command_without_arguments line
debugger_command_of_split_line (Some parts) line = debugger_command_with_arguments parts.0 parts.1

-- the command that a line spells
abbrev pub command_spelled_by_line : Line → Option DebuggerCommand
command_spelled_by_line line = debugger_command_of_split_line (split_at_space line) line

-- the first four bytes of a line in one number
abbrev pub first_four_bytes_number : Line → ℕ
first_four_bytes_number line = slice_index line 0 + 256 * slice_index line 1 + 65536 * slice_index line 2 + 16777216 * slice_index line 3

-- the number is that of the first four bytes of a command: step, back, rewi, node, mem, trac, why, coun, dump, quit
abbrev pub is_command_first_four_bytes : ℕ → Bool
is_command_first_four_bytes word =
    word == 0x70657473
    || word == 0x6b636162
    || word == 0x69776572
    || word == 0x65646f6e
    || word == 0x206d656d
    || word == 0x63617274
    || word == 0x20796877
    || word == 0x6e756f63
    || word == 0x706d7564
    || word == 0x74697571
