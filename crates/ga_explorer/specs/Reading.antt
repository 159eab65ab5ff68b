-- The arguments of exploring commands, and how they are parsed: words with one space between two of them (docs/REFERENCE.md,
-- "Exploring"; this project's own). Nodes and numbers have the form that they have in the debugger's commands.
use Rattle.std.specs.Prelude.{◌==◌, ℕ, nat_eq, if◌then◌else◌, codes, Option, Some, None, option_map, option_and_then, ◌%◌, nat_lt, nat_le}
use Rattle.std.specs.Cmp.Lexicographic.{pointwise}
use Rattle.ga_text.specs.Lines.{Line}
use Rattle.ga_grid.specs.declared.node_id.NodeId.{NodeId}
use Rattle.ga_text.specs.Parsing.{parse_number, split_at_space, parse_node}
use Rattle.ga_console.specs.declared.step_selector.StepSelector.{StepSelector}
use Rattle.ga_console.specs.Selectors.{parse_step_selector}
use Rattle.ga_scheduler.specs.declared.value_test.NodeValue.{NodeValue}
use Rattle.ga_scheduler.specs.declared.value_test.NodeValue.TheVariants as value
use Rattle.ga_conditions.specs.Tests.{parsed_node_value}
use Rattle.ga_event.specs.declared.flow.part.NodePart.{NodePart}
use Rattle.ga_event.specs.declared.flow.part.NodePart.TheVariants as part
use Rattle.ga_ports.specs.Steps.{◌>>=◌}
use Rattle.ga_text.specs.Digits.{hex_byte_value}
use Rattle.ga_scheduler.specs.Schedules.{round_robin_schedule, greedy_schedule, random_schedule}
use Rattle.ga_scheduler.specs.declared.schedule.Schedule.{Schedule}
use Rattle.ga_debug_info.specs.declared.notes.DebugInfo.{DebugInfo}
use Rattle.ga_conditions.specs.Conditions.{parsed_run_conditions, parsed_until_conditions, never_holding_conditions}
use Rattle.ga_explorer.specs.declared.changes.Change.{Change}
use Rattle.ga_explorer.specs.declared.changes.Change.TheVariants.{Run, BackUntil}

-- ---- which part of a node a command means: RAM is below address 80 hexadecimal, ROM from there on

abbrev pub part_of_node_value : NodeValue → Option NodePart
part_of_node_value value.StepCountValue = None
part_of_node_value value.P = Some part.P
part_of_node_value value.A = Some part.A
part_of_node_value value.B = Some part.B
part_of_node_value value.I = Some part.I
part_of_node_value value.Slot = Some part.Slot
part_of_node_value value.Carry = Some part.Carry
part_of_node_value value.Io = Some part.Io
part_of_node_value (value.DataWord place) = Some (part.Data (place % 10))
part_of_node_value (value.ReturnWord place) = Some (part.Return (place % 9))
part_of_node_value (value.Cell address) = Some (if nat_lt address 128 then part.Ram (address % 64) else part.Rom (address % 64))

-- a value that is a part of a node: all but the number of its steps are
abbrev pub value_if_node_part : NodeValue → Option NodeValue
value_if_node_part value.StepCountValue = None
value_if_node_part other = Some other

abbrev pub parse_part_value : Line → Option NodeValue
parse_part_value word = option_and_then value_if_node_part (parsed_node_value word)

-- how many events are made at most where no number is given
abbrev pub default_max_run_events : ℕ
default_max_run_events = 4294967295

-- ---- `run`

abbrev pub run_until_command : Option DebugInfo → Schedule → ℕ → Line → Option Change
run_until_command notes schedule most text = option_map (Run schedule most) (parsed_run_conditions notes text)

-- `until COND`, or a number and `until COND`
unfoldable pub run_command_with_bounds : Option DebugInfo → Schedule → Line → Line → Option Change
run_command_with_bounds notes schedule name text =
    if pointwise nat_eq name (codes "until") then run_until_command notes schedule default_max_run_events text
    else (do
      most ← parse_number name
      until ← parsed_until_conditions notes text
      Some (Run schedule most until))

abbrev pub parse_split_run_bounds : Option DebugInfo → Option (Line × Line) → Schedule → Line → Option Change
parse_split_run_bounds notes None schedule text = option_map (λ most. Run schedule most never_holding_conditions) (parse_number text)
parse_split_run_bounds notes (Some parts) schedule text = run_command_with_bounds notes schedule parts.0 parts.1

-- a number, `until COND`, or both
abbrev pub parse_run_bounds : Option DebugInfo → Schedule → Line → Option Change
parse_run_bounds notes schedule text = parse_split_run_bounds notes (split_at_space text) schedule text

abbrev pub parse_split_seeded_run : Option DebugInfo → Option (Line × Line) → Line → Option Change
parse_split_seeded_run notes None text = option_map (λ seed. Run (random_schedule seed) default_max_run_events never_holding_conditions) (parse_number text)
parse_split_seeded_run notes (Some parts) text = do
  seed ← parse_number parts.0
  parse_run_bounds notes (random_schedule seed) parts.1

-- a seed, and what bounds the run
abbrev pub parse_seeded_run : Option DebugInfo → Line → Option Change
parse_seeded_run notes text = parse_split_seeded_run notes (split_at_space text) text

-- an order of one word, or what bounds a run in rounds
unfoldable pub parse_single_order : Option DebugInfo → Line → Option Change
parse_single_order notes text = if pointwise nat_eq text (codes "greedy") then Some (Run greedy_schedule default_max_run_events never_holding_conditions) else parse_run_bounds notes round_robin_schedule text

-- an order with what follows it, or what bounds a run in rounds
unfoldable pub parse_named_order : Option DebugInfo → Line → Line → Line → Option Change
parse_named_order notes name rest text =
    if pointwise nat_eq name (codes "greedy") then parse_run_bounds notes greedy_schedule rest
    else if pointwise nat_eq name (codes "random") then parse_seeded_run notes rest
    else parse_run_bounds notes round_robin_schedule text

abbrev pub parse_split_run_arguments : Option DebugInfo → Option (Line × Line) → Line → Option Change
parse_split_run_arguments notes None text = parse_single_order notes text
parse_split_run_arguments notes (Some parts) text = parse_named_order notes parts.0 parts.1 text

-- the arguments of `run`
abbrev pub parse_run_arguments : Option DebugInfo → Line → Option Change
parse_run_arguments notes text = parse_split_run_arguments notes (split_at_space text) text

-- ---- `back until`

abbrev pub back_until_command : Option DebugInfo → Line → Option Change
back_until_command notes text = option_map (BackUntil None) (parsed_run_conditions notes text)

-- `until COND or COND ..`, or a node before it
unfoldable pub parse_back_command_words : Option DebugInfo → Line → Line → Option Change
parse_back_command_words notes name text =
    if pointwise nat_eq name (codes "until") then back_until_command notes text
    else (do
      node ← parse_node name
      until ← parsed_until_conditions notes text
      Some (BackUntil (Some node) until))

-- the arguments of `back`
unfoldable pub parse_back_arguments : Option DebugInfo → Line → Option Change
parse_back_arguments notes text = do
  parts ← split_at_space text
  parse_back_command_words notes parts.0 parts.1

-- ---- the arguments of a command

-- `NNN K`
unfoldable pub parse_node_and_step : Line → Option (NodeId × StepSelector)
parse_node_and_step text = do
  parts ← split_at_space text
  node ← parse_node parts.0
  which ← parse_step_selector parts.1
  Some (node, which)

-- the number of a line, from 1 on; and `from L`
abbrev pub parse_line_number : Line → Option ℕ
parse_line_number text = option_and_then (λ number. if number == 0 then None else Some number) (parse_number text)

abbrev pub parse_line_number_after_from : Line × Line → Option ℕ
parse_line_number_after_from parts = if pointwise nat_eq parts.0 (codes "from") then parse_line_number parts.1 else None

abbrev pub parse_from_line_number : Line → Option ℕ
parse_from_line_number text = option_and_then parse_line_number_after_from (split_at_space text)

-- `VALUE`, `from L` or `VALUE from L`: a value, and the number of the first line
abbrev pub parse_split_value_and_line : Option (Line × Line) → Line → Option (Option NodeValue × ℕ)
parse_split_value_and_line None text = option_map (λ value. (Some value, 1)) (parse_part_value text)
parse_split_value_and_line (Some parts) text =
    if pointwise nat_eq parts.0 (codes "from") then (do
      line ← parse_line_number parts.1
      Some (None, line))
    else (do
      value ← parse_part_value parts.0
      line ← parse_from_line_number parts.1
      Some (Some value, line))

abbrev pub parse_value_and_line : Line → Option (Option NodeValue × ℕ)
parse_value_and_line text = parse_split_value_and_line (split_at_space text) text

-- `K [VALUE] [from L]`
abbrev pub parse_split_step_and_value : Option (Line × Line) → Line → Option (StepSelector × Option NodeValue × ℕ)
parse_split_step_and_value None text = option_map (λ which. (which, None, 1)) (parse_step_selector text)
parse_split_step_and_value (Some parts) text = do
  which ← parse_step_selector parts.0
  asked ← parse_value_and_line parts.1
  Some (which, asked.0, asked.1)

abbrev pub parse_step_and_value : Line → Option (StepSelector × Option NodeValue × ℕ)
parse_step_and_value text = parse_split_step_and_value (split_at_space text) text

-- `NNN K [VALUE] [from L]`
unfoldable pub parse_node_and_value : Line → Option (NodeId × StepSelector × Option NodeValue × ℕ)
parse_node_and_value text = do
  parts ← split_at_space text
  node ← parse_node parts.0
  asked ← parse_step_and_value parts.1
  Some (node, asked.0, asked.1, asked.2)

-- `NNN MMM`
unfoldable pub parse_two_nodes : Line → Option (NodeId × NodeId)
parse_two_nodes text = do
  parts ← split_at_space text
  first ← parse_node parts.0
  second ← parse_node parts.1
  Some (first, second)

-- `NNN HH`
unfoldable pub parse_node_and_cell : Line → Option (NodeId × ℕ)
parse_node_and_cell text = do
  parts ← split_at_space text
  node ← parse_node parts.0
  address ← hex_byte_value parts.1
  Some (node, address)

-- how many further steps are written if no number is given, and how many at most
abbrev pub default_around_steps : ℕ
default_around_steps = 3

abbrev pub max_around_steps : ℕ
max_around_steps = 99

abbrev pub step_and_count_within_max : StepSelector → ℕ → Option (StepSelector × ℕ)
step_and_count_within_max which many = if nat_le many max_around_steps then Some (which, many) else None

abbrev pub parse_split_step_and_count : Option (Line × Line) → Line → Option (StepSelector × ℕ)
parse_split_step_and_count None text = option_map (λ which. (which, default_around_steps)) (parse_step_selector text)
parse_split_step_and_count (Some parts) text = do
  which ← parse_step_selector parts.0
  many ← parse_number parts.1
  step_and_count_within_max which many

-- `K` or `K N`: a step, and how many further steps are written
abbrev pub parse_step_and_count : Line → Option (StepSelector × ℕ)
parse_step_and_count text = parse_split_step_and_count (split_at_space text) text

-- `NNN K` or `NNN K N`
unfoldable pub parse_node_and_steps : Line → Option (NodeId × StepSelector × ℕ)
parse_node_and_steps text = do
  parts ← split_at_space text
  node ← parse_node parts.0
  asked ← parse_step_and_count parts.1
  Some (node, asked.0, asked.1)
