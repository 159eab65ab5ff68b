-- Which step of a node a command or an option means: one by its number, or the last (docs/REFERENCE.md, "Exploring"; this project's own).
use Rattle.std.specs.Prelude.{ℕ, nat_eq, if◌then◌else◌, codes, Option, Some, option_map}
use Rattle.std.specs.Cmp.Lexicographic.{pointwise}
use Rattle.ga_text.specs.Lines.{Line}
use Rattle.ga_text.specs.Parsing.{parse_number}
use Rattle.ga_grid.specs.declared.node_id.NodeId.{NodeId}
use Rattle.ga_event.specs.Told.{count_steps}
use Rattle.ga_lab.specs.Machine.{MachineState}
use Rattle.ga_console.specs.declared.step_selector.StepSelector.{StepSelector}
use Rattle.ga_console.specs.declared.step_selector.StepSelector.TheVariants.{Number, Last}

-- a number, or `last`
abbrev pub parse_step_selector : Line → Option StepSelector
parse_step_selector word = if pointwise nat_eq word (codes "last") then Some Last else option_map Number (parse_number word)

-- The number of the step that is meant. Of a node that made none the last is 0, which no step has.
abbrev pub selected_step_number : MachineState → NodeId → StepSelector → ℕ
selected_step_number s node (Number step) = step
selected_step_number s node Last = count_steps node.number s.kept
