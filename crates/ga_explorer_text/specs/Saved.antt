-- The answer of `save`: the history as commands of the debugger (docs/REFERENCE.md, "Exploring"; this project's own).
use Rattle.std.specs.Prelude.{List, [], ◌∷◌, ◌++◌, codes, map, flat_map}
use Rattle.ga_text.specs.Lines.{Text, Line}
use Rattle.ga_grid.specs.declared.node_id.NodeId.{NodeId}
use Rattle.ga_event.specs.declared.event.Event.{Event}
use Rattle.ga_lab.specs.Machine.{MachineState, own_or_writing_node}
use Rattle.ga_text.specs.Digits.{name_of_node}
use Rattle.ga_display.specs.Texts.{join_with_spaces}

-- a step of a node
abbrev pub step_command_line : NodeId → Text
step_command_line node = join_with_spaces (codes "step" ∷ name_of_node node ∷ [])

-- the line of a kept event: the step of its node, of a pass of the writer
abbrev pub saved_event_line : Event → Text
saved_event_line e = step_command_line (own_or_writing_node e)

abbrev pub saved_session_lines : MachineState → List Line
saved_session_lines s = map saved_event_line s.kept

-- a line, ended by a line feed
abbrev pub text_with_line_feed : Text → Text
text_with_line_feed line = line ++ codes "\n"

abbrev pub saved_session_text : MachineState → Text
saved_session_text s = flat_map text_with_line_feed (saved_session_lines s)
