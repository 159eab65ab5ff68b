-- What only private contracts and proofs name.
use Rattle.std.specs.Prelude.{[], Option, Some, None, ℕ, ◌-◌, ◌==◌, Bool, true, false, if◌then◌else◌, List, ◌∷◌}
use Rattle.std.specs.List.{slice_get}
use Rattle.ga_lab.specs.Machine.{MachineState, history_of_node}
use Rattle.ga_event.specs.declared.flow.part.NodePart.{NodePart}
use Rattle.ga_event.specs.declared.flow.part.NodePart.TheVariants as part
use Rattle.ga_provenance.specs.declared.value.PartValue.{PartValue}
use Rattle.ga_text.specs.Lines.{Text}
use Rattle.ga_grid.specs.declared.node_id.NodeId.{NodeId}
use Rattle.ga_event.specs.declared.event.Event.{Event}
use Rattle.ga_event.specs.declared.event.EventWithLook.{EventWithLook}
use Rattle.ga_event.specs.declared.made.MadeEvent.{MadeEvent}
use Rattle.ga_event.specs.declared.made.MadeEvent.TheVariants.{Own, Pass}
use Rattle.ga_explorer_text.specs.Saved.{saved_event_line, text_with_line_feed}
use Rattle.ga_provenance.specs.declared.lines.ProvenanceLine.{ProvenanceLine}

-- ---- what private contracts cite

-- the node of a reported step: of a pass the writer
abbrev pub acting_node_of_made_event : MadeEvent → NodeId
acting_node_of_made_event (Own node step kind) = node
acting_node_of_made_event (Pass writer k reader j word) = writer

-- the line of an event, where there is one
abbrev pub optional_event_line : Option Event → Text
optional_event_line None = []
optional_event_line (Some e) = text_with_line_feed (saved_event_line e)

-- the line of an event that is listed with its cause
abbrev pub line_of_event_with_look : EventWithLook → Text
line_of_event_with_look cause = text_with_line_feed (saved_event_line cause.event)

-- ---- which step the first of some lines is of

abbrev pub is_step_of_first_line : ℕ → List ProvenanceLine → Bool
is_step_of_first_line step [] = false
is_step_of_first_line step (line ∷ lines) = line.value.step == step

-- ---- the words of lines

-- whether a part gets the word of a transfer, and whether the line of a value has no word but that one
abbrev pub is_transferred_part : NodePart → Bool
is_transferred_part (part.Data k) = k == 0
is_transferred_part part.I = true
is_transferred_part at = false

abbrev pub is_part_transferred_by : Option MadeEvent → NodePart → Bool
is_part_transferred_by None at = false
is_part_transferred_by (Some (Own node step kind)) at = false
is_part_transferred_by (Some (Pass writer i reader j word)) at = is_transferred_part at

abbrev pub has_only_transferred_word : MachineState → PartValue → Bool
has_only_transferred_word s value = if value.step == 0 then false else is_part_transferred_by (slice_get (history_of_node s value.node.number) (value.step - 1)) value.part
