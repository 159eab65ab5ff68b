-- Which parts of the load the values of a chip come from, through stacks, memories, registers and links.
use Rattle.std.specs.Prelude.{◌≡◌, ◌≢◌, ℕ, ◌==◌, if◌then◌else◌, List, [], ◌∷◌, ◌++◌}
use Rattle.ga_node.specs.Record.{NodeRecord, HasValidListSizes}
use Rattle.ga_node.specs.Io.{io_word}
use Rattle.ga_event.specs.declared.flow.part.NodePart.{NodePart}
use Rattle.ga_event.specs.declared.flow.part.NodePart.TheVariants.{OutsideWord}
use Rattle.ga_event.specs.Flow.{ValueFlow, CopiedFromPart, From, top_data_part, node_part_value, flow_of_own_event, flow_after_send, flow_after_take, HaveSameNextAction}
use Rattle.ga_grid.specs.Chip.{node_record_at}
use Rattle.ga_event.specs.declared.event.Event.{Event}
use Rattle.ga_event.specs.declared.event.Event.TheVariants.{Own, Pass}
use Rattle.ga_event.specs.Apply.{neighbour_states, event_result}

-- the parts of the load, each with its node, from which the value of each part of each node comes
abbrev pub PartSources : Type 0
PartSources = ℕ → NodePart → List (ℕ × NodePart)

-- the sources at load: each part of each node is its own
abbrev pub initial_sources : PartSources
initial_sources n part = (n, part) ∷ []

-- the sources of a part of a node before an event, in which a word with these comes from outside
abbrev pub sources_of_part : (NodePart → List (ℕ × NodePart)) → List (ℕ × NodePart) → NodePart → List (ℕ × NodePart)
sources_of_part node outside OutsideWord = outside
sources_of_part node outside part = node part

abbrev pub sources_of_parts : (NodePart → List (ℕ × NodePart)) → List (ℕ × NodePart) → List NodePart → List (ℕ × NodePart)
sources_of_parts node outside [] = []
sources_of_parts node outside (part ∷ rest) = sources_of_part node outside part ++ sources_of_parts node outside rest

-- the sources of a value of this flow, in an event in which a word with these comes from outside
abbrev pub sources_of_flow : (NodePart → List (ℕ × NodePart)) → List (ℕ × NodePart) → ValueFlow → List (ℕ × NodePart)
sources_of_flow node outside (CopiedFromPart part) = sources_of_part node outside part
sources_of_flow node outside (From parts) = sources_of_parts node outside parts

-- the sources after an event; what a read of `io` shows has none, and a word that is taken has those of the writer's T
abbrev pub sources_after_event : List NodeRecord → Event → PartSources → PartSources
sources_after_event chip (Own node) sources n part =
    if n == node.number then sources_of_flow (sources n) [] (flow_of_own_event (node_record_at chip n) part) else sources n part
sources_after_event chip (Pass writer reader side) sources n part =
    if n == reader.number then sources_of_flow (sources n) (sources writer.number top_data_part) (flow_after_take (node_record_at chip n).wait part)
    else if n == writer.number then sources_of_flow (sources n) [] (flow_after_send part)
    else sources n part

-- the chip after the events of a list, and the sources after them
abbrev pub chip_after_events : List NodeRecord → List Event → List NodeRecord
chip_after_events chip [] = chip
chip_after_events chip (e ∷ es) = chip_after_events (event_result chip e).0 es

abbrev pub sources_after_events : List NodeRecord → List Event → PartSources → PartSources
sources_after_events chip [] sources = sources
sources_after_events chip (e ∷ es) sources = sources_after_events (event_result chip e).0 es (sources_after_event chip e sources)

-- ---- two runs

-- an event is decided alike on two chips: an own event with the same word at `io`, a pass of two nodes with the same wait of its reader
abbrev pub IsEventDecidedAlike : List NodeRecord → List NodeRecord → Event → Type 0
IsEventDecidedAlike c d (Own node) =
    HaveSameNextAction (node_record_at c node.number) (node_record_at d node.number) × (io_word (neighbour_states c node.number) ≡ io_word (neighbour_states d node.number))
IsEventDecidedAlike c d (Pass writer reader side) =
    (writer.number ≢ reader.number) × ((node_record_at c reader.number).wait ≡ (node_record_at d reader.number).wait)

-- each of some events in turn is decided alike on two chips
abbrev pub AreEventsDecidedAlike : List NodeRecord → List NodeRecord → List Event → Type 0
AreEventsDecidedAlike c d [] = Unit {0}
AreEventsDecidedAlike c d (e ∷ es) = IsEventDecidedAlike c d e × AreEventsDecidedAlike (event_result c e).0 (event_result d e).0 es

-- two chips hold the same in these parts of their nodes
abbrev pub AreChipsAlikeAtNodeParts : List NodeRecord → List NodeRecord → List (ℕ × NodePart) → Type 0
AreChipsAlikeAtNodeParts c d [] = Unit {0}
AreChipsAlikeAtNodeParts c d (at ∷ rest) = (node_part_value 0 (node_record_at c at.0) at.1 ≡ node_part_value 0 (node_record_at d at.0) at.1) × AreChipsAlikeAtNodeParts c d rest

abbrev pub HaveNodesValidListSizes : List NodeRecord → Type 0
HaveNodesValidListSizes chip = (n : ℕ) → HasValidListSizes (node_record_at chip n)
