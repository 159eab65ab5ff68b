-- The event that a step of a node makes (F18A Technology Reference DB001, ports; the order of the sides is this project's own,
-- where the chip leaves several writers undefined).
use Rattle.std.specs.Prelude.{ℕ, ◌==◌, if◌then◌else◌, List, [], ◌∷◌, Option, Some, None, Result, Ok, Err, option_map}
use Rattle.ga_ports.specs.declared.side.Side.{Side}
use Rattle.ga_ports.specs.declared.side.Side.TheVariants.{Right, Down, Left, Up}
use Rattle.ga_ports.specs.Address.{has_side}
use Rattle.ga_node.specs.Record.{NodeRecord}
use Rattle.ga_node.specs.declared.kind.EventRefusal.{EventRefusal}
use Rattle.ga_node.specs.declared.kind.EventRefusal.TheVariants.{Waiting, Stopped}
use Rattle.ga_node.specs.declared.wait.Wait.{Wait}
use Rattle.ga_node.specs.declared.wait.Wait.TheVariants.{Nothing, Fetch, Read, Write}
use Rattle.ga_grid.specs.declared.node_id.NodeId.{NodeId}
use Rattle.ga_grid.specs.Grid.{node_id, neighbour_number}
use Rattle.ga_grid.specs.Chip.{node_record_at}
use Rattle.ga_event.specs.declared.event.Event.{Event}
use Rattle.ga_event.specs.declared.event.Event.TheVariants.{Own, Pass}
use Rattle.ga_event.specs.Apply.{waits_to_write_side, waits_to_read_side}

-- the neighbour on a side
abbrev pub neighbour_on_side : NodeId → Side → Option NodeId
neighbour_on_side node side = option_map node_id (neighbour_number node.number side)

-- the pass from a writer over a side to the neighbour there, if that waits for it
abbrev pub writer_pass : List NodeRecord → NodeId → Side → Option NodeId → Option Event
writer_pass chip writer side None = None
writer_pass chip writer side (Some reader) =
    if waits_to_read_side (node_record_at chip reader.number).wait side then Some (Pass writer reader side) else None

-- the pass to a reader over a side from the neighbour there, if that waits to write it
abbrev pub reader_pass : List NodeRecord → NodeId → Side → Option NodeId → Option Event
reader_pass chip reader side None = None
reader_pass chip reader side (Some writer) =
    if waits_to_write_side (node_record_at chip writer.number).wait side then Some (Pass writer reader side) else None

-- the pass to a reader over a side, if that is of this set and the neighbour there waits to write it
abbrev pub reader_pass_over_set : List NodeRecord → NodeId → ℕ → Side → Option Event
reader_pass_over_set chip reader sides side =
    if has_side sides side then reader_pass chip reader side (neighbour_on_side reader side) else None

abbrev pub or_else : {A : Type 0} → Option A → Option A → Option A
or_else (Some x) other = Some x
or_else None other = other

-- the first of the passes to a reader over these sides in turn
abbrev pub first_pass_over_sides : List NodeRecord → NodeId → ℕ → List Side → Option Event
first_pass_over_sides chip reader sides [] = None
first_pass_over_sides chip reader sides (side ∷ others) = or_else (reader_pass_over_set chip reader sides side) (first_pass_over_sides chip reader sides others)

-- the first of the passes to a reader, in the order right, down, left, up
abbrev pub first_reader_pass : List NodeRecord → NodeId → ℕ → Option Event
first_reader_pass chip reader sides = first_pass_over_sides chip reader sides (Right ∷ Down ∷ Left ∷ Up ∷ [])

abbrev pub ok_or_waiting : Option Event → Result Event EventRefusal
ok_or_waiting (Some event) = Ok event
ok_or_waiting None = Err Waiting

-- the event that a step of the node makes, by its stop and by what it waits for
abbrev pub next_event_by_wait : List NodeRecord → NodeId → ℕ → Wait → Result Event EventRefusal
next_event_by_wait chip node stop Nothing = if stop == 0 then Ok (Own node) else Err Stopped
next_event_by_wait chip node stop (Fetch sides) = ok_or_waiting (first_reader_pass chip node sides)
next_event_by_wait chip node stop (Read sides) = ok_or_waiting (first_reader_pass chip node sides)
next_event_by_wait chip node stop (Write side) = ok_or_waiting (writer_pass chip node side (neighbour_on_side node side))

-- The event that a step of the node makes: its own if it runs; the pass over its side if it waits to write; the first enabled
-- pass if it waits to read. Else the node waits or is stopped.
abbrev pub next_event_of_node : List NodeRecord → NodeId → Result Event EventRefusal
next_event_of_node chip node = next_event_by_wait chip node (node_record_at chip node.number).stop (node_record_at chip node.number).wait
