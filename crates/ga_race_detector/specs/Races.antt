-- Races: a node took a word, and another neighbour could have given it one in its place. Which it was depended on the order in
-- which nodes happened to run (after Netzer and Miller, "Optimal tracing and replay for debugging message-passing parallel
-- programs", 1992, who speak of messages). Without looks these are all races of the history: laws `reported_race_free_end_is_unique` and
-- `shorter_sessions_lead_to_race_free`.
use Rattle.ga_event.specs.declared.event.Event.TheVariants as event
use Rattle.ga_event.specs.declared.made.MadeEvent.TheVariants as made
use Rattle.std.specs.Prelude.{ℕ, ◌&&◌, if◌then◌else◌, List, Option, Some, None, ◌≡◌, ◌≢◌, zero, suc, ◌+◌, ◌==◌, Bool, false, ◌||◌, [], ◌∷◌, ◌++◌, is_none, Ok}
use Rattle.ga_ports.specs.declared.side.Side.{Side}
use Rattle.ga_node.specs.Record.{NodeRecord}
use Rattle.ga_node.specs.Table.{register_t, refusal_of_own_event, reads_io_next}
use Rattle.ga_grid.specs.Grid.{neighbour_number, node_id}
use Rattle.ga_grid.specs.Chip.{node_record_at}
use Rattle.ga_event.specs.Apply.{waits_to_write_side, waits_to_read_side}
use Rattle.std.specs.List.{slice_get}
use Rattle.ga_ports.specs.declared.side.Side.TheVariants.{Right, Down, Left, Up}
use Rattle.ga_grid.specs.declared.node_id.NodeId.{NodeId}
use Rattle.ga_event.specs.declared.event.EventWithLook.{EventWithLook}
use Rattle.ga_event.specs.Next.{next_event_of_node}
use Rattle.ga_event.specs.declared.made.MadeEvent.{MadeEvent}
use Rattle.ga_event.specs.Told.{count_steps}
use Rattle.ga_lab.specs.Machine.{MachineState, chip_of_machine, history_of_node, state_after_rewind}
use Rattle.ga_race_detector.specs.declared.races.Race.{Race}
use Rattle.ga_races.specs.Orders.{node_has_event, first_node_from_that_passes_test}

-- ---- the words that the neighbours of a node wait to give it

-- the word that a writer waits to give a reader over a side, where that waits for it there
abbrev pub word_offered_over_side : NodeRecord → NodeRecord → Side → Option ℕ
word_offered_over_side reader writer side = if waits_to_write_side writer.wait side && waits_to_read_side reader.wait side then Some (register_t writer) else None

-- the word that the neighbour of this number waits to give a node over a side, if there is such a neighbour
abbrev pub word_offered_by_neighbour : List NodeRecord → ℕ → Side → Option ℕ → Option ℕ
word_offered_by_neighbour chip reader side None = None
word_offered_by_neighbour chip reader side (Some writer) = word_offered_over_side (node_record_at chip reader) (node_record_at chip writer) side

-- the word that can come over a side of a node
abbrev pub alternative_word : List NodeRecord → ℕ → Side → Option ℕ
alternative_word chip reader side = word_offered_by_neighbour chip reader side (neighbour_number reader side)

-- the word that a neighbour would give the node, in place of the one that came from this writer
abbrev pub race_with_offer : NodeId → ℕ → NodeId → ℕ → Option ℕ → Option ℕ → List Race
race_with_offer reader step writer word None offer = []
race_with_offer reader step writer word (Some other) None = []
race_with_offer reader step writer word (Some other) (Some offer) =
    if other == writer.number then []
    else record { reader = reader; step = step; writer = writer; word = word; other = node_id other; offered = offer } ∷ []

-- the race of a step that took a word, of the other word that a rollback of the step leaves offered over a side of the node
abbrev pub races_on_side : MachineState → NodeId → ℕ → NodeId → ℕ → Side → List Race
races_on_side s reader step writer word side =
    race_with_offer reader step writer word (neighbour_number reader.number side) (alternative_word (chip_of_machine (state_after_rewind s reader.number step)) reader.number side)

-- the races of a step that took a word, of the other words that a rollback of the step leaves offered over the sides of the
-- node
abbrev pub races_of_pass : MachineState → NodeId → ℕ → NodeId → ℕ → List Race
races_of_pass s reader step writer word =
    races_on_side s reader step writer word Right ++ (races_on_side s reader step writer word Down
    ++ (races_on_side s reader step writer word Left ++ races_on_side s reader step writer word Up))

-- the races of a step of a node, by the step as made: none, unless by it the node took a word
abbrev pub races_of_event : MachineState → NodeId → ℕ → Option MadeEvent → List Race
races_of_event s node step None = []
races_of_event s node step (Some (made.Own n k kind)) = []
races_of_event s node step (Some (made.Pass writer i reader j word)) = if reader.number == node.number then races_of_pass s node step writer word else []

abbrev pub races_of_numbered_step : MachineState → NodeId → ℕ → List Race
races_of_numbered_step s node place = races_of_event s node (place + 1) (slice_get (history_of_node s node.number) place)

-- the races of the first steps of a node
unfoldable pub races_of_first_steps : MachineState → NodeId → ℕ → List Race
races_of_first_steps s node zero = []
races_of_first_steps s node (suc place) = races_of_first_steps s node place ++ races_of_numbered_step s node place

-- the races of all steps of a node
abbrev pub races_of_node : MachineState → NodeId → List Race
races_of_node s node = races_of_first_steps s node (count_steps node.number s.kept)

-- the races of the nodes below a number
unfoldable pub races_of_nodes_below : MachineState → ℕ → List Race
races_of_nodes_below s zero = []
races_of_nodes_below s (suc number) = races_of_nodes_below s number ++ races_of_node s (node_id number)

-- the races of one node, or of all
abbrev pub requested_races : MachineState → Option NodeId → List Race
requested_races s None = races_of_nodes_below s 144
requested_races s (Some node) = races_of_node s node

-- one of the events looks
unfoldable pub has_look_event : List EventWithLook → Bool
has_look_event [] = false
has_look_event (cause ∷ causes) = cause.look || has_look_event causes

-- the next event of the node is one of its own that looks
abbrev pub is_next_event_look : List NodeRecord → ℕ → Bool
is_next_event_look chip n = is_none (refusal_of_own_event (node_record_at chip n)) && reads_io_next (node_record_at chip n)

-- the next event of one of the nodes below a number is one of its own that looks
unfoldable pub has_next_look_event : List NodeRecord → ℕ → Bool
has_next_look_event chip zero = false
has_next_look_event chip (suc n) = is_next_event_look chip n || has_next_look_event chip n

-- an event of the history looks, or one that comes next
abbrev pub has_made_or_next_look : List EventWithLook → List NodeRecord → Bool
has_made_or_next_look causes chip = has_look_event causes || has_next_look_event chip 144

-- the first node that has an event
abbrev pub first_ready_node : List NodeRecord → Option NodeId
first_ready_node chip = first_node_from_that_passes_test (node_has_event chip) 0 144

-- after a rollback of the step, a step of the other neighbour transfers the other word to the node
pub record IsRealizableRace (s : MachineState) (race : Race) : Type 0 where
  pub side : Side
  pub next : next_event_of_node (chip_of_machine (state_after_rewind s race.reader.number race.step)) race.other ≡ Ok (event.Pass race.other race.reader side)
  pub word : race.offered ≡ register_t (node_record_at (chip_of_machine (state_after_rewind s race.reader.number race.step)) race.other.number)
  pub differ : race.other.number ≢ race.writer.number
