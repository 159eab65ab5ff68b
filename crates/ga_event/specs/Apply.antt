-- What an event does to a chip, and what the events of a list do one after another (F18A Technology Reference DB001, ports;
-- G144A12 Chip Reference DB002, links).
use Rattle.std.specs.Prelude.{ℕ, ◌==◌, Bool, true, false, ◌&&◌, if◌then◌else◌, List, [], ◌∷◌, Option, Some, None, option_map, option_and_then, slice_set, Result, MatchResult, ◌≡◌, length}
use Rattle.ga_ports.specs.declared.side.Side.{Side}
use Rattle.ga_ports.specs.declared.side.Side.TheVariants.{Right, Down, Left, Up}
use Rattle.ga_ports.specs.Address.{has_side, are_same_side}
use Rattle.ga_node.specs.Record.{NodeRecord}
use Rattle.ga_node.specs.Table.{register_t, own, reads_io_next, refusal_of_own_event, sent, taken}
use Rattle.ga_node.specs.declared.seen.NeighbourState.{NeighbourState}
use Rattle.ga_node.specs.declared.seen.NeighbourState.TheVariants.{Nobody, Idle, Reading, Writing}
use Rattle.ga_node.specs.declared.seen.SeenNeighbours.{SeenNeighbours}
use Rattle.ga_node.specs.declared.kind.OwnEventKind.{OwnEventKind}
use Rattle.ga_node.specs.declared.kind.EventRefusal.{EventRefusal}
use Rattle.ga_node.specs.declared.kind.EventRefusal.TheVariants.{Unmatched}
use Rattle.ga_node.specs.declared.wait.Wait.{Wait}
use Rattle.ga_node.specs.declared.wait.Wait.TheVariants.{Nothing, Fetch, Read, Write}
use Rattle.ga_grid.specs.Grid.{neighbour_number}
use Rattle.ga_grid.specs.Chip.{node_record_at}
use Rattle.ga_event.specs.declared.event.Event.{Event}
use Rattle.ga_event.specs.declared.event.Event.TheVariants.{Own, Pass}
use Rattle.ga_event.specs.declared.event.EventWithLook.{EventWithLook}

-- the outcome of an event: its kind, or the transferred word
pub data MadeEventOutcome : Type 0 where
  ExecutedOwn : (kind : OwnEventKind) → MadeEventOutcome
  PassedWord : (word : ℕ) → MadeEventOutcome

-- the node waits to write the side
abbrev pub waits_to_write_side : Wait → Side → Bool
waits_to_write_side Nothing side = false
waits_to_write_side (Fetch sides) side = false
waits_to_write_side (Read sides) side = false
waits_to_write_side (Write posted) side = are_same_side posted side

-- the node waits to read a set that has the side
abbrev pub waits_to_read_side : Wait → Side → Bool
waits_to_read_side Nothing side = false
waits_to_read_side (Fetch sides) side = has_side sides side
waits_to_read_side (Read sides) side = has_side sides side
waits_to_read_side (Write posted) side = false

-- what a neighbour that waits so shows on a side
abbrev pub shown_wait_state : Wait → Side → NeighbourState
shown_wait_state wait side = if waits_to_read_side wait side then Reading else if waits_to_write_side wait side then Writing else Idle

-- the state that the neighbour of this number, if there is one, shows on a side
abbrev pub shown_neighbour_state : List NodeRecord → Side → Option ℕ → NeighbourState
shown_neighbour_state chip side None = Nobody
shown_neighbour_state chip side (Some n) = shown_wait_state (node_record_at chip n).wait side

-- the states of a node's neighbours on its four sides
unfoldable pub neighbour_states : List NodeRecord → ℕ → SeenNeighbours
neighbour_states chip n = record {
  right = shown_neighbour_state chip Right (neighbour_number n Right);
  down = shown_neighbour_state chip Down (neighbour_number n Down);
  left = shown_neighbour_state chip Left (neighbour_number n Left);
  up = shown_neighbour_state chip Up (neighbour_number n Up);
}

-- the number is that of the node, where there is one
abbrev pub equals_optional_number : Option ℕ → ℕ → Bool
equals_optional_number None n = false
equals_optional_number (Some m) n = m == n

-- a word can go from the writer, which waits so, to the reader
abbrev pub is_transfer_ready : ℕ → ℕ → Side → Wait → Wait → Bool
is_transfer_ready writer reader side posted awaited = equals_optional_number (neighbour_number writer side) reader && waits_to_write_side posted side && waits_to_read_side awaited side

abbrev pub refusal_unless_matched : Bool → Option EventRefusal
refusal_unless_matched true = None
refusal_unless_matched false = Some Unmatched

-- Why the event cannot be: the node waits or is stopped, or the two ends of the pass don't match.
abbrev pub event_refusal : List NodeRecord → Event → Option EventRefusal
event_refusal chip (Own node) = refusal_of_own_event (node_record_at chip node.number)
event_refusal chip (Pass writer reader side) =
    refusal_unless_matched (is_transfer_ready writer.number reader.number side (node_record_at chip writer.number).wait (node_record_at chip reader.number).wait)

-- the chip after an own event of a node, with the event's outcome
abbrev pub chip_after_own_event : List NodeRecord → ℕ → OwnEventKind × NodeRecord → List NodeRecord × MadeEventOutcome
chip_after_own_event chip n done = (slice_set chip n done.1, ExecutedOwn done.0)

-- the chip after a pass between nodes that held this
abbrev pub chip_after_pass : List NodeRecord → ℕ → ℕ → NodeRecord → NodeRecord → List NodeRecord × MadeEventOutcome
chip_after_pass chip writer reader from to = (slice_set (slice_set chip writer (sent from)) reader (taken (register_t from) to), PassedWord (register_t from))

-- a call is refused with this reason, or there is none
abbrev pub IsRefusedForReason : {T : Type 0} → Result T EventRefusal → Option EventRefusal → Type 0
IsRefusedForReason answer why = MatchResult answer (λ done. why ≡ None) (λ reason. why ≡ Some reason)

-- the result of the event if it is enabled
abbrev pub event_result : List NodeRecord → Event → List NodeRecord × MadeEventOutcome
event_result chip (Own node) = chip_after_own_event chip node.number (own (neighbour_states chip node.number) (node_record_at chip node.number))
event_result chip (Pass writer reader side) =
    chip_after_pass chip writer.number reader.number (node_record_at chip writer.number) (node_record_at chip reader.number)

-- what is done where nothing refuses it
abbrev pub some_if_allowed : {A : Type 0} → Option EventRefusal → A → Option A
some_if_allowed None done = Some done
some_if_allowed (Some why) done = None

-- the chip after an event, with the event's outcome; none if the event is not enabled
abbrev pub apply : List NodeRecord → Event → Option (List NodeRecord × MadeEventOutcome)
apply chip event = some_if_allowed (event_refusal chip event) (event_result chip event)

-- whether the event would look at the neighbours of its node: it reads `io` or fetches from it
abbrev pub is_look : List NodeRecord → Event → Bool
is_look chip (Own node) = reads_io_next (node_record_at chip node.number)
is_look chip (Pass writer reader side) = false

-- the event, with whether it would look
abbrev pub event_with_look_on_chip : List NodeRecord → Event → EventWithLook
event_with_look_on_chip chip event = record { event = event; look = is_look chip event }

-- the last chip of the events in order, each made on the chip after those before it, with whether each looks and its outcome;
-- none if one is not enabled
abbrev pub run_events : List NodeRecord → List Event → Option (List NodeRecord × List (EventWithLook × MadeEventOutcome))
run_events chip [] = Some (chip, [])
run_events chip (event ∷ events) =
    option_and_then (λ first. option_map (λ rest. (rest.0, (event_with_look_on_chip chip event, first.1) ∷ rest.1)) (run_events first.0 events)) (apply chip event)

-- the chip that the events of a list leave, made one after another; none where one cannot be
abbrev pub replay : List NodeRecord → List Event → Option (List NodeRecord)
replay chip events = option_map (λ done. done.0) (run_events chip events)

-- ---- chips that agree at some of their nodes

-- two chips agree at each node that is not marked
pub record AgreeOutsideMarks (marks : ℕ → Bool) (chip other : List NodeRecord) : Type 0 where
  pub size : length chip ≡ length other
  pub same : (n : ℕ) → marks n ≡ false → node_record_at chip n ≡ node_record_at other n

-- whether an event is enabled on neither of two chips, or has the same outcome on both and leads to chips that agree
abbrev pub AreEventResultsAlike : (ℕ → Bool) → Option (List NodeRecord × MadeEventOutcome) → Option (List NodeRecord × MadeEventOutcome) → Type 0
AreEventResultsAlike marks None None = Unit {0}
AreEventResultsAlike marks None (Some there) = ⊥
AreEventResultsAlike marks (Some here) None = ⊥
AreEventResultsAlike marks (Some here) (Some there) = AgreeOutsideMarks marks here.0 there.0 × (here.1 ≡ there.1)
