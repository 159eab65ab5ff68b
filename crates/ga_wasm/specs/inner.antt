-- What only private contracts and proofs name.
use Rattle.std.specs.Prelude.{ℕ, ◌≡◌, List, [], ◌∷◌, ◌++◌, Some, Ok, map}
use Rattle.ga_console.specs.declared.run.Status.{Status}
use Rattle.ga_console.specs.declared.run.Status.TheVariants.{Done, ImageRefused, StreamFault, NotFinished, CommandRefused}
use Rattle.ga_node.specs.Record.{NodeRecord, NodeState}
use Rattle.ga_grid.specs.declared.node_id.NodeId.{NodeId}
use Rattle.ga_event.specs.declared.event.EventWithLook.{EventWithLook}
use Rattle.ga_event.specs.Apply.{MadeEventOutcome, apply, event_with_look_on_chip}
use Rattle.ga_event.specs.Next.{next_event_of_node}
use Rattle.ga_lab.specs.Machine.{MachineState, machine_events_with_looks, own_or_writing_node}
use Rattle.ga_grid.specs.Chip.{records_of_chip}
use Rattle.ga_text.specs.Lines.{lines_of_text}
use Rattle.ga_image.specs.Grammar.{IsImage}
use Rattle.ga_picture.specs.Drawing.{AreShadesOfEvents}
use Rattle.ga_picture.specs.declared.shade.Shade.{Shade}
use Rattle.ga_picture.specs.declared.shade.Shade.TheVariants.{Black, Grey, Red}

-- ---- the exit statuses as numbers (docs/REFERENCE.md, "Exit statuses")

abbrev pub number_of_exit_status : Status → ℕ
number_of_exit_status Done = 0
number_of_exit_status ImageRefused = 1
number_of_exit_status StreamFault = 2
number_of_exit_status NotFinished = 4
number_of_exit_status CommandRefused = 7

-- ---- the events that nodes make one after another, each its next one (docs/REFERENCE.md, "Steps, dependence and rollback")

-- from one chip to another the node with this number makes its next event
pub record MakesNextEventOfNode (chip : List NodeRecord) (n : ℕ) (cause : EventWithLook) (after : List NodeRecord) : Type 0 where
  pub node : NodeId
  pub told : MadeEventOutcome
  pub number : node.number ≡ n
  pub due : next_event_of_node chip node ≡ Ok cause.event
  pub look : cause ≡ event_with_look_on_chip chip cause.event
  pub done : apply chip cause.event ≡ Some (after, told)

-- from one chip to another the nodes with these numbers make their next events, in their order
pub data MakesNextEventsOfNodes (load : List NodeRecord) : List ℕ → List EventWithLook → List NodeRecord → Type 0 where
  none : MakesNextEventsOfNodes load [] [] load
  more : {nodes : List ℕ} {causes : List EventWithLook} {chip after : List NodeRecord} {n : ℕ} {cause : EventWithLook}
      → MakesNextEventsOfNodes load nodes causes chip → MakesNextEventOfNode chip n cause after → MakesNextEventsOfNodes load (nodes ++ n ∷ []) (causes ++ cause ∷ []) after

-- ---- the nodes that made the events of a machine, by their numbers

abbrev pub node_number_of_event : EventWithLook → ℕ
node_number_of_event cause = (own_or_writing_node cause.event).number

-- the numbers of the nodes that made a machine's events, in the order of the events
abbrev pub node_numbers_of_events : MachineState → List ℕ
node_numbers_of_events s = map node_number_of_event (machine_events_with_looks s)

-- ---- how the events of a list stand to one of them, a byte for each

abbrev pub byte_of_shade : Shade → ℕ
byte_of_shade Grey = 0
byte_of_shade Black = 1
byte_of_shade Red = 2

-- The nodes make their events on the chip of the image, and the bytes are their colours: red where an event depends on the one at
-- the place, black where that depends on it.
pub record AreShadeBytes (image nodes : List ℕ) (place : ℕ) (codes : List ℕ) : Type 0 where
  pub chip : List NodeState
  pub last : List NodeRecord
  pub causes : List EventWithLook
  pub shades : List Shade
  pub accepted : IsImage (lines_of_text image) chip
  pub made : MakesNextEventsOfNodes (records_of_chip chip) nodes causes last
  pub shaded : AreShadesOfEvents causes (Some place) (Some place) shades
  pub told : codes ≡ map byte_of_shade shades
