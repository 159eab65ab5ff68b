-- The nodes that an event touches, and those on which what it does can depend (after Danos and Krivine, "Reversible Communicating
-- Systems", 2004; looks are this project's own).
use Rattle.std.specs.Prelude.{ℕ, Bool, if◌then◌else◌, List, [], ◌∷◌, ◌++◌, ◌==◌, Option, Some, None}
use Rattle.std.specs.List.{list_any}
use Rattle.ga_ports.specs.declared.side.Side.TheVariants.{Right, Down, Left, Up}
use Rattle.ga_grid.specs.Grid.{neighbour_number}
use Rattle.ga_event.specs.declared.event.EventWithLook.{EventWithLook}
use Rattle.ga_event.specs.declared.event.Event.{Event}
use Rattle.ga_event.specs.declared.event.Event.TheVariants.{Own, Pass}

-- the nodes that an event touches
abbrev pub event_nodes : Event → List ℕ
event_nodes (Own node) = node.number ∷ []
event_nodes (Pass writer reader side) = writer.number ∷ reader.number ∷ []

abbrev pub touches : Event → ℕ → Bool
touches event n = list_any (λ m. m == n) (event_nodes event)

abbrev pub prepend_some : Option ℕ → List ℕ → List ℕ
prepend_some None ns = ns
prepend_some (Some n) ns = n ∷ ns

-- the neighbours of a node
unfoldable pub neighbours_of_node : ℕ → List ℕ
neighbours_of_node n =
    prepend_some (neighbour_number n Right) (prepend_some (neighbour_number n Down) (prepend_some (neighbour_number n Left) (prepend_some (neighbour_number n Up) [])))

-- the nodes at which an event looks, where it is a look: all neighbours of its node
abbrev pub looked_at_nodes : Event → Bool → List ℕ
looked_at_nodes (Own node) look = if look then neighbours_of_node node.number else []
looked_at_nodes (Pass writer reader side) look = []

-- the nodes on which depend whether the event is enabled, its outcome and its effect
unfoldable pub nodes_observed_by_event : EventWithLook → List ℕ
nodes_observed_by_event cause = event_nodes cause.event ++ looked_at_nodes cause.event cause.look

-- one of the nodes that the event sees is marked
abbrev pub observes_marked_node : (ℕ → Bool) → EventWithLook → Bool
observes_marked_node marks cause = list_any marks (nodes_observed_by_event cause)
