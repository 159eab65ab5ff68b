-- What comes to a node from outside it, with the events that touch it. Danos and Krivine ("Reversible Communicating Systems",
-- 2004) pair a process with the memory of what it did and received (a monitored process); here this is a node and its local
-- history with the words. That a look receives a word too is this project's own, as looks are.
use Rattle.std.specs.Prelude.{ℕ, if◌then◌else◌, List, [], ◌∷◌, Option, Some, None, option_to_list}
use Rattle.std.specs.List.{filter, flat_map}
use Rattle.ga_node.specs.Record.{NodeRecord}
use Rattle.ga_node.specs.Io.{io_word}
use Rattle.ga_node.specs.Table.{register_t, reads_io_next}
use Rattle.ga_grid.specs.Chip.{node_record_at}
use Rattle.ga_event.specs.declared.event.Event.{Event}
use Rattle.ga_event.specs.declared.event.Event.TheVariants.{Own, Pass}
use Rattle.ga_event.specs.Touches.{touches}
use Rattle.ga_event.specs.Apply.{neighbour_states, event_result}

-- the word that comes with an event from outside its node: the transferred word of a pass, the word that a look reads in `io`;
-- else none
abbrev pub outside_word_of_event : List NodeRecord → Event → Option ℕ
outside_word_of_event chip (Own node) = if reads_io_next (node_record_at chip node.number) then Some (io_word (neighbour_states chip node.number)) else None
outside_word_of_event chip (Pass writer reader side) = Some (register_t (node_record_at chip writer.number))

-- the events of a list that can be made, each with its word
abbrev pub events_with_outside_words : List NodeRecord → List Event → List (Event × Option ℕ)
events_with_outside_words chip [] = []
events_with_outside_words chip (event ∷ events) = (event, outside_word_of_event chip event) ∷ events_with_outside_words (event_result chip event).0 events

-- The local history of a node with its words: the events that touch it, in order, each with its word. Unlike `local_history` it has
-- no numbers of steps, so it doesn't determine how many steps a neighbour had made when the node looked.
abbrev pub local_history_with_outside_words : ℕ → List NodeRecord → List Event → List (Event × Option ℕ)
local_history_with_outside_words n chip events = filter (λ x. touches x.0 n) (events_with_outside_words chip events)

-- the word of a look; an own event of another kind has none, and that of a pass is not read in `io`
abbrev pub word_read_by_look : Event → Option ℕ → List ℕ
word_read_by_look (Own node) word = option_to_list word
word_read_by_look (Pass writer reader side) word = []

-- the words that the looks of a node read, in order
abbrev pub io_words_read : ℕ → List NodeRecord → List Event → List ℕ
io_words_read n chip events = flat_map (λ x. word_read_by_look x.0 x.1) (local_history_with_outside_words n chip events)
