-- The outcomes of a list of events, with the numbers of their steps.
use Rattle.std.specs.Prelude.{ℕ, List, map, count_by, ◌+◌, if◌then◌else◌, [], ◌∷◌, ◌++◌, take, Option, Some, None, option_and_then, option_to_list}
use Rattle.ga_event.specs.declared.event.Event.{Event}
use Rattle.ga_event.specs.declared.event.EventWithLook.{EventWithLook}
use Rattle.ga_event.specs.Touches.{touches}
use Rattle.ga_event.specs.Apply.{MadeEventOutcome, ExecutedOwn, PassedWord}
use Rattle.std.specs.List.{slice_get}
use Rattle.ga_event.specs.declared.event.Event.TheVariants as event
use Rattle.ga_event.specs.declared.made.MadeEvent.{MadeEvent}
use Rattle.ga_event.specs.declared.made.MadeEvent.TheVariants as made

-- the events of a list with outcomes, each with whether it looked; in `events_without_outcomes` without
abbrev pub events_with_look_without_outcomes : List (EventWithLook × MadeEventOutcome) → List EventWithLook
events_with_look_without_outcomes told = map (λ (x : EventWithLook × MadeEventOutcome). x.0) told

abbrev pub events_without_outcomes : List (EventWithLook × MadeEventOutcome) → List Event
events_without_outcomes told = map (λ (cause : EventWithLook). cause.event) (events_with_look_without_outcomes told)

-- how many of the events touch a node
abbrev pub count_steps : ℕ → List Event → ℕ
count_steps n events = count_by (λ e. touches e n) events

-- an event that follows these, as made with this outcome; none if the outcome is of another kind
abbrev pub made_event_after : List Event → Event → MadeEventOutcome → Option MadeEvent
made_event_after events (event.Own node) (ExecutedOwn kind) = Some (made.Own node (count_steps node.number events + 1) kind)
made_event_after events (event.Pass w r side) (PassedWord word) =
    Some (made.Pass w (count_steps w.number events + 1) r (count_steps r.number events + 1) word)
made_event_after events (event.Own node) (PassedWord word) = None
made_event_after events (event.Pass w r side) (ExecutedOwn kind) = None

-- the event at a place, as made
abbrev pub made_event_at_place : List (EventWithLook × MadeEventOutcome) → ℕ → Option MadeEvent
made_event_at_place kept place =
    option_and_then (λ x. made_event_after (events_without_outcomes (take place kept)) x.0.event x.1) (slice_get kept place)

-- those of the events that touch a node, in order, as made after the events `before`
abbrev pub made_events_of_node_after : List Event → List (EventWithLook × MadeEventOutcome) → ℕ → List MadeEvent
made_events_of_node_after before [] n = []
made_events_of_node_after before (x ∷ xs) n =
    (if touches x.0.event n then option_to_list (made_event_after before x.0.event x.1) else [])
    ++ made_events_of_node_after (before ++ x.0.event ∷ []) xs n

abbrev pub made_events_of_node : List (EventWithLook × MadeEventOutcome) → ℕ → List MadeEvent
made_events_of_node kept n = made_events_of_node_after [] kept n

-- the events of a list, without whether they looked
abbrev pub events_of_causes : List EventWithLook → List Event
events_of_causes causes = map (λ (cause : EventWithLook). cause.event) causes
