-- Which events of a list depend on which (Danos and Krivine, "Reversible Communicating Systems", 2004), and the list that a
-- rollback leaves.
use Rattle.std.specs.Prelude.{ℕ, zero, suc, ◌≡◌, ◌<◌, ◌≢◌, Bool, true, false, ◌||◌, if◌then◌else◌, List, [], ◌∷◌, length, slice_index_or, ◌↔◌, IsTrue, map, ◌==◌, Option, Some, None, option_map}
use Rattle.ga_grid.specs.Grid.{node_id}
use Rattle.std.specs.List.{list_any}
use Rattle.ga_event.specs.declared.event.EventWithLook.{EventWithLook}
use Rattle.ga_event.specs.declared.event.Event.{Event}
use Rattle.ga_event.specs.declared.event.Event.TheVariants.{Own, Pass}
use Rattle.ga_event.specs.Touches.{observes_marked_node}
use Rattle.ga_event.specs.Touches as Touches

abbrev pub is_transfer_event : Event → Bool
is_transfer_event (Own n) = false
is_transfer_event (Pass writer reader side) = true

-- the nodes that the event touches, whether it looks or not
abbrev pub touched_nodes : EventWithLook → List ℕ
touched_nodes cause = Touches.event_nodes cause.event

abbrev pub event_with_look_touches_node : EventWithLook → ℕ → Bool
event_with_look_touches_node cause n = Touches.touches cause.event n

-- the rule by which a later event depends directly on an earlier one, or 0 where it does not: rule 1 for two events of one
-- node alone, rule 2 where at least one is a pass and they touch a common node, else rule 3 for a look at a node that the
-- earlier touches
abbrev pub dependence_rule : EventWithLook → EventWithLook → ℕ
dependence_rule earlier later =
    if list_any (event_with_look_touches_node earlier) (touched_nodes later)
    then (if is_transfer_event earlier.event || is_transfer_event later.event then 2 else 1)
    else (if observes_marked_node (event_with_look_touches_node earlier) later then 3 else 0)

-- the event that is read past the end of a list
abbrev pub default_event_with_look : EventWithLook
default_event_with_look = record { event = Own (node_id 0); look = false }

abbrev pub event_at : List EventWithLook → ℕ → EventWithLook
event_at events place = slice_index_or events place default_event_with_look

abbrev pub dependence_rule_at : List EventWithLook → ℕ → ℕ → ℕ
dependence_rule_at events earlier later = dependence_rule (event_at events earlier) (event_at events later)

-- the event at the place `later` depends directly on the one at the place `earlier`
pub record DependsDirectly (events : List EventWithLook) (earlier later : ℕ) : Type 0 where
  pub before : earlier < later
  pub within : later < length events
  pub by_rule : dependence_rule_at events earlier later ≢ 0

-- one event depends on another: the least reflexive and transitive relation that contains direct dependence
pub data DependsOn (events : List EventWithLook) (cause : ℕ) : ℕ → Type 0 where
  itself : DependsOn events cause cause
  through : {middle effect : ℕ} → DependsOn events cause middle → DependsDirectly events middle effect → DependsOn events cause effect

-- whether the flag of a node is set; past the flags none is
abbrev pub is_node_flagged : List Bool → ℕ → Bool
is_node_flagged flags n = slice_index_or flags n false

-- the marked nodes after an event: one that sees a marked node marks all its nodes
abbrev pub marked_nodes_after_event : (ℕ → Bool) → EventWithLook → ℕ → Bool
marked_nodes_after_event marks e = if observes_marked_node marks e then (λ n. marks n || event_with_look_touches_node e n) else marks

-- of each event in turn, whether it sees a marked node
abbrev pub dependent_flags_from_marks : (ℕ → Bool) → List EventWithLook → List Bool
dependent_flags_from_marks marks [] = []
dependent_flags_from_marks marks (e ∷ es) = observes_marked_node marks e ∷ dependent_flags_from_marks (marked_nodes_after_event marks e) es

-- of each event, whether it depends on the one at this place (exactly those that depend on it by DependsOn: law dependent_flags_are_exact)
abbrev pub dependent_flags : List EventWithLook → ℕ → List Bool
dependent_flags [] i = []
dependent_flags (e ∷ es) zero = true ∷ dependent_flags_from_marks (event_with_look_touches_node e) es
dependent_flags (e ∷ es) (suc i) = false ∷ dependent_flags es i

-- the elements that are not flagged, in their order
abbrev pub unflagged_elements : {A : Type 0} → List Bool → List A → List A
unflagged_elements [] xs = xs
unflagged_elements (flag ∷ flags) [] = []
unflagged_elements (flag ∷ flags) (x ∷ xs) = if flag then unflagged_elements flags xs else x ∷ unflagged_elements flags xs

-- the events that do not depend on the one at this place (exactly those that do not by DependsOn: law dependent_flags_are_exact)
abbrev pub rest : List EventWithLook → ℕ → List EventWithLook
rest events i = unflagged_elements (dependent_flags events i) events

-- no event of the list is a look
abbrev pub HasNoLooks : List EventWithLook → Type 0
HasNoLooks [] = Unit {0}
HasNoLooks (e ∷ es) = (e.look ≡ false) × HasNoLooks es

-- These are the events that do not depend on the one at the place, in their order.
pub record IsListWithoutDependents (events : List EventWithLook) (place : ℕ) (left : List EventWithLook) : Type 0 where
  pub gone : List Bool
  pub size : length gone ≡ length events
  pub exact : (j : ℕ) → j < length events → (IsTrue (slice_index_or gone j false) ↔ DependsOn events place j)
  pub kept : left ≡ unflagged_elements gone events

-- the place of the k-th event that touches the node, counted from 1; none where there is none
abbrev pub position_of_step : List EventWithLook → ℕ → ℕ → Option ℕ
position_of_step [] n k = None
position_of_step (e ∷ es) n zero = None
position_of_step (e ∷ es) n (suc k) =
    if event_with_look_touches_node e n then (if k == 0 then Some 0 else option_map suc (position_of_step es n k)) else option_map suc (position_of_step es n (suc k))

abbrev pub remaining_events_or_all : List EventWithLook → Option ℕ → List EventWithLook
remaining_events_or_all events None = events
remaining_events_or_all events (Some i) = rest events i

-- the list after a rollback of the node to its step k; the list itself if there is no such step
abbrev pub events_after_rewind : List EventWithLook → ℕ → ℕ → List EventWithLook
events_after_rewind events n k = remaining_events_or_all events (position_of_step events n k)

-- the list after rollbacks to these steps, each a node and a number, one after another
abbrev pub events_after_rewinds : List EventWithLook → List (ℕ × ℕ) → List EventWithLook
events_after_rewinds events [] = events
events_after_rewinds events (step ∷ steps) = events_after_rewinds (events_after_rewind events step.0 step.1) steps
