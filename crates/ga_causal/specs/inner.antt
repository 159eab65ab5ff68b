-- Of each node the oldest event that touches it, among those that depend on one of a list.
use Rattle.std.specs.Prelude.{ℕ, Bool, false, Option, Some, None, ◌≡◌, ◌<◌, ◌≤◌, min, true, List, [], ◌∷◌, slice_index_or}
use Rattle.ga_event.specs.declared.event.EventWithLook.{EventWithLook}
use Rattle.ga_causal.specs.Dependence.{event_with_look_touches_node, event_at, dependent_flags}

-- the node, where there is one, is marked
abbrev pub is_optional_node_marked : (ℕ → Bool) → Option ℕ → Bool
is_optional_node_marked marks None = false
is_optional_node_marked marks (Some n) = marks n

-- a place for each node, or the number that means none
pub record OldestEventPlaces : Type 0 where
  pub places : List ℕ
  pub none : ℕ

abbrev pub oldest_place_of_node : OldestEventPlaces → ℕ → ℕ
oldest_place_of_node firsts n = slice_index_or firsts.places n firsts.none

-- the least of the places of some nodes
abbrev pub least : (ℕ → ℕ) → ℕ → List ℕ → ℕ
least first none [] = none
least first none (n ∷ ns) = min (first n) (least first none ns)

-- the least of a place and that of a node, where there is one
abbrev pub least_of_place_and_node_place : (ℕ → ℕ) → Option ℕ → ℕ → ℕ
least_of_place_and_node_place first None place = place
least_of_place_and_node_place first (Some n) place = min (first n) place

-- Each node has the place of the oldest event below the limit that depends on the cause and touches the node.
pub record AreOldestEventPlaces (events : List EventWithLook) (cause limit none : ℕ) (first : ℕ → ℕ) : Type 0 where
  pub noted : (n : ℕ) → first n < none → first n < limit
  pub dependent : (n : ℕ) → first n < none → slice_index_or (dependent_flags events cause) (first n) false ≡ true
  pub touched : (n : ℕ) → first n < none → event_with_look_touches_node (event_at events (first n)) n ≡ true
  pub oldest : (n q : ℕ) → q < limit → slice_index_or (dependent_flags events cause) q false ≡ true
      → event_with_look_touches_node (event_at events q) n ≡ true → first n ≤ q
