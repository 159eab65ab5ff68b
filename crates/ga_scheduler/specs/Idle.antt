-- Idle nodes: nothing was loaded into them, and they wait for code on all sides, as the chip does after a cold start (F18A
-- Technology Reference DB001, ports and reset).
use Rattle.std.specs.Prelude.{◌≡◌, ℕ, ◌<◌, ◌↔◌, ◌⊎◌, Bool, true, false, List, [], ◌∷◌}
use Rattle.ga_node.specs.Record.{NodeRecord, record_at_load_defaults}
use Rattle.ga_node.specs.Io.{no_neighbours}
use Rattle.ga_node.specs.Table.{own}
use Rattle.ga_grid.specs.Chip.{node_record_at}
use Rattle.ga_grid.specs.Grid.{initial_p_of_node}
use Rattle.ga_event.specs.declared.made.MadeEvent.{MadeEvent}
use Rattle.ga_lab.specs.Machine.{MachineState, history_of_node}
use Rattle.ga_scheduler.specs.Conditions.{is_own_event_of_kind, is_wait_event_kind}

-- one event, by which the node came to wait
abbrev pub is_list_of_one_wait_event : List MadeEvent → Bool
is_list_of_one_wait_event [] = false
is_list_of_one_wait_event (made ∷ []) = is_own_event_of_kind is_wait_event_kind made
is_list_of_one_wait_event (made ∷ other ∷ more) = false

-- no event
abbrev pub has_no_made_events : List MadeEvent → Bool
has_no_made_events [] = true
has_no_made_events (made ∷ more) = false

-- a node into which nothing was loaded, after the event by which it came to wait for code from all its sides
abbrev pub record_of_unloaded_waiting_node : ℕ → NodeRecord
record_of_unloaded_waiting_node p = (own no_neighbours (record_at_load_defaults p)).1

-- a node as where nothing is loaded, so a fetch is due from all its sides, which kept nothing but the event by which it came to wait
abbrev pub HasOnlyWaitedSinceLoad : MachineState → ℕ → Type 0
HasOnlyWaitedSinceLoad s n = (node_record_at s.load n ≡ record_at_load_defaults (initial_p_of_node n)) × (is_list_of_one_wait_event (history_of_node s n) ≡ true)

-- one that was loaded as it is after that event, as from a dump, and kept no event
abbrev pub IsLoadedAlreadyWaiting : MachineState → ℕ → Type 0
IsLoadedAlreadyWaiting s n = (node_record_at s.load n ≡ record_of_unloaded_waiting_node (initial_p_of_node n)) × (has_no_made_events (history_of_node s n) ≡ true)

-- a node that holds no program
abbrev pub IsIdleNode : MachineState → ℕ → Type 0
IsIdleNode s n = HasOnlyWaitedSinceLoad s n ⊎ IsLoadedAlreadyWaiting s n

-- the idle nodes are marked, and no others
abbrev pub AreIdleNodeFlags : MachineState → (ℕ → Bool) → Type 0
AreIdleNodeFlags s marks = (n : ℕ) → n < 144 → ((marks n ≡ true) ↔ IsIdleNode s n)
