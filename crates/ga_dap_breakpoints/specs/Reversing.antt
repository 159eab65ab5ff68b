-- The hits that are kept, and `reverseContinue` (Debug Adapter Protocol, "ReverseContinueRequest"; Danos and Krivine 2004 for what is taken back). The number
-- of a hit is how many of the kept events of its node hit the breakpoint up to it.
use Rattle.std.specs.Prelude.{ℕ, zero, suc, ◌+◌, ◌-◌, ◌%◌, ◌==◌, nat_lt, Bool, false, ◌&&◌, if◌then◌else◌, List, [], ◌∷◌, replicate, slice_set, Option, Some, None, option_map, unwrap_or}
use Rattle.std.specs.Int.{from_bool}
use Rattle.std.specs.List.{slice_get}
use Rattle.ga_node.specs.Record.{NodeRecord}
use Rattle.ga_grid.specs.declared.node_id.NodeId.{NodeId}
use Rattle.ga_event.specs.declared.made.MadeEvent.{MadeEvent}
use Rattle.ga_event.specs.declared.made.MadeEvent.TheVariants as made
use Rattle.ga_event.specs.Told.{count_steps}
use Rattle.ga_lab.specs.Machine.{MachineState, history_of_node}
use Rattle.ga_provenance.specs.Origins.{node_after_steps}
use Rattle.ga_scheduler.specs.Conditions.{stores_in_cell, is_step_of_node}
use Rattle.ga_dap_breakpoints.specs.declared.back.WatchedAction.{WatchedAction}
use Rattle.ga_dap_breakpoints.specs.declared.back.WatchedAction.TheVariants.{ArrivesAtSlot, WritesWatchedCell}
use Rattle.ga_dap_breakpoints.specs.Back.{reaches_slot, state_rolled_back_past_steps}
use Rattle.ga_dap_breakpoints.specs.declared.breakpoint.Breakpoint.{Breakpoint}
use Rattle.ga_dap_breakpoints.specs.declared.hits.HitTally.{HitTally}
use Rattle.ga_dap_breakpoints.specs.declared.condition.HitCondition.{HitCondition}
use Rattle.ga_dap_breakpoints.specs.Conditions.{is_optional_value_test_passed, meets_hit_condition}

-- ---- hits among the kept steps of a node

-- a step stored in the cell, where the node was so before it
abbrev pub is_event_storing_in_cell : ℕ → NodeRecord → Option MadeEvent → Bool
is_event_storing_in_cell cell before None = false
is_event_storing_in_cell cell before (Some (made.Own node step kind)) = stores_in_cell cell before kind
is_event_storing_in_cell cell before (Some (made.Pass writer i reader j word)) = false

-- the step after the first `n` arrived at the slot, or stored in the cell of RAM, which has two addresses
abbrev pub is_watched_step : MachineState → NodeId → WatchedAction → ℕ → Bool
is_watched_step s node (ArrivesAtSlot at) k = reaches_slot s node at k
is_watched_step s node (WritesWatchedCell address) k = is_event_storing_in_cell (address % 64) (node_after_steps s node.number k) (slice_get (history_of_node s node.number) k)

-- the step after the first `n` hit the breakpoint: it did what is watched, and the node met the condition after it
abbrev pub is_hit_step : MachineState → NodeId → Breakpoint → ℕ → Bool
is_hit_step s node one k = is_optional_value_test_passed one.condition (node_after_steps s node.number (k + 1)) (k + 1) && is_watched_step s node one.watched k

-- how many of the first `n` steps hit the breakpoint
abbrev pub hit_count_among_steps : MachineState → NodeId → Breakpoint → ℕ → ℕ
hit_count_among_steps s node one zero = 0
hit_count_among_steps s node one (suc k) = hit_count_among_steps s node one k + from_bool (is_hit_step s node one k)

-- ---- the number of hits of each breakpoint with a hit condition

abbrev pub hit_count_if_conditional : Option HitCondition → MachineState → Breakpoint → ℕ
hit_count_if_conditional None s one = 0
hit_count_if_conditional (Some hits) s one = hit_count_among_steps s one.node one (count_steps one.node.number s.kept)

abbrev pub hit_count_in_history : MachineState → Breakpoint → ℕ
hit_count_in_history s one = hit_count_if_conditional one.hits s one

abbrev pub hit_counts_with_count_at_index : ℕ → ℕ → List ℕ → List ℕ
hit_counts_with_count_at_index place count counts = if nat_lt place 64 then slice_set counts place count else counts

abbrev pub hit_counts_updated_from_index : MachineState → ℕ → List Breakpoint → List ℕ → List ℕ
hit_counts_updated_from_index s place [] counts = counts
hit_counts_updated_from_index s place (one ∷ rest) counts = hit_counts_updated_from_index s (place + 1) rest (hit_counts_with_count_at_index place (hit_count_in_history s one) counts)

abbrev pub hit_tally_of_history : MachineState → List Breakpoint → HitTally
hit_tally_of_history s breakpoints = record { counts = hit_counts_updated_from_index s 0 breakpoints (replicate 64 0); hit = None }

-- ---- what the newest event hit

-- the step after the first `n` of its node hit the breakpoint, which wants its newest hit
abbrev pub is_step_hit_meeting_condition : MachineState → Breakpoint → ℕ → Bool
is_step_hit_meeting_condition s one k = is_hit_step s one.node one k && meets_hit_condition one.hits (hit_count_in_history s one)

-- the newest step of its node did
abbrev pub is_newest_step_hit_meeting_condition : MachineState → Breakpoint → Bool
is_newest_step_hit_meeting_condition s one = nat_lt 0 (count_steps one.node.number s.kept) && is_step_hit_meeting_condition s one (count_steps one.node.number s.kept - 1)

-- the newest event hit the breakpoint and satisfied its hit condition
abbrev pub is_event_hit_meeting_condition : MadeEvent → MachineState → Breakpoint → Bool
is_event_hit_meeting_condition told s one = is_step_of_node one.node.number told && is_newest_step_hit_meeting_condition s one

-- ---- `reverseContinue`

-- the number of the newest of the first `n` steps that hit the breakpoint and satisfied its hit condition
abbrev pub newest_matching_hit : MachineState → NodeId → Breakpoint → ℕ → Option ℕ
newest_matching_hit s node one zero = None
newest_matching_hit s node one (suc k) =
    if is_hit_step s node one k && meets_hit_condition one.hits (hit_count_among_steps s node one (k + 1)) then Some (k + 1) else newest_matching_hit s node one k

-- How many steps remain if the node returns to the newest hit, by at least one step. A node is then after the step by which it
-- arrived at a slot, and before the one by which it wrote a cell.
abbrev pub kept_step_count_by_watch : WatchedAction → MachineState → NodeId → Breakpoint → Option ℕ
kept_step_count_by_watch (ArrivesAtSlot at) s node one = newest_matching_hit s node one (count_steps node.number s.kept - 1)
kept_step_count_by_watch (WritesWatchedCell address) s node one = option_map (λ step. step - 1) (newest_matching_hit s node one (count_steps node.number s.kept))

-- how many steps stay where the newest hit of a breakpoint of the node is gone back to
abbrev pub kept_step_count_by_breakpoint : MachineState → NodeId → Breakpoint → Option ℕ
kept_step_count_by_breakpoint s node one = if one.node.number == node.number then kept_step_count_by_watch one.watched s node one else None

abbrev pub later_optional_step : Option ℕ → Option ℕ → Option ℕ
later_optional_step None other = other
later_optional_step (Some a) None = Some a
later_optional_step (Some a) (Some b) = if nat_lt a b then Some b else Some a

-- the most steps that stay, of this number and of those by the breakpoints
abbrev pub most_steps_kept_by_breakpoints : MachineState → NodeId → Option ℕ → List Breakpoint → Option ℕ
most_steps_kept_by_breakpoints s node best [] = best
most_steps_kept_by_breakpoints s node best (one ∷ rest) = most_steps_kept_by_breakpoints s node (later_optional_step best (kept_step_count_by_breakpoint s node one)) rest

-- the node is gone back to the newest hit of one of its breakpoints, and else to the load
abbrev pub state_after_reverse_continue : MachineState → NodeId → List Breakpoint → MachineState
state_after_reverse_continue s node breakpoints = state_rolled_back_past_steps s node (unwrap_or (most_steps_kept_by_breakpoints s node None breakpoints) 0)
