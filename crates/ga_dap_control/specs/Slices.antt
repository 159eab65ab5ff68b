-- A slice of the run in progress, made while no request has come (Debug Adapter Protocol, "ContinueRequest", "NextRequest",
-- "StoppedEvent"): the events of the schedule, at most `slice_event_limit`, and why the run ends after them, if it does. So a run in
-- slices is one run, however it is cut.
use Rattle.std.specs.Prelude.{◌≡◌, ◌≤◌, ◌<◌, ◌⊎◌, ℕ, Bool, true, false, ◌&&◌, not, ◌==◌, if◌then◌else◌, List, replicate, Option, Some, None}
use Rattle.std.specs.List.{slice_get}
use Rattle.ga_races.specs.Acts.{IsMarkedSubset, AreDeadlocked}
use Rattle.ga_causal.specs.Dependence.{is_node_flagged}
use Rattle.ga_node.specs.Record.{NodeRecord}
use Rattle.ga_grid.specs.Chip.{node_record_at}
use Rattle.ga_grid.specs.declared.node_id.NodeId.{NodeId}
use Rattle.ga_event.specs.declared.made.MadeEvent.{MadeEvent}
use Rattle.ga_event.specs.declared.made.MadeEvent.TheVariants.{Own, Pass}
use Rattle.ga_lab.specs.Machine.{MachineState, chip_of_machine}
use Rattle.ga_scheduler.specs.Running.{scheduled_machine, run_after_events}
use Rattle.ga_scheduler.specs.Watched.{run_after_events_with_precedence}
use Rattle.ga_dap_breakpoints.specs.declared.back.WatchedAction.{WatchedAction}
use Rattle.ga_dap_breakpoints.specs.declared.back.WatchedAction.TheVariants as watched
use Rattle.ga_dap_views.specs.Threads.{has_thread}
use Rattle.ga_dap_breakpoints.specs.declared.breakpoint.Breakpoint.{Breakpoint}
use Rattle.ga_dap_breakpoints.specs.declared.going.HaltReason.{HaltReason}
use Rattle.ga_dap_breakpoints.specs.declared.going.HaltReason.TheVariants as halt
use Rattle.ga_dap_breakpoints.specs.declared.going.MoveResult.{MoveResult}
use Rattle.ga_dap_breakpoints.specs.declared.stepping.StepMove.{StepMove}
use Rattle.ga_dap_breakpoints.specs.Going.{IsMoveResult, tally_after_events, continue_plan, step_plan}
use Rattle.ga_dap_breakpoints.specs.Stepping.{move_after_events}
use Rattle.ga_dap_breakpoints.specs.declared.hits.HitTally.{HitTally}
use Rattle.ga_dap_breakpoints.specs.Reversing.{hit_tally_of_history}
use Rattle.ga_lab.specs.declared.fault.LabFault.TheVariants as fault
use Rattle.ga_state_expectations.specs.declared.source.LineExpectation.{LineExpectation}
use Rattle.ga_dap_control.specs.Watched.{AreWatchedExpectations, has_expectations_to_watch}
use Rattle.ga_dap_control.specs.declared.execution.Execution.{Execution}
use Rattle.ga_dap_control.specs.declared.execution.RunGoal.{RunGoal}
use Rattle.ga_dap_control.specs.declared.execution.RunGoal.TheVariants.{Continue, Step}
use Rattle.ga_dap_control.specs.declared.stop_reason.StopReason.{StopReason}
use Rattle.ga_dap_control.specs.declared.stop_reason.StopReason.TheVariants as stop
use Rattle.ga_dap_queries.specs.declared.debuggee.Debuggee.{Debuggee}
use Rattle.ga_dap_control.specs.declared.configuration.Configuration.{Configuration}
use Rattle.ga_dap_queries.specs.Disassembling.{program_debug_info}

-- the maximum number of events before the next look for a request
abbrev pub slice_event_limit : ℕ
slice_event_limit = 4096

-- ---- the events

-- how often each breakpoint was hit before a slice: as the slice before left it, or as the kept events say
abbrev pub hit_tally_before_slice : MachineState → Configuration → Option HitTally → HitTally
hit_tally_before_slice s set None = hit_tally_of_history s set.points.points.items
hit_tally_before_slice s set (Some tally) = tally

-- a slice of the events of `continue`
abbrev pub ContinuesForSlice : List LineExpectation → Debuggee → Configuration → Execution → Debuggee → Execution → MoveResult → Type 0
ContinuesForSlice expectations p set r new next went =
    (scheduled_machine new.lab went.schedule ≡ run_after_events (scheduled_machine p.lab r.schedule) went.events) × (went.events ≤ slice_event_limit)
    × (went.tally ≡ tally_after_events None set.points.points.items (hit_tally_before_slice p.lab set r.tally) (scheduled_machine p.lab r.schedule) went.events)
    × IsMoveResult (continue_plan set.points.points.items expectations (hit_tally_before_slice p.lab set r.tally) set.stops (scheduled_machine p.lab r.schedule)) (scheduled_machine p.lab r.schedule) slice_event_limit went.events went.halt
    × (new ≡ record p { lab = new.lab }) × (next ≡ record r { schedule = went.schedule; tally = Some went.tally })

-- a slice of the events of a step of one node
abbrev pub StepsForSlice : StepMove → List LineExpectation → Debuggee → Configuration → Execution → Debuggee → Execution → MoveResult → Type 0
StepsForSlice by expectations p set r new next went =
    (scheduled_machine new.lab went.schedule ≡ run_after_events_with_precedence (Some by.node) (scheduled_machine p.lab r.schedule) went.events) × (went.events ≤ slice_event_limit)
    × (went.tally ≡ tally_after_events (Some by.node) set.points.points.items (hit_tally_before_slice p.lab set r.tally) (scheduled_machine p.lab r.schedule) went.events)
    × IsMoveResult (step_plan (program_debug_info p) set.points.points.items expectations (hit_tally_before_slice p.lab set r.tally) set.stops by (scheduled_machine p.lab r.schedule)) (scheduled_machine p.lab r.schedule) slice_event_limit went.events went.halt
    × (new ≡ record p { lab = new.lab })
    × (next ≡ record r { schedule = went.schedule; tally = Some went.tally; goal = Some (Step (move_after_events by (scheduled_machine p.lab r.schedule) went.events)) })

abbrev pub AdvancesRunByGoal : RunGoal → List LineExpectation → Debuggee → Configuration → Execution → Debuggee → Execution → MoveResult → Type 0
AdvancesRunByGoal Continue expectations p set r new next went = ContinuesForSlice expectations p set r new next went
AdvancesRunByGoal (Step by) expectations p set r new next went = StepsForSlice by expectations p set r new next went

-- ---- why the run ends after them

-- the node of what was made, of a pass its reader
abbrev pub event_node : MadeEvent → NodeId
event_node (Own node step kind) = node
event_node (Pass writer i reader j word) = reader

-- why a run ends by what was made, which hit a breakpoint
abbrev pub stop_reason_of_watched_action : NodeId → MadeEvent → WatchedAction → StopReason
stop_reason_of_watched_action node told (watched.ArrivesAtSlot spot) = stop.Breakpoint node told
stop_reason_of_watched_action node told (watched.WritesWatchedCell address) = stop.WatchedCellWritten node told

abbrev pub stop_reason_of_breakpoint_if_any : Option Breakpoint → MadeEvent → StopReason
stop_reason_of_breakpoint_if_any None told = stop.StepCompleted (event_node told)
stop_reason_of_breakpoint_if_any (Some point) told = stop_reason_of_watched_action point.node told point.watched

abbrev pub stop_reason_of_breakpoint_at_index : Configuration → MadeEvent → ℕ → StopReason
stop_reason_of_breakpoint_at_index set told place = stop_reason_of_breakpoint_if_any (slice_get set.points.points.items place) told

-- why a run ends where its move came to its end
abbrev pub stop_reason_of_move_end : RunGoal → MadeEvent → StopReason
stop_reason_of_move_end Continue told = stop.StepCompleted (event_node told)
stop_reason_of_move_end (Step by) told = stop.StepCompleted by.node

-- why a run ends: a node came to be stuck by its events, where the filter says so; else another reason
abbrev pub deadlock_or_other_stop_reason : Bool → Option NodeId → Option StopReason → Option StopReason
deadlock_or_other_stop_reason true (Some node) other = Some (stop.Stuck node)
deadlock_or_other_stop_reason asked stuck other = other

abbrev pub slice_stop_reason : Configuration → RunGoal → Option NodeId → HaltReason → Option StopReason
slice_stop_reason set goal stuck (halt.HitBreakpoint told which) = Some (stop_reason_of_breakpoint_at_index set told which)
slice_stop_reason set goal stuck (halt.NodeStopped told) = Some (stop.Stopped (event_node told))
slice_stop_reason set goal stuck (halt.BrokeExpectation told line) = Some (stop.BrokeExpectation (event_node told) line)
slice_stop_reason set goal stuck (halt.CompletedMove told) = deadlock_or_other_stop_reason set.stuck stuck (Some (stop_reason_of_move_end goal told))
slice_stop_reason set goal stuck (halt.Refused why) = Some (stop.Refused why)
slice_stop_reason set goal stuck halt.SliceEnded = deadlock_or_other_stop_reason set.stuck stuck None
slice_stop_reason set goal stuck halt.Quiet = deadlock_or_other_stop_reason set.stuck stuck (Some stop.Quiet)

-- ---- nodes that are stuck

-- the greatest set of nodes that can never go on
abbrev pub IsGreatestDeadlock : List NodeRecord → (ℕ → Bool) → Type 0
IsGreatestDeadlock chip marks = AreDeadlocked chip marks × ((others : ℕ → Bool) → AreDeadlocked chip others → IsMarkedSubset others marks)

-- a node that has something to show, and isn't stopped, can never go on, and is not among those that are known
abbrev pub is_newly_deadlocked_by_flags : Bool → Bool → Debuggee → ℕ → Bool
is_newly_deadlocked_by_flags known now p n = now && not known && has_thread p.lab p.nodes.items n && (node_record_at (chip_of_machine p.lab) n).stop == 0

abbrev pub is_newly_deadlocked : (ℕ → Bool) → (ℕ → Bool) → Debuggee → ℕ → Bool
is_newly_deadlocked known now p n = is_newly_deadlocked_by_flags (known n) (now n) p n

-- the first such node, if there is one
abbrev pub IsFirstNewlyDeadlocked : (ℕ → Bool) → (ℕ → Bool) → Debuggee → Option NodeId → Type 0
IsFirstNewlyDeadlocked known now p None = (n : ℕ) → n < 144 → is_newly_deadlocked known now p n ≡ false
IsFirstNewlyDeadlocked known now p (Some node) = (is_newly_deadlocked known now p node.number ≡ true) × ((n : ℕ) → n < node.number → is_newly_deadlocked known now p n ≡ false)

-- a message is sent only if the filter is on
abbrev pub deadlocked_node_if_filter_set : Bool → Option NodeId → Option NodeId
deadlocked_node_if_filter_set true stuck = stuck
deadlocked_node_if_filter_set false stuck = None

-- a run ended since a node is stuck
abbrev pub is_deadlock_stop : Option StopReason → Bool
is_deadlock_stop (Some (stop.Stuck node)) = true
is_deadlock_stop _ = false

-- The deadlocked nodes that were reported to the client, after a slice, by those that were deadlocked before it and are after
-- it: if one is reported, all are. A node that became deadlocked and wasn't reported, since the run ended for another reason,
-- is not among them; nor is any if the filter is off.
abbrev pub reported_deadlocks : Bool → Option StopReason → List Bool → List Bool → List Bool
reported_deadlocks asked result before now = if asked then (if is_deadlock_stop result then now else before) else replicate 144 false

-- ---- a slice

abbrev pub execution_after_stop : Execution → Option StopReason → Execution
execution_after_stop r None = r
execution_after_stop r (Some why) = record r { goal = None }

-- the events of a slice, before which these nodes are stuck, and with which these expectations are watched
abbrev pub MakesSliceExpecting : RunGoal → List Bool → List LineExpectation → Debuggee → Configuration → Execution → Debuggee → Execution → Option StopReason → Type 0
MakesSliceExpecting goal before expectations p set r new next result =
    (went : MoveResult) × (between : Execution) × (now : List Bool) × (stuck : Option NodeId) × AdvancesRunByGoal goal expectations p set r new between went
    × IsGreatestDeadlock (chip_of_machine new.lab) (is_node_flagged now) × IsFirstNewlyDeadlocked (is_node_flagged before) (is_node_flagged now) new stuck
    × (result ≡ slice_stop_reason set goal stuck went.halt)
    × (next ≡ execution_after_stop (record between { reported = reported_deadlocks set.stuck result before now }) result)

-- No memory was left for the expectations of the source: no event is made. So only where there are some to watch, and the slice before left none.
abbrev pub LacksMemoryForExpectations : Bool → Debuggee → Configuration → Execution → Debuggee → Execution → Option StopReason → Type 0
LacksMemoryForExpectations watched p set r new next result =
    ((has_expectations_to_watch p set && not watched) ≡ true) × (new ≡ p) × (next ≡ record r { goal = None }) × (result ≡ Some (stop.Refused fault.Memory))

abbrev pub MakesSliceGivenDeadlocked : RunGoal → Bool → List Bool → Debuggee → Configuration → Execution → Debuggee → Execution → Option StopReason → Type 0
MakesSliceGivenDeadlocked goal watched before p set r new next result =
    ((expectations : List LineExpectation) × AreWatchedExpectations p set expectations × MakesSliceExpecting goal before expectations p set r new next result)
    ⊎ LacksMemoryForExpectations watched p set r new next result

-- a slice that begins with an unreported deadlocked node makes no event: it reports the node
abbrev pub MakesEventsUnlessDeadlocked : Option NodeId → RunGoal → Bool → List Bool → Debuggee → Configuration → Execution → Debuggee → Execution → Option StopReason → Type 0
MakesEventsUnlessDeadlocked (Some node) goal watched before p set r new next result =
    (new ≡ p) × (next ≡ record r { goal = None; reported = before }) × (result ≡ Some (stop.Stuck node))
MakesEventsUnlessDeadlocked None goal watched before p set r new next result = MakesSliceGivenDeadlocked goal watched before p set r new next result

abbrev pub MakesSliceIfRunning : Option RunGoal → Bool → Debuggee → Configuration → Execution → Debuggee → Execution → Option StopReason → Type 0
MakesSliceIfRunning None watched p set r new next result = (new ≡ p) × (next ≡ r) × (result ≡ None)
MakesSliceIfRunning (Some goal) watched p set r new next result =
    (before : List Bool) × (stuck : Option NodeId) × IsGreatestDeadlock (chip_of_machine p.lab) (is_node_flagged before)
    × IsFirstNewlyDeadlocked (is_node_flagged r.reported) (is_node_flagged before) p stuck
    × MakesEventsUnlessDeadlocked (deadlocked_node_if_filter_set set.stuck stuck) goal watched before p set r new next result

-- a slice of the run in progress, where the slice before left its expectations or didn't
abbrev pub MakesEventSlice : Bool → Debuggee → Configuration → Execution → Debuggee → Execution → Option StopReason → Type 0
MakesEventSlice watched p set r new next result = MakesSliceIfRunning r.goal watched p set r new next result
