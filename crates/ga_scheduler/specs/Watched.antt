-- A run with a watch: the watch gets each event just after it, and ends the run after the first one that it selects. One node
-- may have precedence: it makes each event that it has, and the others their own, in the order of the schedule, only while it
-- has none. (Debug Adapter Protocol, "ContinueRequest", "StepInRequest"; which of several nodes comes first is this project's
-- own.)
use Rattle.std.specs.Prelude.{◌≡◌, ℕ, zero, suc, ◌+◌, ◌-◌, ◌<◌, Bool, true, false, if◌then◌else◌, length, Option, Some, None, Ok, IsSome}
use Rattle.ga_grid.specs.declared.node_id.NodeId.{NodeId}
use Rattle.ga_event.specs.Apply.{replay}
use Rattle.ga_event.specs.Told.{made_event_at_place}
use Rattle.ga_event.specs.declared.made.MadeEvent.{MadeEvent}
use Rattle.ga_lab.specs.Machine.{MachineState, chip_of_machine, machine_events_with_outcomes, step_answer, state_after_step}
use Rattle.ga_scheduler.specs.declared.watched.WatchedRunEnd.{WatchedRunEnd}
use Rattle.ga_scheduler.specs.declared.watched.WatchedRunEnd.TheVariants as the_end
use Rattle.ga_races.specs.Orders.{node_has_event}
use Rattle.ga_scheduler.specs.Running.{ScheduledMachine, node_to_run, next_event_of_optional_node, run_after_step, IsQuiescent, IsStepRefusedFor}

-- this is the report of the newest event in the history
abbrev pub IsReportOfNewestEvent : MachineState → MadeEvent → Type 0
IsReportOfNewestEvent s made = made_event_at_place (machine_events_with_outcomes s) (length s.kept - 1) ≡ Some made

-- a step of a node led from a machine whose history can be replayed to another, and was reported so
pub record IsRunStep (old new : MachineState) (made : MadeEvent) : Type 0 where
  pub node : NodeId
  pub replays : IsSome (replay old.load old.kept)
  pub told : step_answer old node ≡ Ok made
  pub moved : new ≡ state_after_step old node

-- ---- a node has precedence

-- the node that makes the next event, where there is one; a node may go first
abbrev pub next_node_with_precedence : Option NodeId → ScheduledMachine → Option NodeId
next_node_with_precedence None r = node_to_run r
next_node_with_precedence (Some node) r = if node_has_event (chip_of_machine r.state) node.number then Some node else node_to_run r

-- the report of the next event, if a node may have precedence, and the run after it
abbrev pub next_event_with_precedence : Option NodeId → ScheduledMachine → Option MadeEvent
next_event_with_precedence first r = next_event_of_optional_node r.state (next_node_with_precedence first r)

abbrev pub run_after_event_with_precedence : Option NodeId → ScheduledMachine → ScheduledMachine
run_after_event_with_precedence first r = run_after_step r (next_node_with_precedence first r)

-- a run after `n` events, if a node may have precedence
abbrev pub run_after_events_with_precedence : Option NodeId → ScheduledMachine → ℕ → ScheduledMachine
run_after_events_with_precedence first r zero = r
run_after_events_with_precedence first r (suc events) = run_after_event_with_precedence first (run_after_events_with_precedence first r events)

-- each of the next `n` events can be made, if a node may have precedence
abbrev pub CanMakeNextPrecedenceEvents : Option NodeId → ScheduledMachine → ℕ → Type 0
CanMakeNextPrecedenceEvents first r events = (k : ℕ) → k < events → IsSome (next_event_with_precedence first (run_after_events_with_precedence first r k))

-- ---- it is watched

-- which node has precedence; whether the watch ends a run after this event, on the machine that it left; and the watch after it
pub record RunWatch (W : Type 0) : Type 0 where
  pub first : Option NodeId
  pub ends : W → MadeEvent → MachineState → Bool
  pub seen : W → MadeEvent → MachineState → W

abbrev pub make_run_watch : {W : Type 0} → Option NodeId → (W → MadeEvent → MachineState → Bool) → (W → MadeEvent → MachineState → W) → RunWatch W
make_run_watch first ends seen = record { first = first; ends = ends; seen = seen }

abbrev pub watch_after_event : {W : Type 0} → RunWatch W → W → Option MadeEvent → MachineState → W
watch_after_event by w None s = w
watch_after_event by w (Some made) s = by.seen w made s

abbrev pub watch_ends_at_event : {W : Type 0} → RunWatch W → W → Option MadeEvent → MachineState → Bool
watch_ends_at_event by w None s = false
watch_ends_at_event by w (Some made) s = by.ends w made s

-- the watch after `n` events
abbrev pub watch_state_after_events : {W : Type 0} → RunWatch W → W → ScheduledMachine → ℕ → W
watch_state_after_events by w r zero = w
watch_state_after_events by w r (suc events) =
    watch_after_event by (watch_state_after_events by w r events) (next_event_with_precedence by.first (run_after_events_with_precedence by.first r events)) (run_after_event_with_precedence by.first (run_after_events_with_precedence by.first r events)).state

-- the watch ends the run after the event that follows `n` events
abbrev pub watch_ends_run_after : {W : Type 0} → RunWatch W → W → ScheduledMachine → ℕ → Bool
watch_ends_run_after by w r events =
    watch_ends_at_event by (watch_state_after_events by w r events) (next_event_with_precedence by.first (run_after_events_with_precedence by.first r events)) (run_after_event_with_precedence by.first (run_after_events_with_precedence by.first r events)).state

-- the watch ends the run after none of the first `n` events
abbrev pub HasNoWatchEnd : {W : Type 0} → RunWatch W → W → ScheduledMachine → ℕ → Type 0
HasNoWatchEnd by w r events = (k : ℕ) → k < events → watch_ends_run_after by w r k ≡ false

-- why no event follows in a run, where a node may go first
abbrev pub IsPrecedenceRunEndWithoutNextEvent : Option NodeId → ScheduledMachine → WatchedRunEnd → Type 0
IsPrecedenceRunEndWithoutNextEvent first r the_end.Quiet = IsQuiescent (chip_of_machine r.state)
IsPrecedenceRunEndWithoutNextEvent first r (the_end.Refused why) = (node : NodeId) × (next_node_with_precedence first r ≡ Some node) × IsStepRefusedFor why (step_answer r.state node)
IsPrecedenceRunEndWithoutNextEvent first r (the_end.EndedByWatch made) = ⊥
IsPrecedenceRunEndWithoutNextEvent first r the_end.Made = ⊥

-- the event after which the watch ended a run is the newest of the machine
abbrev pub IsWatchEndAtNewestEvent : MachineState → WatchedRunEnd → Type 0
IsWatchEndAtNewestEvent s (the_end.EndedByWatch made) = IsReportOfNewestEvent s made
IsWatchEndAtNewestEvent s the_end.Made = Unit {0}
IsWatchEndAtNewestEvent s the_end.Quiet = Unit {0}
IsWatchEndAtNewestEvent s (the_end.Refused why) = Unit {0}

-- how a watched run ended after `n` events, of at most the requested number
abbrev pub HasWatchedRunEnded : {W : Type 0} → RunWatch W → W → ScheduledMachine → ℕ → ℕ → WatchedRunEnd → Type 0
HasWatchedRunEnded by w r most events (the_end.EndedByWatch made) =
    (k : ℕ) × (events ≡ k + 1) × HasNoWatchEnd by w r k × (next_event_with_precedence by.first (run_after_events_with_precedence by.first r k) ≡ Some made) × (watch_ends_run_after by w r k ≡ true)
HasWatchedRunEnded by w r most events the_end.Made = (events ≡ most) × HasNoWatchEnd by w r events
HasWatchedRunEnded by w r most events the_end.Quiet = (events < most) × HasNoWatchEnd by w r events × IsPrecedenceRunEndWithoutNextEvent by.first (run_after_events_with_precedence by.first r events) the_end.Quiet
HasWatchedRunEnded by w r most events (the_end.Refused why) =
    (events < most) × HasNoWatchEnd by w r events × IsPrecedenceRunEndWithoutNextEvent by.first (run_after_events_with_precedence by.first r events) (the_end.Refused why)
