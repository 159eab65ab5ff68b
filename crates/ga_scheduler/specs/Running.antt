-- Events made in the order of a schedule: a list of steps of the machine and nothing else. Each is a step of the node that the
-- schedule chooses of those that have an event. A run ends just after the first event at which one of some conditions holds.
use Rattle.std.specs.Prelude.{◌≡◌, ℕ, zero, suc, ◌+◌, ◌<◌, false, List, Option, Some, None, Result, Err, IsSome, IsOk, ◌⊎◌}
use Rattle.std.specs.Result.{result_ok}
use Rattle.ga_node.specs.Record.{NodeRecord}
use Rattle.ga_grid.specs.declared.node_id.NodeId.{NodeId}
use Rattle.ga_event.specs.declared.made.MadeEvent.{MadeEvent}
use Rattle.ga_lab.specs.declared.fault.LabFault.{LabFault}
use Rattle.ga_lab.specs.declared.fault.LabFault.TheVariants.{Memory}
use Rattle.ga_lab.specs.Machine.{MachineState, chip_of_machine, step_answer, state_after_step}
use Rattle.ga_scheduler.specs.declared.schedule.Schedule.{Schedule}
use Rattle.ga_scheduler.specs.declared.condition.Condition.{Condition}
use Rattle.ga_scheduler.specs.declared.running.RunEnd.{RunEnd}
use Rattle.ga_scheduler.specs.declared.running.RunEnd.TheVariants as the_end
use Rattle.ga_scheduler.specs.Schedules.{next_scheduled_node, schedule_after_event}
use Rattle.ga_scheduler.specs.Conditions.{first_holding_condition}
use Rattle.ga_races.specs.Orders.{node_has_event}

-- a machine with the schedule by which its events are made
pub record ScheduledMachine : Type 0 where
  pub state : MachineState
  pub schedule : Schedule

abbrev pub scheduled_machine : MachineState → Schedule → ScheduledMachine
scheduled_machine s schedule = record { state = s; schedule = schedule }

-- the node that makes the next event, where there is one
abbrev pub node_to_run : ScheduledMachine → Option NodeId
node_to_run r = next_scheduled_node r.schedule (node_has_event (chip_of_machine r.state))

-- the report of the next event of a machine, which this node makes, if there is one
abbrev pub next_event_of_optional_node : MachineState → Option NodeId → Option MadeEvent
next_event_of_optional_node s None = None
next_event_of_optional_node s (Some node) = result_ok (step_answer s node)

abbrev pub next_run_event : ScheduledMachine → Option MadeEvent
next_run_event r = next_event_of_optional_node r.state (node_to_run r)

-- a machine with its schedule after the next event, which this node makes; as it was where there is none
abbrev pub run_after_step : ScheduledMachine → Option NodeId → ScheduledMachine
run_after_step r None = r
run_after_step r (Some node) = record { state = state_after_step r.state node; schedule = schedule_after_event r.schedule node }

abbrev pub run_after_next_event : ScheduledMachine → ScheduledMachine
run_after_next_event r = run_after_step r (node_to_run r)

-- a machine with its schedule after `n` events
abbrev pub run_after_events : ScheduledMachine → ℕ → ScheduledMachine
run_after_events r zero = r
run_after_events r (suc events) = run_after_next_event (run_after_events r events)

-- each of the next `n` events can be made
abbrev pub CanMakeNextEvents : ScheduledMachine → ℕ → Type 0
CanMakeNextEvents r events = (k : ℕ) → k < events → IsSome (next_run_event (run_after_events r k))

-- the place of the first of the conditions that holds right after the next event
abbrev pub first_condition_held_by_event : List Condition → Option MadeEvent → MachineState → Option ℕ
first_condition_held_by_event until None s = None
first_condition_held_by_event until (Some made) s = first_holding_condition until made s

abbrev pub condition_held_after_next_event : List Condition → ScheduledMachine → Option ℕ
condition_held_after_next_event until r = first_condition_held_by_event until (next_run_event r) (run_after_next_event r).state

-- none of some conditions holds just after one of the first `n` events
abbrev pub HasNoConditionHeld : List Condition → ScheduledMachine → ℕ → Type 0
HasNoConditionHeld until r events = (k : ℕ) → k < events → condition_held_after_next_event until (run_after_events r k) ≡ None

-- no node has an event
abbrev pub IsQuiescent : List NodeRecord → Type 0
IsQuiescent chip = (n : ℕ) → n < 144 → node_has_event chip n ≡ false

-- a step is refused for this reason, or memory is refused to a step that could be made
abbrev pub IsStepRefusedFor : LabFault → Result MadeEvent LabFault → Type 0
IsStepRefusedFor why answer = (answer ≡ Err why) ⊎ ((why ≡ Memory) × IsOk answer)

-- why no event follows in a run
abbrev pub IsRunEndWithoutNextEvent : ScheduledMachine → RunEnd → Type 0
IsRunEndWithoutNextEvent r the_end.Quiet = IsQuiescent (chip_of_machine r.state)
IsRunEndWithoutNextEvent r (the_end.Refused why) = (node : NodeId) × (node_to_run r ≡ Some node) × IsStepRefusedFor why (step_answer r.state node)
IsRunEndWithoutNextEvent r (the_end.ConditionHeld made which) = ⊥
IsRunEndWithoutNextEvent r the_end.MadeRequestedEvents = ⊥

-- how a run ended after `n` events, of at most the requested number
abbrev pub HasRunEnded : ScheduledMachine → ℕ → List Condition → ℕ → RunEnd → Type 0
HasRunEnded r most until events (the_end.ConditionHeld made which) =
    (k : ℕ) × (events ≡ k + 1) × HasNoConditionHeld until r k × (next_run_event (run_after_events r k) ≡ Some made) × (condition_held_after_next_event until (run_after_events r k) ≡ Some which)
HasRunEnded r most until events the_end.MadeRequestedEvents = (events ≡ most) × HasNoConditionHeld until r events
HasRunEnded r most until events the_end.Quiet = (events < most) × HasNoConditionHeld until r events × IsRunEndWithoutNextEvent (run_after_events r events) the_end.Quiet
HasRunEnded r most until events (the_end.Refused why) = (events < most) × HasNoConditionHeld until r events × IsRunEndWithoutNextEvent (run_after_events r events) (the_end.Refused why)
