-- A run up to the first event after which one of some conditions holds, where expectations are known (docs/REFERENCE.md, "Conditions"; this project's own).
use Rattle.std.specs.Prelude.{◌≡◌, ℕ, ◌+◌, ◌<◌, List, Option, Some, None}
use Rattle.ga_event.specs.declared.made.MadeEvent.{MadeEvent}
use Rattle.ga_lab.specs.Machine.{MachineState}
use Rattle.ga_scheduler.specs.declared.condition.Condition.{Condition}
use Rattle.ga_scheduler.specs.declared.running.RunEnd.{RunEnd}
use Rattle.ga_scheduler.specs.declared.running.RunEnd.TheVariants as the_end
use Rattle.ga_scheduler.specs.Running.{ScheduledMachine, next_run_event, run_after_next_event, run_after_events, IsRunEndWithoutNextEvent}
use Rattle.ga_state_expectations.specs.declared.source.LineExpectation.{LineExpectation}
use Rattle.ga_state_expectations.specs.Breaking.{first_condition_expecting}

-- the first condition that holds after an event, if there is one, on the machine after it
abbrev pub first_condition_after_optional_event : List LineExpectation → List Condition → Option MadeEvent → MachineState → Option ℕ
first_condition_after_optional_event expectations until None s = None
first_condition_after_optional_event expectations until (Some made) s = first_condition_expecting expectations until made s

-- after the next event of a run
abbrev pub first_condition_after_next_event : List LineExpectation → List Condition → ScheduledMachine → Option ℕ
first_condition_after_next_event expectations until r = first_condition_after_optional_event expectations until (next_run_event r) (run_after_next_event r).state

-- none holds after one of the first `n` events
abbrev pub HasNoConditionHeldExpecting : List LineExpectation → List Condition → ScheduledMachine → ℕ → Type 0
HasNoConditionHeldExpecting expectations until r events = (k : ℕ) → k < events → first_condition_after_next_event expectations until (run_after_events r k) ≡ None

-- how such a run ended after `n` events, of at most the requested number
abbrev pub HasExpectingRunEnded : List LineExpectation → List Condition → ScheduledMachine → ℕ → ℕ → RunEnd → Type 0
HasExpectingRunEnded expectations until r most events (the_end.ConditionHeld made which) =
    (k : ℕ) × (events ≡ k + 1) × HasNoConditionHeldExpecting expectations until r k × (next_run_event (run_after_events r k) ≡ Some made)
    × (first_condition_after_next_event expectations until (run_after_events r k) ≡ Some which)
HasExpectingRunEnded expectations until r most events the_end.MadeRequestedEvents = (events ≡ most) × HasNoConditionHeldExpecting expectations until r events
HasExpectingRunEnded expectations until r most events the_end.Quiet =
    (events < most) × HasNoConditionHeldExpecting expectations until r events × IsRunEndWithoutNextEvent (run_after_events r events) the_end.Quiet
HasExpectingRunEnded expectations until r most events (the_end.Refused why) =
    (events < most) × HasNoConditionHeldExpecting expectations until r events × IsRunEndWithoutNextEvent (run_after_events r events) (the_end.Refused why)
