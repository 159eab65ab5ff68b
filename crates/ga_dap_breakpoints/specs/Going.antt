-- How a move ends (Debug Adapter Protocol, "ContinueRequest", "NextRequest", "StepInRequest", "StepOutRequest",
-- "StoppedEvent"): after the first event that hits a breakpoint, is a stop that ends it, breaks an expectation, or completes it;
-- or when no event is enabled.
use Rattle.std.specs.Prelude.{◌≡◌, ℕ, zero, suc, ◌+◌, ◌<◌, Bool, true, false, ◌||◌, List, Option, Some, None}
use Rattle.ga_grid.specs.declared.node_id.NodeId.{NodeId}
use Rattle.ga_event.specs.declared.made.MadeEvent.{MadeEvent}
use Rattle.ga_lab.specs.Machine.{MachineState}
use Rattle.ga_debug_info.specs.declared.notes.DebugInfo.{DebugInfo}
use Rattle.ga_scheduler.specs.declared.watched.WatchedRunEnd.TheVariants as the_end
use Rattle.ga_scheduler.specs.Running.{ScheduledMachine}
use Rattle.ga_scheduler.specs.Watched.{next_event_with_precedence, run_after_event_with_precedence, run_after_events_with_precedence, IsPrecedenceRunEndWithoutNextEvent}
use Rattle.ga_state_expectations.specs.declared.source.LineExpectation.{LineExpectation}
use Rattle.ga_state_expectations.specs.Breaking.{line_broken_by_newest_event}
use Rattle.ga_dap_breakpoints.specs.declared.breakpoint.Breakpoint.{Breakpoint}
use Rattle.ga_dap_breakpoints.specs.declared.hits.HitTally.{HitTally}
use Rattle.ga_dap_breakpoints.specs.declared.stepping.StepMove.{StepMove}
use Rattle.ga_dap_breakpoints.specs.declared.going.HaltReason.{HaltReason}
use Rattle.ga_dap_breakpoints.specs.declared.going.HaltReason.TheVariants as the_halt
use Rattle.ga_dap_breakpoints.specs.Breakpoints.{tally_after_event, is_move_ending_stop, ends_move_early}
use Rattle.ga_dap_breakpoints.specs.Stepping.{completes_move, move_after_events}

-- the number of hits of each breakpoint after `n` events
abbrev pub tally_after_optional_event : List Breakpoint → HitTally → Option MadeEvent → MachineState → HitTally
tally_after_optional_event breakpoints tally None s = tally
tally_after_optional_event breakpoints tally (Some told) s = tally_after_event breakpoints told s tally

abbrev pub tally_after_events : Option NodeId → List Breakpoint → HitTally → ScheduledMachine → ℕ → HitTally
tally_after_events first breakpoints tally r zero = tally
tally_after_events first breakpoints tally r (suc events) =
    tally_after_optional_event breakpoints (tally_after_events first breakpoints tally r events) (next_event_with_precedence first (run_after_events_with_precedence first r events))
    (run_after_event_with_precedence first (run_after_events_with_precedence first r events)).state

-- A move: the node that is moved and has precedence, if it moves one; the breakpoints, and their hits after `n` events; the
-- expectations; whether the stop of any node ends it; and whether the event after `n` events completes it, by that event and the machine that it
-- left.
pub record MovePlan : Type 0 where
  pub node : Option NodeId
  pub breakpoints : List Breakpoint
  pub tally : ℕ → HitTally
  pub expectations : List LineExpectation
  pub stops : Bool
  pub ends : ℕ → MadeEvent → MachineState → Bool

-- a move ends after the event that follows `n` events
abbrev pub is_halting_event : MovePlan → ℕ → Option MadeEvent → MachineState → Bool
is_halting_event by k None s = false
is_halting_event by k (Some told) s = ends_move_early by.breakpoints by.expectations (by.tally k) by.stops by.node told s || by.ends k told s

abbrev pub halts_after_event : MovePlan → ScheduledMachine → ℕ → Bool
halts_after_event by r k = is_halting_event by k (next_event_with_precedence by.node (run_after_events_with_precedence by.node r k)) (run_after_event_with_precedence by.node (run_after_events_with_precedence by.node r k)).state

abbrev pub HasNoHaltBefore : MovePlan → ScheduledMachine → ℕ → Type 0
HasNoHaltBefore by r events = (k : ℕ) → k < events → halts_after_event by r k ≡ false

-- the event after `k` events is the first after which the move can end, and the last that was made
pub record IsFirstHalt (by : MovePlan) (r : ScheduledMachine) (events k : ℕ) (told : MadeEvent) : Type 0 where
  pub last : events ≡ k + 1
  pub before : HasNoHaltBefore by r k
  pub made : next_event_with_precedence by.node (run_after_events_with_precedence by.node r k) ≡ Some told

-- how a move ended after `k` of at most `events` events
abbrev pub IsMoveResult : MovePlan → ScheduledMachine → ℕ → ℕ → HaltReason → Type 0
IsMoveResult by r most events (the_halt.HitBreakpoint told which) =
    (k : ℕ) × IsFirstHalt by r events k told × ((tally_after_event by.breakpoints told (run_after_event_with_precedence by.node (run_after_events_with_precedence by.node r k)).state (by.tally k)).hit ≡ Some which)
IsMoveResult by r most events (the_halt.NodeStopped told) =
    (k : ℕ) × IsFirstHalt by r events k told × ((tally_after_event by.breakpoints told (run_after_event_with_precedence by.node (run_after_events_with_precedence by.node r k)).state (by.tally k)).hit ≡ None)
    × (is_move_ending_stop by.stops by.node told ≡ true)
IsMoveResult by r most events (the_halt.BrokeExpectation told line) =
    (k : ℕ) × IsFirstHalt by r events k told × ((tally_after_event by.breakpoints told (run_after_event_with_precedence by.node (run_after_events_with_precedence by.node r k)).state (by.tally k)).hit ≡ None)
    × (is_move_ending_stop by.stops by.node told ≡ false)
    × (line_broken_by_newest_event by.expectations (run_after_event_with_precedence by.node (run_after_events_with_precedence by.node r k)).state ≡ Some line)
IsMoveResult by r most events (the_halt.CompletedMove told) =
    (k : ℕ) × IsFirstHalt by r events k told × ((tally_after_event by.breakpoints told (run_after_event_with_precedence by.node (run_after_events_with_precedence by.node r k)).state (by.tally k)).hit ≡ None)
    × (is_move_ending_stop by.stops by.node told ≡ false)
    × (line_broken_by_newest_event by.expectations (run_after_event_with_precedence by.node (run_after_events_with_precedence by.node r k)).state ≡ None)
    × (by.ends k told (run_after_event_with_precedence by.node (run_after_events_with_precedence by.node r k)).state ≡ true)
IsMoveResult by r most events the_halt.SliceEnded = (events ≡ most) × HasNoHaltBefore by r events
IsMoveResult by r most events the_halt.Quiet = (events < most) × HasNoHaltBefore by r events × IsPrecedenceRunEndWithoutNextEvent by.node (run_after_events_with_precedence by.node r events) the_end.Quiet
IsMoveResult by r most events (the_halt.Refused why) =
    (events < most) × HasNoHaltBefore by r events × IsPrecedenceRunEndWithoutNextEvent by.node (run_after_events_with_precedence by.node r events) (the_end.Refused why)

-- `continue`: a move that ends by breakpoints, expectations and stops alone
abbrev pub continue_plan : List Breakpoint → List LineExpectation → HitTally → Bool → ScheduledMachine → MovePlan
continue_plan breakpoints expectations tally stops r =
    record { node = None; breakpoints = breakpoints; tally = tally_after_events None breakpoints tally r; expectations = expectations; stops = stops; ends = λ k told s. false }

-- a move of a node, that is so when a run begins
abbrev pub step_plan : DebugInfo → List Breakpoint → List LineExpectation → HitTally → Bool → StepMove → ScheduledMachine → MovePlan
step_plan notes breakpoints expectations tally stops by r =
    record {
      node = Some by.node;
      breakpoints = breakpoints;
      tally = tally_after_events (Some by.node) breakpoints tally r;
      expectations = expectations;
      stops = stops;
      ends = λ k told s. completes_move notes (move_after_events by r k) told s;
    }
