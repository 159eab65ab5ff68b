-- What `run` and `back until` do, with `broken` among their conditions or without (docs/REFERENCE.md, "Runs" and "Conditions"; this project's own).
-- `broken` is refused if the source expects nothing.
use Rattle.std.specs.Prelude.{◌≡◌, ℕ, ◌≤◌, Bool, true, false, List, map, codes, Option}
use Rattle.ga_text.specs.Lines.{Text}
use Rattle.ga_grid.specs.declared.node_id.NodeId.{NodeId}
use Rattle.ga_lab.specs.Machine.{MachineState}
use Rattle.ga_lab.specs.declared.fault.LabFault.TheVariants as fault
use Rattle.ga_debug_info.specs.declared.notes.DebugInfo.{DebugInfo}
use Rattle.ga_scheduler.specs.declared.schedule.Schedule.{Schedule}
use Rattle.ga_scheduler.specs.declared.condition.Condition.{Condition}
use Rattle.ga_scheduler.specs.declared.running.RunEnd.{RunEnd}
use Rattle.ga_scheduler.specs.declared.running.RunResult.{RunResult}
use Rattle.ga_scheduler.specs.Backward.{find_newest_matching_event, machine_after_back_until, event_count_removed_by_back_until}
use Rattle.ga_scheduler.specs.Running.{scheduled_machine, run_after_events, CanMakeNextEvents, HasRunEnded}
use Rattle.ga_state_expectations.specs.Runs.{HasExpectingRunEnded}
use Rattle.ga_display.specs.Texts.{advised_refusal_text}
use Rattle.ga_state_expectations.specs.declared.source.LineExpectation.{LineExpectation}
use Rattle.ga_state_expectations.specs.Lines.{line_expectation_content, known_expectations, expects_nothing}
use Rattle.ga_state_expectations.specs.Breaking.{has_broken_among, newest_event_expecting}
use Rattle.ga_explorer.specs.declared.expecting.ExpectingRefusal.{ExpectingRefusal}
use Rattle.ga_explorer.specs.declared.expecting.ExpectingRefusal.TheVariants.{NothingExpected, Memory}

-- these are the expectations of the source
pub record AreExpectationsOf (notes : Option DebugInfo) (expectations : List LineExpectation) : Type 0 where
  pub known : map line_expectation_content expectations ≡ known_expectations notes

-- ---- `run`

-- a run up to the first event after which one of the conditions holds ended so; with `broken` among them, the expectations of the source are known
abbrev pub HasRunEndedUntil : Bool → Option DebugInfo → MachineState → Schedule → ℕ → List Condition → ℕ → RunEnd → Type 0
HasRunEndedUntil false notes s schedule most until events end = HasRunEnded (scheduled_machine s schedule) most until events end
HasRunEndedUntil true notes s schedule most until events end =
    (expectations : List LineExpectation) × AreExpectationsOf notes expectations × HasExpectingRunEnded expectations until (scheduled_machine s schedule) most events end

-- Events were made in the order of the schedule, at most `most`, up to the first after which one of the conditions holds: their number, why no more were
-- made, and the machine and the schedule after them.
pub record IsRunOf (notes : Option DebugInfo) (s : MachineState) (schedule : Schedule) (most : ℕ) (until : List Condition) (ran : RunResult) (new : MachineState) : Type 0 where
  pub made : CanMakeNextEvents (scheduled_machine s schedule) ran.events
  pub within : ran.events ≤ most
  pub ended : HasRunEndedUntil (has_broken_among until) notes s schedule most until ran.events ran.end
  pub state : scheduled_machine new ran.schedule ≡ run_after_events (scheduled_machine s schedule) ran.events

-- `broken` is among the conditions, and the source expects nothing or memory was refused
abbrev pub IsRunRefused : Option DebugInfo → List Condition → ExpectingRefusal → Type 0
IsRunRefused notes until NothingExpected = (has_broken_among until ≡ true) × (expects_nothing notes ≡ true)
IsRunRefused notes until Memory = (has_broken_among until ≡ true) × (expects_nothing notes ≡ false)

abbrev pub expecting_refusal_text : ExpectingRefusal → Text
expecting_refusal_text NothingExpected = codes "no 35 noexpect: the source has no line expect; write one, as expect 001 t = 3\n"
expecting_refusal_text Memory = advised_refusal_text fault.Memory

-- ---- `back until`

-- the place of the event from which on events are removed, or of the step that is rolled back
abbrev pub IsPlaceToGoBack : Bool → Option DebugInfo → MachineState → List Condition → Option NodeId → Option ℕ → Type 0
IsPlaceToGoBack false notes s until only place = place ≡ find_newest_matching_event until only s
IsPlaceToGoBack true notes s until only place =
    (expectations : List LineExpectation) × AreExpectationsOf notes expectations × (place ≡ newest_event_expecting expectations until only s)

-- this number of events was removed, or there was no such event, and the machine without them
pub record IsBackOf (notes : Option DebugInfo) (s : MachineState) (until : List Condition) (only : Option NodeId) (gone : Option ℕ) (new : MachineState) : Type 0 where
  pub place : Option ℕ
  pub found : IsPlaceToGoBack (has_broken_among until) notes s until only place
  pub removed : gone ≡ event_count_removed_by_back_until only s place
  pub state : new ≡ machine_after_back_until only s place
