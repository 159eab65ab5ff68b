-- What `ga144 check --never` may write, and how it may end (docs/REFERENCE.md, "Every order"; this project's own).
use Rattle.std.specs.Prelude.{◌≡◌, ℕ, Bool, if◌then◌else◌, List, [], ◌++◌, length, Result, Ok, Err}
use Rattle.ga_text.specs.Lines.{Bytes, Text}
use Rattle.ga_event.specs.declared.event.Event.{Event}
use Rattle.ga_event.specs.declared.made.MadeEvent.{MadeEvent}
use Rattle.ga_lab.specs.Machine.{MachineState, chip_of_machine, made_next_event, machine_with_event}
use Rattle.ga_lab.specs.declared.fault.LabFault.TheVariants as fault
use Rattle.ga_console.specs.declared.run.Status.{Status}
use Rattle.ga_console.specs.declared.run.Status.TheVariants.{ImageRefused}
use Rattle.ga_explorer.specs.Opening.{OpensExplorer, IsTextBeforeCommands, ExplorerState}
use Rattle.ga_state_ends.specs.Ends.{EndSearchResult, AreEndsOfChip}
use Rattle.ga_state_conditions.specs.declared.asked.ConditionFault.{ConditionFault}
use Rattle.ga_state_conditions.specs.declared.condition.StateCondition.{StateCondition}
use Rattle.ga_state_conditions.specs.Asked.{parsed_state_conditions}
use Rattle.ga_state_conditions.specs.Reached.{IsConditionReachedOnChip, HasNoReachedEvent}
use Rattle.ga_check_report.specs.declared.request.CheckRequest.{CheckRequest}
use Rattle.ga_check_report.specs.declared.report.Verdict.{Verdict}
use Rattle.ga_check_report.specs.declared.report.Verdict.TheVariants.{Clean, Unclean, Unknown, FailedWithStatus}
use Rattle.ga_check_report.specs.Checking.{HasAppendedEvents, IsWrittenWithVerdictOrFails}
use Rattle.ga_check_report.specs.EndTexts.{is_fully_explored}
use Rattle.ga_check_report.specs.Answers.{refusal_answer, unreached_event_answer, reached_event_answer}
use Rattle.ga_check_report.specs.Opened.{IsUnopenedProgramAnswer}
use Rattle.ga_check_report.specs.Settled.{check_start_state}

-- no such event comes, or it isn't known
abbrev pub unreached_event_verdict : EndSearchResult → Verdict
unreached_event_verdict found = if is_fully_explored found.fault then Clean else Unknown

-- Events led the machine to one on which the event was enabled, and it made the event: that meets the condition at this place.
pub record HasReachedEvent (conditions : List StateCondition) (which : ℕ) (old new : MachineState) (made : MadeEvent) : Type 0 where
  pub events : List Event
  pub before : MachineState
  pub led : HasAppendedEvents old events before
  pub event : Event
  pub reached : IsConditionReachedOnChip conditions which (chip_of_machine before) event
  pub report : made ≡ made_next_event before event
  pub leads : new ≡ machine_with_event before (Ok event)

-- The text about a machine: that no event was found that meets one of the conditions; or the one that was, or its session; or that there was no
-- memory; or that the machine keeps fewer events than the session has.
pub data WritesNeverCheckReport (request : CheckRequest) (conditions : List StateCondition) (session : Bool) (s : MachineState) (text : Text) (verdict : Verdict) : Type 0 where
  none : (found : EndSearchResult) → AreEndsOfChip (chip_of_machine s) found → HasNoReachedEvent found conditions
      → IsWrittenWithVerdictOrFails (unreached_event_answer request found) (unreached_event_verdict found) text verdict → WritesNeverCheckReport request conditions session s text verdict
  one : (which : ℕ) (last : MachineState) (made : MadeEvent) → HasReachedEvent conditions which s last made
      → IsWrittenWithVerdictOrFails (reached_event_answer request.format session (length conditions) which made last) Unclean text verdict → WritesNeverCheckReport request conditions session s text verdict
  no_memory : IsWrittenWithVerdictOrFails (refusal_answer request.format fault.Memory) (FailedWithStatus ImageRefused) text verdict → WritesNeverCheckReport request conditions session s text verdict
  too_long : IsWrittenWithVerdictOrFails (refusal_answer request.format fault.Full) (FailedWithStatus ImageRefused) text verdict → WritesNeverCheckReport request conditions session s text verdict

-- The text by the conditions of a text; none if that has a fault.
abbrev pub WritesReportForConditions : Result (List StateCondition) ConditionFault → CheckRequest → Bool → MachineState → Text → Result Verdict ConditionFault → Type 0
WritesReportForConditions (Ok conditions) request session s text (Ok verdict) = WritesNeverCheckReport request conditions session s text verdict
WritesReportForConditions (Ok conditions) request session s text (Err why) = ⊥
WritesReportForConditions (Err fault) request session s text (Ok verdict) = ⊥
WritesReportForConditions (Err fault) request session s text (Err why) = (text ≡ []) × (why ≡ fault)

-- An image or source was accepted, and the text is about its machine, from where its idle nodes waited if they were to. Nothing is done with what
-- was read after it.
pub record IsNeverReportOfProgram (request : CheckRequest) (limit : ℕ) (settles : Bool) (asked : Text) (session : Bool) (read rest : Bytes) (written : Text)
    (verdict : Result Verdict ConditionFault) : Type 0 where
  pub text : Text
  pub ahead : Bytes
  pub begun : ExplorerState
  pub splits : read ≡ text ++ ahead
  pub front : IsTextBeforeCommands text (ahead ++ rest)
  pub opens : OpensExplorer text limit begun
  pub tells : WritesReportForConditions (parsed_state_conditions begun.notes asked) request session (check_start_state settles begun.lab) written verdict

-- What may have been written, where read was read of the input and rest is left of it, and the verdict.
pub data IsNeverCheckOutcome (request : CheckRequest) (limit : ℕ) (settles : Bool) (asked : Text) (session : Bool) (read rest : Bytes) (written : Text)
    (verdict : Result Verdict ConditionFault) : Type 0 where
  checked : IsNeverReportOfProgram request limit settles asked session read rest written verdict → IsNeverCheckOutcome request limit settles asked session read rest written verdict
  unbegun : (status : Status) → verdict ≡ Ok (FailedWithStatus status) → IsUnopenedProgramAnswer request.format read rest written status
      → IsNeverCheckOutcome request limit settles asked session read rest written verdict
