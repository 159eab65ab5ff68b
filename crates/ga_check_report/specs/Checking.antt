-- What `ga144 check` may write, and how it may end (docs/REFERENCE.md, "Every order"; this project's own). The text has the ends of all
-- interleavings of the nodes, found by a selective search of states (Godefroid, "Partial-Order Methods for the Verification of Concurrent
-- Systems", 1996).
use Rattle.std.specs.Prelude.{◌≡◌, ℕ, ◌-◌, ◌<◌, ◌⊎◌, Bool, if◌then◌else◌, List, ◌++◌, length, slice_get, Some}
use Rattle.std.specs.List.{list_any}
use Rattle.ga_text.specs.Lines.{Bytes, Text}
use Rattle.ga_text.specs.Output.{TextHasPrefix}
use Rattle.ga_event.specs.declared.event.Event.{Event}
use Rattle.ga_lab.specs.Machine.{MachineState, chip_of_machine}
use Rattle.ga_lab.specs.declared.fault.LabFault.TheVariants as fault
use Rattle.ga_console.specs.declared.run.Status.{Status}
use Rattle.ga_console.specs.declared.run.Status.TheVariants.{ImageRefused, StreamFault}
use Rattle.ga_explorer_text.specs.Saved.{saved_session_text}
use Rattle.ga_explorer.specs.Opening.{OpensExplorer, IsTextBeforeCommands, ExplorerState}
use Rattle.ga_state_ends.specs.Ends.{EndSearchResult, AreEndsOfChip, is_unclean}
use Rattle.ga_state_ends.specs.declared.end_kind.EndKind.{EndKind}
use Rattle.ga_check_report.specs.declared.request.CheckRequest.{CheckRequest}
use Rattle.ga_check_report.specs.declared.report.Verdict.{Verdict}
use Rattle.ga_check_report.specs.declared.report.Verdict.TheVariants.{Clean, Unclean, Unknown, SessionWritten, FailedWithStatus}
use Rattle.ga_check_report.specs.EndTexts.{no_such_end_kind_text, is_fully_explored}
use Rattle.ga_check_report.specs.Answers.{refusal_answer, ends_answer}
use Rattle.ga_check_report.specs.SameEnd.{verdict_with_single_end_outcome}
use Rattle.ga_check_report.specs.Opened.{IsUnopenedProgramAnswer}
use Rattle.ga_check_report.specs.Settled.{check_start_state}

-- ---- the verdict

-- an end that isn't clean was found; or there is none; or there may be others
abbrev pub end_kinds_verdict : EndSearchResult → Verdict
end_kinds_verdict found =
    if list_any is_unclean found.kinds then Unclean
    else if is_fully_explored found.fault then Clean
    else Unknown

-- and where `--same` asks for one end
abbrev pub ends_verdict : CheckRequest → EndSearchResult → Verdict
ends_verdict request found = verdict_with_single_end_outcome request.same found (end_kinds_verdict found)

-- the verdict where no kind of end has the number: there is none, or there may be one
abbrev pub missing_end_kind_verdict : EndSearchResult → Verdict
missing_end_kind_verdict found = if is_fully_explored found.fault then FailedWithStatus ImageRefused else Unknown

-- ---- the session of a kind of end

-- the machine keeps these events more, and else is as it was
pub record HasAppendedEvents (old : MachineState) (events : List Event) (new : MachineState) : Type 0 where
  pub load : new.load ≡ old.load
  pub limit : new.limit ≡ old.limit
  pub kept : new.kept ≡ old.kept ++ events

-- Events led the machine to the first end of the kind of this number, counted from 1.
pub record HasReachedEndOfNumberedKind (found : EndSearchResult) (asked : ℕ) (old new : MachineState) : Type 0 where
  pub kind : EndKind
  pub numbered : slice_get found.kinds (asked - 1) ≡ Some kind
  pub events : List Event
  pub made : HasAppendedEvents old events new
  pub there : slice_get found.searched.chips kind.state ≡ Some (chip_of_machine new)

-- ---- the text

-- a text was written whole, or that failed
abbrev pub IsWrittenWithVerdictOrFails : Text → Verdict → Text → Verdict → Type 0
IsWrittenWithVerdictOrFails whole verdict text end = ((text ≡ whole) × (end ≡ verdict)) ⊎ (TextHasPrefix whole text × (end ≡ FailedWithStatus StreamFault))

-- The text about a machine: the kinds of its ends; or the session of one that is named by its number; or that there is no such kind; or
-- that there was no memory; or that the machine keeps fewer events than the session has.
pub data WritesEndsReport (request : CheckRequest) (asked : ℕ) (s : MachineState) (text : Text) (verdict : Verdict) : Type 0 where
  all : (found : EndSearchResult) → AreEndsOfChip (chip_of_machine s) found → asked ≡ 0 → IsWrittenWithVerdictOrFails (ends_answer request found) (ends_verdict request found) text verdict
      → WritesEndsReport request asked s text verdict
  none : (found : EndSearchResult) → AreEndsOfChip (chip_of_machine s) found → length found.kinds < asked → IsWrittenWithVerdictOrFails (no_such_end_kind_text asked found) (missing_end_kind_verdict found) text verdict
      → WritesEndsReport request asked s text verdict
  led : (found : EndSearchResult) (last : MachineState) → AreEndsOfChip (chip_of_machine s) found → HasReachedEndOfNumberedKind found asked s last → IsWrittenWithVerdictOrFails (saved_session_text last) SessionWritten text verdict
      → WritesEndsReport request asked s text verdict
  no_memory : IsWrittenWithVerdictOrFails (refusal_answer request.format fault.Memory) (FailedWithStatus ImageRefused) text verdict → WritesEndsReport request asked s text verdict
  too_long : 0 < asked → IsWrittenWithVerdictOrFails (refusal_answer request.format fault.Full) (FailedWithStatus ImageRefused) text verdict → WritesEndsReport request asked s text verdict

-- An image or source was accepted, and the ends of its machine were written, from where its idle nodes waited if they were to. Nothing is done with
-- what was read after it.
pub record IsEndsReportOfProgram (request : CheckRequest) (limit : ℕ) (settles : Bool) (asked : ℕ) (read rest : Bytes) (written : Text) (verdict : Verdict) : Type 0 where
  pub text : Text
  pub ahead : Bytes
  pub begun : ExplorerState
  pub splits : read ≡ text ++ ahead
  pub front : IsTextBeforeCommands text (ahead ++ rest)
  pub opens : OpensExplorer text limit begun
  pub tells : WritesEndsReport request asked (check_start_state settles begun.lab) written verdict

-- What may have been written, where read was read of the input and rest is left of it, and the verdict.
pub data IsCheckOutcome (request : CheckRequest) (limit : ℕ) (settles : Bool) (asked : ℕ) (read rest : Bytes) (written : Text) (verdict : Verdict) : Type 0 where
  checked : IsEndsReportOfProgram request limit settles asked read rest written verdict → IsCheckOutcome request limit settles asked read rest written verdict
  unbegun : (status : Status) → verdict ≡ FailedWithStatus status → IsUnopenedProgramAnswer request.format read rest written status → IsCheckOutcome request limit settles asked read rest written verdict
