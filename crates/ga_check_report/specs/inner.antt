-- What private contracts cite: the session of one expectation, the conditions of one and the sides that its node awaits, and a program that is opened.
use Rattle.std.specs.Prelude.{ℕ, ◌≡◌, ◌-◌, List, [], ◌∷◌, ◌++◌, slice_get, Option, Some, None, Result, Ok, Err, codes}
use Rattle.ga_text.specs.Lines.{Bytes, Text}
use Rattle.ga_text.specs.Input.{UnreadInput}
use Rattle.ga_console.specs.declared.run.Status.{Status}
use Rattle.ga_console.specs.declared.run.Status.TheVariants as status
use Rattle.ga_explorer.specs.Opening.{ExplorerState, IsSessionOpenResult}
use Rattle.ga_lab.specs.Machine.{MachineState}
use Rattle.ga_lab.specs.declared.fault.LabFault.TheVariants as fault
use Rattle.ga_state_ends.specs.Decisions.{EndDecision}
use Rattle.ga_state_ends.specs.Ends.{EndSearchResult}
use Rattle.ga_state_conditions.specs.declared.condition.StateCondition.{StateCondition}
use Rattle.ga_state_expectations.specs.declared.source.Expectation.{Expectation}
use Rattle.ga_state_expectations.specs.declared.source.Expectation.TheVariants.{NodeAtEveryEnd, Never, LinkPassesWords, EveryOrderEnds, OneEnd}
use Rattle.ga_state_expectations.specs.declared.source.LineExpectation.{LineExpectation}
use Rattle.ga_check_report.specs.declared.request.CheckRequest.{CheckRequest}
use Rattle.ga_check_report.specs.declared.outcome.Breach.{Breach}
use Rattle.ga_check_report.specs.declared.outcome.Breach.TheVariants.{Unmet, Reached, OverLink, Endless, SeveralEnds}
use Rattle.ga_check_report.specs.declared.outcome.ExpectationOutcome.{ExpectationOutcome}
use Rattle.ga_check_report.specs.declared.outcome.ExpectationOutcome.TheVariants.{Holds, Broken, Unknown}
use Rattle.ga_check_report.specs.declared.report.Verdict.{Verdict}
use Rattle.ga_check_report.specs.declared.report.Verdict.TheVariants.{FailedWithStatus}
use Rattle.ga_check_report.specs.Answers.{refusal_answer, expectations_answer}
use Rattle.ga_check_report.specs.BreachDecisions.{AreDecisionsOfBreaches}
use Rattle.ga_check_report.specs.Checking.{IsWrittenWithVerdictOrFails}
use Rattle.ga_check_report.specs.Outcomes.{expectations_verdict}
use Rattle.ga_json.specs.declared.format.ReportFormat.{ReportFormat}
use Rattle.ga_check_report.specs.Opened.{IsUnopenedProgramAnswer}
use Rattle.ga_check_report.specs.Expected.{WritesExpectationsReport}

-- the text about a machine by the number of this expectation, wherever it is listed
abbrev pub WritesSessionOfExpectation : CheckRequest → LineExpectation → ℕ → MachineState → Text → Verdict → Type 0
WritesSessionOfExpectation request one asked s text verdict =
    (expectations : List LineExpectation) → slice_get expectations (asked - 1) ≡ Some one → WritesExpectationsReport request expectations asked s text verdict

-- The text is what is known of the expectations and what decides that they are broken; or there was no memory for that.
pub data WritesExpectationOutcomes (request : CheckRequest) (found : EndSearchResult) (expectations : List LineExpectation) (outcomes : List ExpectationOutcome) (text : Text)
    (verdict : Verdict) : Type 0 where
  decided : (decisions : List (Option EndDecision)) → AreDecisionsOfBreaches found expectations outcomes decisions
      → IsWrittenWithVerdictOrFails (expectations_answer request found expectations outcomes decisions) (expectations_verdict request found outcomes) text verdict
      → WritesExpectationOutcomes request found expectations outcomes text verdict
  undecided : IsWrittenWithVerdictOrFails (refusal_answer request.format fault.Memory) (FailedWithStatus status.ImageRefused) text verdict
      → WritesExpectationOutcomes request found expectations outcomes text verdict

-- the expectation is that none of these conditions ever holds
abbrev pub IsNeverOfConditions : List StateCondition → Expectation → Type 0
IsNeverOfConditions conditions (NodeAtEveryEnd expectation) = ⊥
IsNeverOfConditions conditions (Never listed) = listed.items ≡ conditions
IsNeverOfConditions conditions (LinkPassesWords expected) = ⊥
IsNeverOfConditions conditions EveryOrderEnds = ⊥
IsNeverOfConditions conditions OneEnd = ⊥

-- a program was opened, or not
abbrev pub IsProgramOpenResult : ReportFormat → ℕ → Bytes → UnreadInput → Bytes → Text → Result ExplorerState Status → Type 0
IsProgramOpenResult format limit left input rest written (Ok begun) = IsSessionOpenResult None limit left input rest written (Ok begun)
IsProgramOpenResult format limit left input rest written (Err status) = (read : Bytes) × (left ≡ read ++ rest) × IsUnopenedProgramAnswer format read rest written status

-- what standard error has of a program that ends with this status; if a refused one has no reason, then that no memory was left for it
abbrev pub refusal_reason_lines : Status → Text → Text → Text
refusal_reason_lines status.ImageRefused [] [] = codes "ga144: no memory\n"
refusal_reason_lines status.ImageRefused [] (byte ∷ told) = byte ∷ told
refusal_reason_lines status.ImageRefused (byte ∷ reason) told = told
refusal_reason_lines status.Done reason told = told
refusal_reason_lines status.StreamFault reason told = told
refusal_reason_lines status.NotFinished reason told = told
refusal_reason_lines status.CommandRefused reason told = told
