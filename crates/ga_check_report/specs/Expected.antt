-- What `ga144 check` may write of a program with expectations, and how it may end (docs/REFERENCE.md, "Every expectation"; this project's own).
use Rattle.std.specs.Prelude.{◌≡◌, ℕ, ◌-◌, ◌<◌, Bool, false, if◌then◌else◌, List, [], ◌∷◌, ◌++◌, length, map, slice_get, Option, Some, Ok}
use Rattle.ga_text.specs.Lines.{Bytes, Text}
use Rattle.ga_event.specs.declared.event.Event.{Event}
use Rattle.ga_event.specs.declared.made.MadeEvent.{MadeEvent}
use Rattle.ga_lab.specs.Machine.{MachineState, chip_of_machine}
use Rattle.ga_lab.specs.declared.fault.LabFault.TheVariants as fault
use Rattle.ga_console.specs.declared.run.Status.{Status}
use Rattle.ga_console.specs.declared.run.Status.TheVariants.{ImageRefused}
use Rattle.ga_debug_info.specs.declared.notes.DebugInfo.{DebugInfo}
use Rattle.ga_explorer_text.specs.Saved.{saved_session_text}
use Rattle.ga_explorer.specs.Opening.{OpensExplorer, IsTextBeforeCommands, ExplorerState}
use Rattle.ga_state_links.specs.declared.expectation.LinkFault.{LinkFault}
use Rattle.ga_state_links.specs.LinkExpectations.{IsLinkBreach}
use Rattle.ga_state_ends.specs.Decisions.{EndDecision}
use Rattle.ga_state_ends.specs.Ends.{EndSearchResult, AreEndsOfChip}
use Rattle.ga_state_expectations.specs.declared.source.Expectation.{Expectation}
use Rattle.ga_state_expectations.specs.declared.source.Expectation.TheVariants.{NodeAtEveryEnd, Never, LinkPassesWords, EveryOrderEnds, OneEnd}
use Rattle.ga_state_expectations.specs.declared.source.LineExpectation.{LineExpectation}
use Rattle.ga_state_expectations.specs.Expectations.{meets_expectation_on_chip}
use Rattle.ga_state_expectations.specs.Lines.{source_expectations, line_expectation_content}
use Rattle.ga_state_expectations.specs.Recurrent.{IsRecurrentChip}
use Rattle.ga_check_report.specs.declared.request.CheckRequest.{CheckRequest}
use Rattle.ga_check_report.specs.declared.outcome.ExpectationOutcome.{ExpectationOutcome}
use Rattle.ga_check_report.specs.declared.report.Verdict.{Verdict}
use Rattle.ga_check_report.specs.declared.report.Verdict.TheVariants.{Unknown, SessionWritten, FailedWithStatus}
use Rattle.ga_check_report.specs.Checking.{HasAppendedEvents, IsWrittenWithVerdictOrFails, WritesEndsReport}
use Rattle.ga_check_report.specs.EndTexts.{is_fully_explored}
use Rattle.ga_check_report.specs.ExpectationTexts.{no_such_expectation_text, unbroken_expectation_text}
use Rattle.ga_check_report.specs.Answers.{refusal_answer, expectations_answer}
use Rattle.ga_check_report.specs.BreachDecisions.{AreDecisionsOfBreaches}
use Rattle.ga_check_report.specs.Opened.{IsUnopenedProgramAnswer}
use Rattle.ga_check_report.specs.Never.{HasReachedEvent}
use Rattle.ga_check_report.specs.Outcomes.{is_outcome_unknown, IsExpectationOutcome, AreExpectationOutcomes, expectations_verdict}
use Rattle.ga_check_report.specs.Settled.{check_start_state}

-- Events led the machine to this one, on whose chip the expectation isn't met and to which the program can always come back; or an event that
-- came last meets one of the conditions; or the words that they transfer over a link break the expectation.
abbrev pub LeadsToBreach : MachineState → Expectation → MachineState → Type 0
LeadsToBreach s (NodeAtEveryEnd expectation) last =
    (events : List Event) × HasAppendedEvents s events last × IsRecurrentChip (chip_of_machine last) × (meets_expectation_on_chip expectation (chip_of_machine last) ≡ false)
LeadsToBreach s (Never conditions) last = (which : ℕ) × (made : MadeEvent) × HasReachedEvent conditions.items which s last made
LeadsToBreach s (LinkPassesWords expected) last =
    (events : List Event) × (place : ℕ) × (fault : LinkFault) × HasAppendedEvents s events last × IsLinkBreach (chip_of_machine s) expected events place fault
LeadsToBreach s EveryOrderEnds last = ⊥
LeadsToBreach s OneEnd last = ⊥

-- no session leads to what breaks the expectation: there is none, or it isn't known
abbrev pub unbroken_expectation_verdict : ExpectationOutcome → Verdict
unbroken_expectation_verdict outcome = if is_outcome_unknown outcome then Unknown else FailedWithStatus ImageRefused

-- The text about a machine: what is known of each expectation, and what decides that it is broken; or the session of one that is named by its number; or that no session leads to
-- what breaks it, or that there is no such expectation; or that there was no memory; or that the machine keeps fewer events than a session has.
pub data WritesExpectationsReport (request : CheckRequest) (expectations : List LineExpectation) (asked : ℕ) (s : MachineState) (text : Text) (verdict : Verdict) : Type 0 where
  all : (found : EndSearchResult) (outcomes : List ExpectationOutcome) (decisions : List (Option EndDecision)) → AreEndsOfChip (chip_of_machine s) found
      → AreExpectationOutcomes s found expectations outcomes → AreDecisionsOfBreaches found expectations outcomes decisions → asked ≡ 0
      → IsWrittenWithVerdictOrFails (expectations_answer request found expectations outcomes decisions) (expectations_verdict request found outcomes) text verdict
      → WritesExpectationsReport request expectations asked s text verdict
  led : (one : LineExpectation) (last : MachineState) → slice_get expectations (asked - 1) ≡ Some one → LeadsToBreach s one.expectation last
      → IsWrittenWithVerdictOrFails (saved_session_text last) SessionWritten text verdict → WritesExpectationsReport request expectations asked s text verdict
  unbroken : (found : EndSearchResult) (one : LineExpectation) (outcome : ExpectationOutcome) → AreEndsOfChip (chip_of_machine s) found
      → slice_get expectations (asked - 1) ≡ Some one → IsExpectationOutcome s found one.expectation outcome
      → IsWrittenWithVerdictOrFails (unbroken_expectation_text (is_fully_explored found.fault) asked one outcome) (unbroken_expectation_verdict outcome) text verdict
      → WritesExpectationsReport request expectations asked s text verdict
  missing : length expectations < asked → IsWrittenWithVerdictOrFails (no_such_expectation_text asked (length expectations)) (FailedWithStatus ImageRefused) text verdict
      → WritesExpectationsReport request expectations asked s text verdict
  no_memory : IsWrittenWithVerdictOrFails (refusal_answer request.format fault.Memory) (FailedWithStatus ImageRefused) text verdict → WritesExpectationsReport request expectations asked s text verdict
  too_long : IsWrittenWithVerdictOrFails (refusal_answer request.format fault.Full) (FailedWithStatus ImageRefused) text verdict → WritesExpectationsReport request expectations asked s text verdict

-- the text about a machine: of a program without expectations that about its ends
abbrev pub WritesProgramCheckReport : CheckRequest → List LineExpectation → ℕ → MachineState → Text → Verdict → Type 0
WritesProgramCheckReport request [] asked s text verdict = WritesEndsReport request asked s text verdict
WritesProgramCheckReport request (one ∷ others) asked s text verdict = WritesExpectationsReport request (one ∷ others) asked s text verdict

-- The text by the expectations of a source; or there was no memory for them; or one is faulty, which standard error says.
pub data WritesReportForDebugInfo (notes : Option DebugInfo) (request : CheckRequest) (asked : ℕ) (s : MachineState) (text : Text) (verdict : Verdict) : Type 0 where
  parsed : (expectations : List LineExpectation) → source_expectations notes ≡ Ok (map line_expectation_content expectations) → WritesProgramCheckReport request expectations asked s text verdict
      → WritesReportForDebugInfo notes request asked s text verdict
  unparsed : IsWrittenWithVerdictOrFails (refusal_answer request.format fault.Memory) (FailedWithStatus ImageRefused) text verdict → WritesReportForDebugInfo notes request asked s text verdict
  faulty : text ≡ [] → verdict ≡ FailedWithStatus ImageRefused → WritesReportForDebugInfo notes request asked s text verdict

-- An image or source was accepted, and the text is about its machine, from where its idle nodes waited if they were to. Nothing is done with what
-- was read after it.
pub record IsExpectationsOrEndsReport (request : CheckRequest) (limit : ℕ) (settles : Bool) (asked : ℕ) (read rest : Bytes) (written : Text) (verdict : Verdict) : Type 0 where
  pub text : Text
  pub ahead : Bytes
  pub begun : ExplorerState
  pub splits : read ≡ text ++ ahead
  pub front : IsTextBeforeCommands text (ahead ++ rest)
  pub opens : OpensExplorer text limit begun
  pub tells : WritesReportForDebugInfo begun.notes request asked (check_start_state settles begun.lab) written verdict

-- What may have been written, where read was read of the input and rest is left of it, and the verdict.
pub data IsProgramCheckOutcome (request : CheckRequest) (limit : ℕ) (settles : Bool) (asked : ℕ) (read rest : Bytes) (written : Text) (verdict : Verdict) : Type 0 where
  checked : IsExpectationsOrEndsReport request limit settles asked read rest written verdict → IsProgramCheckOutcome request limit settles asked read rest written verdict
  unbegun : (status : Status) → verdict ≡ FailedWithStatus status → IsUnopenedProgramAnswer request.format read rest written status
      → IsProgramCheckOutcome request limit settles asked read rest written verdict
