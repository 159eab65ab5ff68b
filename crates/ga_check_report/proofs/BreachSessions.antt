-- Sessions that lead to what breaks an expectation.
use Rattle.std.proofs.Common.{◌≡◌, ◌∙◌, ℕ, false, List, Some, sym, subst}
use Rattle.std.proofs.lemmas.Option.{same_Some}
use Rattle.ga_node.specs.Record.{NodeRecord}
use Rattle.ga_event.specs.declared.event.Event.{Event}
use Rattle.ga_event.specs.Apply.{replay}
use Rattle.ga_lab.specs.Machine.{MachineState, chip_of_machine}
use Rattle.ga_explorer_text.specs.Saved.{saved_session_text}
use Rattle.ga_state_ends.specs.Ends.{EndSearchResult, AreEndsOfChip}
use Rattle.ga_state_expectations.specs.declared.expectation.NodeExpectation.{NodeExpectation}
use Rattle.ga_state_expectations.specs.declared.source.Expectation.{Expectation}
use Rattle.ga_state_expectations.specs.declared.source.Expectation.TheVariants.{NodeAtEveryEnd}
use Rattle.ga_state_expectations.specs.declared.source.LineExpectation.{LineExpectation}
use Rattle.ga_state_expectations.specs.Expectations.{meets_expectation_on_chip}
use Rattle.ga_state_expectations.specs.Recurrent.{IsRecurrentChip}
use Rattle.ga_state_expectations.specs.Unmet.{IsExpectationUnmetAt}
use Rattle.ga_state_expectations.proofs.Interleavings.{unmet_there}
use Rattle.ga_check_report.specs.declared.outcome.ExpectationOutcome.{ExpectationOutcome}
use Rattle.ga_check_report.specs.declared.report.Verdict.{Verdict}
use Rattle.ga_check_report.specs.declared.request.CheckRequest.{CheckRequest}
use Rattle.ga_check_report.specs.declared.report.Verdict.TheVariants.{SessionWritten}
use Rattle.ga_check_report.specs.Checking.{HasAppendedEvents, IsWrittenWithVerdictOrFails}
use Rattle.ga_check_report.specs.EndTexts.{is_fully_explored}
use Rattle.ga_check_report.specs.ExpectationTexts.{unbroken_expectation_text}
use Rattle.ga_check_report.specs.Outcomes.{IsExpectationOutcome}
use Rattle.ga_check_report.specs.Expected.{LeadsToBreach, unbroken_expectation_verdict}
use Rattle.ga_check_report.specs.Expected.WritesExpectationsReport.{led, unbroken}
use Rattle.ga_check_report.specs.inner.{WritesSessionOfExpectation}

pub led_to_unmet : (s t : MachineState) (found : EndSearchResult) (expectation : NodeExpectation) (state : ℕ) (before events : List Event) → AreEndsOfChip (chip_of_machine s) found
    → (unmet : IsExpectationUnmetAt found expectation state before) → replay (chip_of_machine s) events ≡ Some unmet.chip → HasAppendedEvents s events t → replay (chip_of_machine s) events ≡ Some (chip_of_machine t)
    → LeadsToBreach s (NodeAtEveryEnd expectation) t
led_to_unmet s t found expectation state before events are unmet leads made there =
    let it = unmet_there (chip_of_machine s) found are expectation state before unmet.at_end.stored unmet.chip unmet unmet.at_end.at_end.at unmet.at_end.leads in
    let same : unmet.chip ≡ chip_of_machine t = same_Some unmet.chip (chip_of_machine t) (sym leads ∙ there) in (
      events,
      made,
      subst (λ (c : List NodeRecord). IsRecurrentChip c) same it.1,
      subst (λ (c : List NodeRecord). meets_expectation_on_chip expectation c ≡ false) same it.2,
    )

-- the session of an expectation
pub led_session : (request : CheckRequest) (s last : MachineState) (one : LineExpectation) (expectation : Expectation) (asked : ℕ) (text : List ℕ) (verdict : Verdict) → one.expectation ≡ expectation
    → LeadsToBreach s expectation last → IsWrittenWithVerdictOrFails (saved_session_text last) SessionWritten text verdict → WritesSessionOfExpectation request one asked s text verdict
led_session request s last one expectation asked text verdict is leads out = λ expectations at.
    led one last at (subst (λ (e : Expectation). LeadsToBreach s e last) (sym is) leads) out

-- no session leads to what breaks it
pub no_session : (request : CheckRequest) (s : MachineState) (found : EndSearchResult) (one : LineExpectation) (expectation : Expectation) (asked : ℕ) (outcome : ExpectationOutcome) (text : List ℕ) (verdict : Verdict)
    → one.expectation ≡ expectation → AreEndsOfChip (chip_of_machine s) found → IsExpectationOutcome s found expectation outcome
    → IsWrittenWithVerdictOrFails (unbroken_expectation_text (is_fully_explored found.fault) asked one outcome) (unbroken_expectation_verdict outcome) text verdict → WritesSessionOfExpectation request one asked s text verdict
no_session request s found one expectation asked outcome text verdict is are known out = λ expectations at.
    unbroken found one outcome are at (subst (λ (e : Expectation). IsExpectationOutcome s found e outcome) (sym is) known) out
