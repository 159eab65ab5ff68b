-- The text about expectations, one line more.
use Rattle.std.proofs.Common.{◌≡◌, ℕ, ◌+◌, ◌<◌, Bool, List, [], ◌∷◌, ◌++◌, length, get_or, drop, Option, None, refl, sym, ◌∙◌, ap, arith}
use Rattle.std.proofs.lemmas.List.{drop_more}
use Rattle.ga_state_expectations.specs.declared.source.LineExpectation.{LineExpectation}
use Rattle.ga_check_report.specs.declared.outcome.ExpectationOutcome.{ExpectationOutcome}
use Rattle.ga_check_report.specs.declared.outcome.ExpectationOutcome.TheVariants.{Unknown}
use Rattle.ga_lab.specs.Machine.{MachineState, chip_of_machine}
use Rattle.ga_lab.specs.declared.fault.LabFault.TheVariants.{Memory}
use Rattle.ga_console.specs.declared.run.Status.TheVariants.{ImageRefused}
use Rattle.ga_state_ends.specs.Decisions.{EndDecision}
use Rattle.ga_state_ends.specs.Ends.{EndSearchResult, AreEndsOfChip}
use Rattle.ga_check_report.specs.declared.report.Verdict.{Verdict}
use Rattle.ga_check_report.specs.declared.report.Verdict.TheVariants.{FailedWithStatus}
use Rattle.ga_check_report.specs.Checking.{IsWrittenWithVerdictOrFails, WritesEndsReport}
use Rattle.ga_check_report.specs.Checking.WritesEndsReport.{no_memory as ends_without_memory}
use Rattle.ga_check_report.specs.Expected.{WritesExpectationsReport, WritesProgramCheckReport}
use Rattle.ga_check_report.specs.Expected.WritesExpectationsReport.{all, no_memory}
use Rattle.ga_check_report.specs.Outcomes.{AreExpectationOutcomes}
use Rattle.ga_check_report.specs.inner.{WritesExpectationOutcomes}
use Rattle.ga_check_report.specs.inner.WritesExpectationOutcomes.{decided, undecided}
use Rattle.ga_check_report.specs.declared.request.CheckRequest.{CheckRequest}
use Rattle.ga_check_report.specs.Answers.{refusal_answer}
use Rattle.ga_check_report.specs.EndTexts.{is_fully_explored}
use Rattle.ga_check_report.specs.ExpectationTexts.{expectation_with_decision_lines, expectations_lines_text, expectations_header, optional_search_stop_text, expectations_text}

pub next_line : (whole : Bool) (outcomes : List ExpectationOutcome) (decisions : List (Option EndDecision)) (expectations : List LineExpectation) (i : ℕ) (one : LineExpectation)
    (outcome : ExpectationOutcome) (decision : Option EndDecision) → one ≡ get_or expectations i one → i < length expectations → outcome ≡ get_or outcomes i Unknown
    → decision ≡ get_or decisions i None
    → expectations_lines_text whole outcomes decisions i (drop i expectations)
    ≡ expectation_with_decision_lines whole (i + 1) one outcome decision ++ expectations_lines_text whole outcomes decisions (i + 1) (drop (i + 1) expectations)
next_line whole outcomes decisions expectations i one outcome decision at within is decides =
    let rest = expectations_lines_text whole outcomes decisions (i + 1) (drop (i + 1) expectations) in
    ap (expectations_lines_text whole outcomes decisions i) (drop_more expectations i one within)
    ∙ ap (λ (x : LineExpectation). expectation_with_decision_lines whole (i + 1) x (get_or outcomes i Unknown) (get_or decisions i None) ++ rest) (sym at)
    ∙ ap (λ (x : ExpectationOutcome). expectation_with_decision_lines whole (i + 1) one x (get_or decisions i None) ++ rest) (sym is)
    ∙ ap (λ (x : Option EndDecision). expectation_with_decision_lines whole (i + 1) one outcome x ++ rest) (sym decides)

-- the answer by its head and whether each state was explored
pub answer_as : (request : CheckRequest) (found : EndSearchResult) (expectations : List LineExpectation) (outcomes : List ExpectationOutcome) (decisions : List (Option EndDecision))
    (whole : Bool) (head : List ℕ) (states : ℕ) → whole ≡ is_fully_explored found.fault → states ≡ length found.searched.chips
    → head ≡ expectations_header whole states (length expectations)
    → head ++ expectations_lines_text whole outcomes decisions 0 expectations ++ optional_search_stop_text request found.fault
    ≡ expectations_text request found expectations outcomes decisions
answer_as request found expectations outcomes decisions whole head states explored stored is =
    ap (λ (z : List ℕ). z ++ expectations_lines_text whole outcomes decisions 0 expectations ++ optional_search_stop_text request found.fault) is
    ∙ ap (λ (n : ℕ). expectations_header whole n (length expectations) ++ expectations_lines_text whole outcomes decisions 0 expectations ++ optional_search_stop_text request found.fault) stored
    ∙ ap (λ (b : Bool). expectations_header b (length found.searched.chips) (length expectations) ++ expectations_lines_text b outcomes decisions 0 expectations
    ++ optional_search_stop_text request found.fault) explored

-- the report by what is known, and what decides
pub by_outcomes : (request : CheckRequest) (found : EndSearchResult) (expectations : List LineExpectation) (outcomes : List ExpectationOutcome) (s : MachineState) (text : List ℕ)
    (verdict : Verdict) → AreEndsOfChip (chip_of_machine s) found → AreExpectationOutcomes s found expectations outcomes → WritesExpectationOutcomes request found expectations outcomes text verdict
    → WritesExpectationsReport request expectations 0 s text verdict
by_outcomes request found expectations outcomes s text verdict are known (decided decisions decides out) = all found outcomes decisions are known decides refl out
by_outcomes request found expectations outcomes s text verdict are known (undecided out) = no_memory out

-- ---- a program with expectations, or without

pub without_memory : (request : CheckRequest) (expectations : List LineExpectation) (asked : ℕ) (s : MachineState) (text : List ℕ) (verdict : Verdict)
    → IsWrittenWithVerdictOrFails (refusal_answer request.format Memory) (FailedWithStatus ImageRefused) text verdict → WritesProgramCheckReport request expectations asked s text verdict
without_memory request [] asked s text verdict out = ends_without_memory out
without_memory request (one ∷ others) asked s text verdict out = no_memory out

pub with_expectations : (request : CheckRequest) (expectations : List LineExpectation) (asked : ℕ) (s : MachineState) (text : List ℕ) (verdict : Verdict) → 0 < length expectations
    → WritesExpectationsReport request expectations asked s text verdict → WritesProgramCheckReport request expectations asked s text verdict
with_expectations request [] asked s text verdict some report = absurd (omega arith)
with_expectations request (one ∷ others) asked s text verdict some report = report

pub without_expectations : (request : CheckRequest) (expectations : List LineExpectation) (asked : ℕ) (s : MachineState) (text : List ℕ) (verdict : Verdict) → length expectations ≡ 0
    → WritesEndsReport request asked s text verdict → WritesProgramCheckReport request expectations asked s text verdict
without_expectations request [] asked s text verdict none report = report
without_expectations request (one ∷ others) asked s text verdict none report = absurd (omega arith)
