-- What `ga144 check` prints of the expectations of a program (docs/REFERENCE.md, "Every expectation"; this project's own): the numbers of states and
-- of expectations, the line of each with what decides that it is broken, and which bound was met.
use Rattle.std.specs.Prelude.{ℕ, ◌+◌, Bool, true, false, List, [], ◌∷◌, ◌++◌, length, codes, decimal, slice_index_or, Option, Some, None}
use Rattle.ga_text.specs.Lines.{Text}
use Rattle.ga_state_search.specs.declared.fault.SearchFault.{SearchFault}
use Rattle.ga_state_ends.specs.Decisions.{EndDecision}
use Rattle.ga_state_ends.specs.Ends.{EndSearchResult}
use Rattle.ga_state_expectations.specs.declared.source.LineExpectation.{LineExpectation}
use Rattle.ga_check_report.specs.declared.request.CheckRequest.{CheckRequest}
use Rattle.ga_explorer_text.specs.Observed.{observation_text, link_fault_text}
use Rattle.ga_explorer_text.specs.Expected.{expectation_line_start}
use Rattle.ga_check_report.specs.declared.outcome.Breach.{Breach}
use Rattle.ga_check_report.specs.declared.outcome.Breach.TheVariants.{Unmet, Reached, OverLink, Endless, SeveralEnds}
use Rattle.ga_check_report.specs.declared.outcome.ExpectationOutcome.{ExpectationOutcome}
use Rattle.ga_check_report.specs.declared.outcome.ExpectationOutcome.TheVariants.{Holds, Broken, Unknown}
use Rattle.ga_check_report.specs.DecisionTexts.{event_text_without_line_end, end_decision_text}
use Rattle.ga_check_report.specs.EndTexts.{counted_noun_text, at_least_text, is_fully_explored, search_stop_text}

-- ---- the line of an expectation, which has this number, from 1 on

abbrev pub session_option_text : ℕ → Text
session_option_text number = codes ": --session " ++ decimal number

-- what breaks it; if not each state was explored, there may be more ends
abbrev pub breach_text : Bool → ℕ → Breach → Text
breach_text whole number (Unmet state observation) = observation_text observation ++ session_option_text number
breach_text whole number (Reached made) = event_text_without_line_end made ++ session_option_text number
breach_text whole number (OverLink place fault) = link_fault_text place fault ++ session_option_text number
breach_text whole number Endless = codes "some order goes on for ever"
breach_text whole number (SeveralEnds ends) = at_least_text whole ++ decimal ends ++ codes " ends"

-- what is known of it
abbrev pub outcome_text : Bool → ℕ → ExpectationOutcome → Text
outcome_text whole number Holds = codes ": holds in every order\n"
outcome_text whole number (Broken breach) = codes ": broken, " ++ breach_text whole number breach ++ codes "\n"
outcome_text whole number Unknown = codes ": not known\n"

-- where it is, its words and what is known of it
abbrev pub expectation_line : Bool → ℕ → LineExpectation → ExpectationOutcome → Text
expectation_line whole number one outcome = expectation_line_start one.line ++ one.text.items ++ outcome_text whole number outcome

-- and what decides that it is broken
abbrev pub expectation_with_decision_lines : Bool → ℕ → LineExpectation → ExpectationOutcome → Option EndDecision → Text
expectation_with_decision_lines whole number one outcome decision = expectation_line whole number one outcome ++ end_decision_text decision

-- the lines of the expectations from this place on
abbrev pub expectations_lines_text : Bool → List ExpectationOutcome → List (Option EndDecision) → ℕ → List LineExpectation → Text
expectations_lines_text whole outcomes decisions place [] = []
expectations_lines_text whole outcomes decisions place (one ∷ others) =
    expectation_with_decision_lines whole (place + 1) one (slice_index_or outcomes place Unknown) (slice_index_or decisions place None)
    ++ expectations_lines_text whole outcomes decisions (place + 1) others

-- ---- the whole answer

-- the numbers of states and of expectations
abbrev pub expectations_header : Bool → ℕ → ℕ → Text
expectations_header whole states expectations =
    at_least_text whole ++ counted_noun_text states (codes " state") ++ codes ", " ++ counted_noun_text expectations (codes " expectation") ++ codes "\n"

-- why the search stopped before its end, if it did
abbrev pub optional_search_stop_text : CheckRequest → Option SearchFault → Text
optional_search_stop_text request None = []
optional_search_stop_text request (Some fault) = search_stop_text request fault

abbrev pub expectations_text : CheckRequest → EndSearchResult → List LineExpectation → List ExpectationOutcome → List (Option EndDecision) → Text
expectations_text request found expectations outcomes decisions =
    expectations_header (is_fully_explored found.fault) (length found.searched.chips) (length expectations)
    ++ expectations_lines_text (is_fully_explored found.fault) outcomes decisions 0 expectations ++ optional_search_stop_text request found.fault

-- ---- no session

-- there are fewer expectations
abbrev pub no_such_expectation_text : ℕ → ℕ → Text
no_such_expectation_text asked expectations =
    codes "no session " ++ decimal asked ++ codes ": " ++ counted_noun_text expectations (codes " expectation") ++ codes "\n"

-- nothing breaks the expectation of this number that a session leads to: its line
abbrev pub unbroken_expectation_text : Bool → ℕ → LineExpectation → ExpectationOutcome → Text
unbroken_expectation_text whole asked one outcome = codes "no session " ++ decimal asked ++ codes ": " ++ expectation_line whole asked one outcome
