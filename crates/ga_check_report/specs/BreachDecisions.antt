-- What decides that an expectation is broken (docs/REFERENCE.md, "Every expectation"; this project's own): of a node at an end, the last event of the
-- path to the state on which it isn't met, before which an end could still be reached at which it is met.
use Rattle.std.specs.Prelude.{ℕ, ◌≡◌, List, length, slice_get, slice_index_or, Option, Some, None}
use Rattle.ga_state_search.specs.declared.fault.SearchFault.{SearchFault}
use Rattle.ga_state_ends.specs.Decisions.{EndDecision, IsEndDecided}
use Rattle.ga_state_ends.specs.Ends.{EndSearchResult}
use Rattle.ga_state_expectations.specs.declared.expectation.NodeExpectation.{NodeExpectation}
use Rattle.ga_state_expectations.specs.declared.source.Expectation.{Expectation}
use Rattle.ga_state_expectations.specs.declared.source.Expectation.TheVariants.{NodeAtEveryEnd, Never, LinkPassesWords, EveryOrderEnds, OneEnd}
use Rattle.ga_state_expectations.specs.declared.source.LineExpectation.{LineExpectation}
use Rattle.ga_state_expectations.specs.Meeting.{CanReachEndMeetingExpectation}
use Rattle.ga_check_report.specs.declared.outcome.Breach.{Breach}
use Rattle.ga_check_report.specs.declared.outcome.Breach.TheVariants.{Unmet, Reached, OverLink, Endless, SeveralEnds}
use Rattle.ga_check_report.specs.declared.outcome.ExpectationOutcome.{ExpectationOutcome}
use Rattle.ga_check_report.specs.declared.outcome.ExpectationOutcome.TheVariants.{Holds, Broken, Unknown}

-- the state of an end on which an expectation of a node isn't met, if that breaks it
abbrev pub breach_state : Breach → Option ℕ
breach_state (Unmet state observation) = Some state
breach_state (Reached made) = None
breach_state (OverLink place fault) = None
breach_state Endless = None
breach_state (SeveralEnds ends) = None

abbrev pub breach_state_of_outcome : ExpectationOutcome → Option ℕ
breach_state_of_outcome Holds = None
breach_state_of_outcome (Broken breach) = breach_state breach
breach_state_of_outcome Unknown = None

-- what decides that the expectation isn't met on the state; there is no claim about states that the cut search didn't reach
abbrev pub IsDecisionOfUnmetExpectation : EndSearchResult → NodeExpectation → ℕ → Option SearchFault → Option EndDecision → Type 0
IsDecisionOfUnmetExpectation found expectation state None decision = IsEndDecided found.searched (CanReachEndMeetingExpectation found expectation) state decision
IsDecisionOfUnmetExpectation found expectation state (Some fault) decision = decision ≡ None

abbrev pub IsDecisionOfNodeBreach : EndSearchResult → NodeExpectation → Option ℕ → Option EndDecision → Type 0
IsDecisionOfNodeBreach found expectation None decision = decision ≡ None
IsDecisionOfNodeBreach found expectation (Some state) decision = IsDecisionOfUnmetExpectation found expectation state found.fault decision

-- what decides that an expectation is broken, of which this is known
abbrev pub IsDecisionOfBreach : EndSearchResult → Expectation → ExpectationOutcome → Option EndDecision → Type 0
IsDecisionOfBreach found (NodeAtEveryEnd expectation) outcome decision = IsDecisionOfNodeBreach found expectation (breach_state_of_outcome outcome) decision
IsDecisionOfBreach found (Never conditions) outcome decision = decision ≡ None
IsDecisionOfBreach found (LinkPassesWords expectation) outcome decision = decision ≡ None
IsDecisionOfBreach found EveryOrderEnds outcome decision = decision ≡ None
IsDecisionOfBreach found OneEnd outcome decision = decision ≡ None

-- Each expectation has what decides that it is broken, if something does.
pub record AreDecisionsOfBreaches (found : EndSearchResult) (expectations : List LineExpectation) (outcomes : List ExpectationOutcome)
    (decisions : List (Option EndDecision)) : Type 0 where
  pub size : length decisions ≡ length expectations
  pub decided : (place : ℕ) (one : LineExpectation) → slice_get expectations place ≡ Some one
      → IsDecisionOfBreach found one.expectation (slice_index_or outcomes place Unknown) (slice_index_or decisions place None)
