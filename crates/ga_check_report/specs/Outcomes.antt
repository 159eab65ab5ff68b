-- What a search of states shows of an expectation (docs/REFERENCE.md, "Every expectation"; this project's own), what that says of each interleaving,
-- and the verdict about several.
use Rattle.std.specs.Prelude.{ℕ, ◌≡◌, ◌<◌, ◌≤◌, Bool, true, false, if◌then◌else◌, List, ◌∷◌, length, slice_get, slice_index_or, Some, None}
use Rattle.std.specs.List.{list_any}
use Rattle.ga_node.specs.Record.{NodeRecord}
use Rattle.ga_event.specs.declared.event.Event.{Event}
use Rattle.ga_event.specs.declared.made.MadeEvent.{MadeEvent}
use Rattle.ga_event.specs.Apply.{replay}
use Rattle.ga_races.specs.Orders.{IsEnabled}
use Rattle.ga_lab.specs.Machine.{MachineState, chip_of_machine}
use Rattle.ga_state_ends.specs.Ends.{EndSearchResult}
use Rattle.ga_state_conditions.specs.declared.condition.StateCondition.{StateCondition}
use Rattle.ga_state_conditions.specs.Reached.{IsConditionMet, HasNoReachedEvent}
use Rattle.ga_state_links.specs.declared.expectation.LinkExpectation.{LinkExpectation}
use Rattle.ga_state_links.specs.declared.expectation.LinkFault.{LinkFault}
use Rattle.ga_state_links.specs.LinkExpectations.{IsLinkExpectationMet, IsLinkBreach}
use Rattle.ga_state_links.specs.Places.{HasNoLinkBreach}
use Rattle.ga_state_expectations.specs.declared.expectation.NodeExpectation.{NodeExpectation}
use Rattle.ga_state_expectations.specs.declared.finding.UnmetChip.{UnmetChip}
use Rattle.ga_state_expectations.specs.declared.source.Expectation.{Expectation}
use Rattle.ga_state_expectations.specs.declared.source.Expectation.TheVariants.{NodeAtEveryEnd, Never, LinkPassesWords, EveryOrderEnds, OneEnd}
use Rattle.ga_state_expectations.specs.declared.source.LineExpectation.{LineExpectation}
use Rattle.ga_state_expectations.specs.Expectations.{meets_expectation_on_chip}
use Rattle.ga_state_expectations.specs.Recurrent.{IsRecurrentChip}
use Rattle.ga_state_expectations.specs.Unmet.{IsExpectationMetAtEnds, IsUnmetChipOfState}
use Rattle.ga_check_report.specs.declared.outcome.Breach.{Breach}
use Rattle.ga_check_report.specs.declared.outcome.Breach.TheVariants.{Unmet, Reached, OverLink, Endless, SeveralEnds}
use Rattle.ga_check_report.specs.declared.outcome.ExpectationOutcome.{ExpectationOutcome}
use Rattle.ga_check_report.specs.declared.outcome.ExpectationOutcome.TheVariants.{Holds, Broken, Unknown}
use Rattle.ga_check_report.specs.declared.report.Verdict.{Verdict}
use Rattle.ga_check_report.specs.declared.report.Verdict.TheVariants as verdict
use Rattle.ga_check_report.specs.EndTexts.{is_fully_explored}
use Rattle.ga_check_report.specs.SameEnd.{verdict_with_single_end_outcome}
use Rattle.ga_check_report.specs.declared.request.CheckRequest.{CheckRequest}
use Rattle.ga_check_report.specs.Never.{HasReachedEvent}

-- ---- what was found

-- the expectation isn't met on a chip of an end, and the node has this there
abbrev pub IsUnmetNodeBreach : EndSearchResult → NodeExpectation → Breach → Type 0
IsUnmetNodeBreach found expectation breach =
    (unmet : UnmetChip) × IsUnmetChipOfState found expectation unmet.state unmet × (breach ≡ Unmet unmet.state unmet.observation)

-- events led the machine to one on which the event was enabled, and it made the event, after which one of the conditions holds
abbrev pub IsReachedConditionBreach : MachineState → List StateCondition → Breach → Type 0
IsReachedConditionBreach s conditions breach = (which : ℕ) × (last : MachineState) × (made : MadeEvent) × HasReachedEvent conditions which s last made × (breach ≡ Reached made)

-- events from the chip on transfer words over the link that break the expectation, this number of them as expected and then by this fault
abbrev pub IsLinkWordsBreach : List NodeRecord → LinkExpectation → Breach → Type 0
IsLinkWordsBreach load expected breach =
    (events : List Event) × (place : ℕ) × (fault : LinkFault) × IsLinkBreach load expected events place fault × (breach ≡ OverLink place fault)

-- what breaks an expectation of a machine
abbrev pub IsBreachOfExpectation : MachineState → EndSearchResult → Expectation → Breach → Type 0
IsBreachOfExpectation s found (NodeAtEveryEnd expectation) breach = IsUnmetNodeBreach found expectation breach
IsBreachOfExpectation s found (Never conditions) breach = IsReachedConditionBreach s conditions.items breach
IsBreachOfExpectation s found (LinkPassesWords expected) breach = IsLinkWordsBreach (chip_of_machine s) expected breach
IsBreachOfExpectation s found EveryOrderEnds breach = (breach ≡ Endless) × (found.has_cycle ≡ true)
IsBreachOfExpectation s found OneEnd breach = (breach ≡ SeveralEnds (length found.ends)) × (1 < length found.ends)

-- nothing that was found breaks it
abbrev pub HasNoBreach : EndSearchResult → Expectation → Type 0
HasNoBreach found (NodeAtEveryEnd expectation) = IsExpectationMetAtEnds found expectation
HasNoBreach found (Never conditions) = HasNoReachedEvent found conditions.items
HasNoBreach found (LinkPassesWords expected) = HasNoLinkBreach found expected
HasNoBreach found EveryOrderEnds = found.has_cycle ≡ false
HasNoBreach found OneEnd = length found.ends ≤ 1

-- what is known where this says that nothing was found, and that what breaks it: that it holds, if each state was explored
abbrev pub IsOutcomeOfSearchFindings : EndSearchResult → Type 0 → (Breach → Type 0) → ExpectationOutcome → Type 0
IsOutcomeOfSearchFindings found none is_breach Holds = (found.fault ≡ None) × none
IsOutcomeOfSearchFindings found none is_breach (Broken breach) = is_breach breach
IsOutcomeOfSearchFindings found none is_breach Unknown = (is_fully_explored found.fault ≡ false) × none

-- what is known of an expectation
abbrev pub IsExpectationOutcome : MachineState → EndSearchResult → Expectation → ExpectationOutcome → Type 0
IsExpectationOutcome s found expectation outcome = IsOutcomeOfSearchFindings found (HasNoBreach found expectation) (IsBreachOfExpectation s found expectation) outcome

-- Each expectation has its outcome.
pub record AreExpectationOutcomes (s : MachineState) (found : EndSearchResult) (expectations : List LineExpectation) (outcomes : List ExpectationOutcome) : Type 0 where
  pub size : length outcomes ≡ length expectations
  pub known : (place : ℕ) (one : LineExpectation) → slice_get expectations place ≡ Some one
      → IsExpectationOutcome s found one.expectation (slice_index_or outcomes place Unknown)

-- ---- the verdict

abbrev pub is_outcome_broken : ExpectationOutcome → Bool
is_outcome_broken Holds = false
is_outcome_broken (Broken breach) = true
is_outcome_broken Unknown = false

abbrev pub is_outcome_unknown : ExpectationOutcome → Bool
is_outcome_unknown Holds = false
is_outcome_unknown (Broken breach) = false
is_outcome_unknown Unknown = true

-- one is broken; or one isn't known; or each holds
abbrev pub outcomes_verdict : List ExpectationOutcome → Verdict
outcomes_verdict outcomes =
    if list_any is_outcome_broken outcomes then verdict.Unclean else if list_any is_outcome_unknown outcomes then verdict.Unknown else verdict.Clean

-- and where `--same` asks for one end
abbrev pub expectations_verdict : CheckRequest → EndSearchResult → List ExpectationOutcome → Verdict
expectations_verdict request found outcomes = verdict_with_single_end_outcome request.same found (outcomes_verdict outcomes)

-- ---- what that says of every interleaving

-- On each chip to which the program can always come back, the node has what is required; after no event that comes does one of the conditions
-- hold; each list of events transfers over a link what is expected; no list of events is longer than some number; one chip can still be reached from wherever a list leads.
abbrev pub HoldsInEveryOrder : List NodeRecord → Expectation → Type 0
HoldsInEveryOrder load (NodeAtEveryEnd expectation) =
    (last : List NodeRecord) (events : List Event) → replay load events ≡ Some last → IsRecurrentChip last → meets_expectation_on_chip expectation last ≡ true
HoldsInEveryOrder load (Never conditions) =
    (last : List NodeRecord) (events : List Event) (event : Event) (place : ℕ) (condition : StateCondition) → slice_get conditions.items place ≡ Some condition
    → replay load events ≡ Some last → IsEnabled last event → IsConditionMet condition last event → ⊥
HoldsInEveryOrder load (LinkPassesWords expected) = IsLinkExpectationMet load expected
HoldsInEveryOrder load EveryOrderEnds =
    (bound : ℕ) × ((last : List NodeRecord) (events : List Event) → replay load events ≡ Some last → length events ≤ bound)
HoldsInEveryOrder load OneEnd =
    (there : List NodeRecord) × ((last : List NodeRecord) (events : List Event) → replay load events ≡ Some last → (more : List Event) × (replay last more ≡ Some there))

-- Some events lead to a chip to which the program can always come back, on which the node doesn't have what is required; or to one from which
-- further events lead back to it. Or they transfer words over a link that break the expectation. Or they led the machine to one on which an event was enabled, after which one of the conditions holds. Or the
-- search found two ends.
abbrev pub IsBrokenInSomeOrder : MachineState → EndSearchResult → Expectation → Type 0
IsBrokenInSomeOrder s found (NodeAtEveryEnd expectation) =
    (chip : List NodeRecord) × (events : List Event) × (replay (chip_of_machine s) events ≡ Some chip) × IsRecurrentChip chip × (meets_expectation_on_chip expectation chip ≡ false)
IsBrokenInSomeOrder s found (Never conditions) = (which : ℕ) × (last : MachineState) × (made : MadeEvent) × HasReachedEvent conditions.items which s last made
IsBrokenInSomeOrder s found (LinkPassesWords expected) =
    (events : List Event) × (place : ℕ) × (fault : LinkFault) × IsLinkBreach (chip_of_machine s) expected events place fault
IsBrokenInSomeOrder s found EveryOrderEnds =
    (chip : List NodeRecord) × (events : List Event) × (event : Event) × (more : List Event) × (replay (chip_of_machine s) events ≡ Some chip)
    × (replay chip (event ∷ more) ≡ Some chip)
IsBrokenInSomeOrder s found OneEnd = 1 < length found.ends
