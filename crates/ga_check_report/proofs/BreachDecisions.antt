-- What decides that expectations are broken, one more.
use Rattle.std.proofs.Common.{◌≡◌, ◌∙◌, ℕ, ◌+◌, ◌<◌, inl, inr, List, [], ◌∷◌, ◌++◌, length, get_or, Option, Some, None, sym, ap, subst, arith}
use Rattle.std.specs.Prelude.{slice_get, IfSome}
use Rattle.std.proofs.lemmas.Bool.{cases_lt}
use Rattle.std.proofs.lemmas.List.{length_push, get_or_append_left, get_or_push}
use Rattle.std.proofs.lemmas.Option.{same_Some, slice_get_within}
use Rattle.ga_lab.specs.Machine.{MachineState}
use Rattle.ga_state_ends.specs.Decisions.{EndDecision}
use Rattle.ga_state_ends.specs.Ends.{EndSearchResult}
use Rattle.ga_state_expectations.specs.declared.expectation.NodeExpectation.{NodeExpectation}
use Rattle.ga_state_expectations.specs.declared.source.Expectation.TheVariants.{NodeAtEveryEnd}
use Rattle.ga_state_expectations.specs.declared.source.LineExpectation.{LineExpectation}
use Rattle.ga_check_report.specs.declared.outcome.Breach.{Breach}
use Rattle.ga_check_report.specs.declared.outcome.ExpectationOutcome.{ExpectationOutcome}
use Rattle.ga_check_report.specs.declared.outcome.ExpectationOutcome.TheVariants.{Holds, Broken, Unknown}
use Rattle.ga_check_report.specs.Outcomes.{IsExpectationOutcome}
use Rattle.ga_check_report.specs.BreachDecisions.{breach_state, breach_state_of_outcome, IsDecisionOfBreach}

-- the state of an end that breaks an expectation is one of the search
pub unmet_inside : (s : MachineState) (found : EndSearchResult) (expectation : NodeExpectation) (outcome : ExpectationOutcome) → IsExpectationOutcome s found (NodeAtEveryEnd expectation) outcome
    → IfSome (breach_state_of_outcome outcome) (λ number. number < length found.searched.chips)
unmet_inside s found expectation Holds is = tt
unmet_inside s found expectation Unknown is = tt
unmet_inside s found expectation (Broken breach) is =
    subst (λ (b : Breach). IfSome (breach_state b) (λ number. number < length found.searched.chips)) (sym is.2)
    (let at = is.1.is_unmet.at_end in slice_get_within found.searched.chips is.0.state at.stored at.at_end.at)

abbrev pub AreDecidedUpTo : EndSearchResult → List LineExpectation → List ExpectationOutcome → ℕ → List (Option EndDecision) → Type 0
AreDecidedUpTo found expectations outcomes to decisions =
    (length decisions ≡ to)
    × ((place : ℕ) (one : LineExpectation) → place < to → slice_get expectations place ≡ Some one
    → IsDecisionOfBreach found one.expectation (get_or outcomes place Unknown) (get_or decisions place None))

pub none_decided : (found : EndSearchResult) (expectations : List LineExpectation) (outcomes : List ExpectationOutcome) (decisions : List (Option EndDecision)) → decisions ≡ []
    → AreDecidedUpTo found expectations outcomes 0 decisions
none_decided found expectations outcomes decisions is = (ap (λ (list : List (Option EndDecision)). length list) is, λ place one below at. absurd (omega arith))

pub decided_more : (found : EndSearchResult) (expectations : List LineExpectation) (outcomes : List ExpectationOutcome) (to : ℕ) (one : LineExpectation)
    (decisions later : List (Option EndDecision)) (decision : Option EndDecision) → AreDecidedUpTo found expectations outcomes to decisions
    → slice_get expectations to ≡ Some one → later ≡ decisions ++ decision ∷ [] → IsDecisionOfBreach found one.expectation (get_or outcomes to Unknown) decision
    → AreDecidedUpTo found expectations outcomes (to + 1) later
decided_more found expectations outcomes to one decisions later decision are at added is =
    subst (λ (list : List (Option EndDecision)). AreDecidedUpTo found expectations outcomes (to + 1) list) (sym added) (
      length_push decisions decision ∙ ap (λ (n : ℕ). n + 1) are.0,
      λ place it less there. elim (cases_lt place to) [
        | inl below ↦
            subst (IsDecisionOfBreach found it.expectation (get_or outcomes place Unknown)) (sym (get_or_append_left decisions (decision ∷ []) None place (omega (arith, below, are.0))))
            (are.1 place it below there)
        | inr past ↦
            let this : place ≡ to = omega arith in
            let same : it ≡ one = same_Some it one (sym there ∙ ap (slice_get expectations) this ∙ at) in
            let value : get_or (decisions ++ decision ∷ []) place None ≡ decision =
            get_or_push decisions decision None place (omega (arith, this, are.0)) in
            subst (IsDecisionOfBreach found it.expectation (get_or outcomes place Unknown)) (sym value)
            (subst (λ (n : ℕ). IsDecisionOfBreach found it.expectation (get_or outcomes n Unknown) decision) (sym this)
            (subst (λ (x : LineExpectation). IsDecisionOfBreach found x.expectation (get_or outcomes to Unknown) decision) (sym same) is))
      ],
    )
