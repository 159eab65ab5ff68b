use Rattle.std.proofs.Common.{ℕ, Option, sym, subst}
use Rattle.std.specs.Prelude.{IfOk, IfSome, ◌<◌, length}
use Rattle.ga_state_expectations.specs.declared.source.Expectation.{Expectation}
use Rattle.ga_check_report.specs.Outcomes.{IsExpectationOutcome}
use Rattle.ga_check_report.specs.BreachDecisions.{IsDecisionOfNodeBreach, IsDecisionOfBreach}
use Rattle.ga_check_report.proofs.BreachDecisions.{unmet_inside}
use Rattle.ga_check_report.proofs.breach_decisions.decide_breach.Goals as goal

pub decide_at_ends-requires-clause-state : goal.decide_at_ends-requires-clause-state
decide_at_ends-requires-clause-state c =
    let found = c.args.found.now in
    subst (λ (o : Option ℕ). IfSome o (λ number. number < length found.searched.chips)) (sym c.breach_state_of_outcome.ensures)
    (unmet_inside c.requires.known.0 found c.in-NodeAtEveryEnd.expectation c.args.outcome
    (subst (λ (e : Expectation). IsExpectationOutcome c.requires.known.0 found e c.args.outcome) c.in-NodeAtEveryEnd.is c.requires.known.1))

pub returns-in-NodeAtEveryEnd-clause-decided : goal.returns-in-NodeAtEveryEnd-clause-decided
returns-in-NodeAtEveryEnd-clause-decided c =
    subst (λ (e : Expectation). IfOk c.decide_at_ends.result (IsDecisionOfBreach c.args.found.now e c.args.outcome)) (sym c.in-NodeAtEveryEnd.is)
    (subst (λ (o : Option ℕ). IfOk c.decide_at_ends.result (IsDecisionOfNodeBreach c.args.found.now c.in-NodeAtEveryEnd.expectation o)) c.breach_state_of_outcome.ensures
    c.decide_at_ends.ensures.decided)
