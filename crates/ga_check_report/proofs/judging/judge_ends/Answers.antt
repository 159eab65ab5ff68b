use Rattle.std.proofs.Common.{subst}
use Rattle.ga_state_ends.specs.Ends.{EndSearchResult}
use Rattle.ga_state_expectations.specs.Unmet.{IsExpectationMetAtEnds}
use Rattle.ga_check_report.specs.Outcomes.{IsOutcomeOfSearchFindings, IsUnmetNodeBreach}
use Rattle.ga_check_report.proofs.judging.judge_ends.Goals as goal

pub returns-in-Ok-clause-known : goal.returns-in-Ok-clause-known
returns-in-Ok-clause-known c =
    let expectation = c.args.expectation.now in
    subst (λ (f : EndSearchResult). IsOutcomeOfSearchFindings f (IsExpectationMetAtEnds f expectation) (IsUnmetNodeBreach f expectation) c.judge_unmet.result)
    c.find_unmet_expectation_chip.ensures.same c.judge_unmet.ensures
