use Rattle.std.proofs.Common.{Option, refl, subst}
use Rattle.ga_state_expectations.specs.declared.finding.UnmetChip.{UnmetChip}
use Rattle.ga_state_expectations.specs.Unmet.{IsExpectationMetAtEnds, IsFirstUnmetChip}
use Rattle.ga_check_report.specs.Outcomes.{IsUnmetNodeBreach}
use Rattle.ga_check_report.proofs.JudgingLemmas.{widened}
use Rattle.ga_check_report.proofs.judging.judge_unmet.Goals as goal

pub returns-in-Some : goal.returns-in-Some
returns-in-Some c =
    (c.in-Some.unmet, (subst (λ (o : Option UnmetChip). IsFirstUnmetChip c.args.found.now c.args.expectation.now o) c.in-Some.is c.requires).0, refl)

pub returns-in-None : goal.returns-in-None
returns-in-None c =
    widened c.args.found.now (IsExpectationMetAtEnds c.args.found.now c.args.expectation.now) (IsUnmetNodeBreach c.args.found.now c.args.expectation.now) c.without_breach.result c.without_breach.ensures
    (subst (λ (o : Option UnmetChip). IsFirstUnmetChip c.args.found.now c.args.expectation.now o) c.in-None.is c.requires)
