use Rattle.std.proofs.Common.{sym, subst}
use Rattle.ga_state_expectations.specs.declared.source.Expectation.TheVariants.{OneEnd}
use Rattle.ga_check_report.specs.Outcomes.{IsExpectationOutcome}
use Rattle.ga_check_report.proofs.SameEnds.{one_end_known}
use Rattle.ga_check_report.proofs.judging.judge_count.Goals as goal

pub returns : goal.returns
returns c = λ s. subst (IsExpectationOutcome s c.args.found.now OneEnd) (sym c.single_end_expectation_outcome.ensures) (one_end_known s c.args.found.now)
