use Rattle.std.proofs.Common.{List, [], sym, subst}
use Rattle.std.specs.Prelude.{IfOk}
use Rattle.ga_lab.specs.Machine.{chip_of_machine}
use Rattle.ga_state_conditions.specs.declared.condition.StateCondition.{StateCondition}
use Rattle.ga_state_conditions.specs.Reached.{HasNoReachedEvent}
use Rattle.ga_state_expectations.specs.declared.source.Expectation.{Expectation}
use Rattle.ga_check_report.specs.declared.outcome.ExpectationOutcome.{ExpectationOutcome}
use Rattle.ga_check_report.specs.Outcomes.{IsOutcomeOfSearchFindings, IsReachedConditionBreach, IsExpectationOutcome}
use Rattle.ga_check_report.proofs.JudgingLemmas.{same_first, on_ok}
use Rattle.ga_check_report.proofs.judging.judge.Goals as goal

pub returns-in-NodeAtEveryEnd-clause-led : goal.returns-in-NodeAtEveryEnd-clause-led
returns-in-NodeAtEveryEnd-clause-led c = on_ok c.judge_ends.result ([], same_first c.args.lab.now)

pub returns-in-Never-clause-known : goal.returns-in-Never-clause-known
returns-in-Never-clause-known c =
    subst (λ (e : Expectation). IfOk c.judge_never.result (λ (o : ExpectationOutcome). IsExpectationOutcome c.args.lab.now c.args.found.now e o)) (sym c.in-Never.is)
    (subst (λ (list : List StateCondition). IfOk c.judge_never.result (IsOutcomeOfSearchFindings c.args.found.now (HasNoReachedEvent c.args.found.now list) (IsReachedConditionBreach c.args.lab.now list)))
    c.as_slice.ensures.value c.judge_never.ensures.known)

pub returns-in-LinkPassesWords-clause-known : goal.returns-in-LinkPassesWords-clause-known
returns-in-LinkPassesWords-clause-known c =
    subst (λ (e : Expectation). IfOk c.judge_link.result (λ (o : ExpectationOutcome). IsExpectationOutcome c.args.lab.now c.args.found.now e o)) (sym c.in-LinkPassesWords.is)
    (c.judge_link.ensures.known (chip_of_machine c.args.lab.now) c.requires)

pub returns-in-LinkPassesWords-clause-led : goal.returns-in-LinkPassesWords-clause-led
returns-in-LinkPassesWords-clause-led c = on_ok c.judge_link.result ([], same_first c.args.lab.now)

pub returns-in-EveryOrderEnds-clause-known : goal.returns-in-EveryOrderEnds-clause-known
returns-in-EveryOrderEnds-clause-known c =
    subst (λ (e : Expectation). IsExpectationOutcome c.args.lab.now c.args.found.now e c.judge_endless.result) (sym c.in-EveryOrderEnds.is) (c.judge_endless.ensures c.args.lab.now)

pub returns-in-OneEnd-clause-known : goal.returns-in-OneEnd-clause-known
returns-in-OneEnd-clause-known c =
    subst (λ (e : Expectation). IsExpectationOutcome c.args.lab.now c.args.found.now e c.judge_count.result) (sym c.in-OneEnd.is) (c.judge_count.ensures c.args.lab.now)
