use Rattle.std.proofs.Common.{Option, [], subst}
use Rattle.std.specs.Prelude.{IfNone}
use Rattle.ga_state_conditions.specs.declared.finding.ReachedEvent.{ReachedEvent}
use Rattle.ga_state_conditions.specs.Reached.{HasNoReachedEvent}
use Rattle.ga_check_report.specs.Outcomes.{IsReachedConditionBreach}
use Rattle.ga_check_report.proofs.JudgingLemmas.{widened, same_first}
use Rattle.ga_check_report.proofs.judging.judge_reached.Goals as goal

pub returns-in-None-clause-known : goal.returns-in-None-clause-known
returns-in-None-clause-known c =
    widened c.args.found.now (HasNoReachedEvent c.args.found.now c.args.conditions.now) (IsReachedConditionBreach c.args.lab.now c.args.conditions.now) c.without_breach.result
    c.without_breach.ensures (subst (λ (o : Option ReachedEvent). IfNone o (HasNoReachedEvent c.args.found.now c.args.conditions.now)) c.in-None.is c.requires.none)

pub returns-in-None-clause-led : goal.returns-in-None-clause-led
returns-in-None-clause-led c = ([], same_first c.args.lab.now)
