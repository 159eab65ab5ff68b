use Rattle.std.proofs.Common.{Option, subst}
use Rattle.ga_state_expectations.specs.declared.finding.UnmetChip.{UnmetChip}
use Rattle.ga_state_expectations.specs.declared.source.Expectation.TheVariants.{NodeAtEveryEnd}
use Rattle.ga_state_expectations.specs.Unmet.{IsExpectationMetAtEnds, IsFirstUnmetChip}
use Rattle.ga_check_report.specs.Outcomes.{IsUnmetNodeBreach}
use Rattle.ga_check_report.proofs.JudgingLemmas.{widened}
use Rattle.ga_check_report.proofs.BreachSessions.{no_session}
use Rattle.ga_check_report.proofs.breach_session.tell_by_chip.Goals as goal

pub tell_path-requires-clause-unmet : goal.tell_path-requires-clause-unmet
tell_path-requires-clause-unmet g c = (subst (λ (o : Option UnmetChip). IsFirstUnmetChip c.args.found.now c.args.expectation.now o) c.in-Some.is c.requires.unmet).0

pub returns-in-None : goal.returns-in-None
returns-in-None g c = λ before held.
    let sent = c.tell_unbroken.ensures before held in
    let none = subst (λ (o : Option UnmetChip). IsFirstUnmetChip c.args.found.now c.args.expectation.now o) c.in-None.is c.requires.unmet in (
      sent.0,
      sent.1,
      no_session c.args.request c.args.lab.now c.args.found.now c.args.one.now (NodeAtEveryEnd c.args.expectation.now) c.args.asked c.without_breach.result sent.0 c.tell_unbroken.result
          c.requires.said c.requires.ends
          (widened c.args.found.now (IsExpectationMetAtEnds c.args.found.now c.args.expectation.now) (IsUnmetNodeBreach c.args.found.now c.args.expectation.now) c.without_breach.result c.without_breach.ensures none)
          sent.2,
    )
