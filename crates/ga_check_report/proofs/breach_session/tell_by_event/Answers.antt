use Rattle.std.proofs.Common.{Option, refl, subst}
use Rattle.std.specs.Prelude.{IfNone}
use Rattle.ga_state_conditions.specs.declared.finding.ReachedEvent.{ReachedEvent}
use Rattle.ga_state_conditions.specs.Reached.{HasNoReachedEvent}
use Rattle.ga_check_report.specs.Outcomes.{IsReachedConditionBreach}
use Rattle.ga_check_report.proofs.JudgingLemmas.{widened, never_report}
use Rattle.ga_check_report.proofs.BreachSessions.{no_session}
use Rattle.ga_check_report.proofs.breach_session.tell_by_event.Goals as goal

pub returns-in-None : goal.returns-in-None
returns-in-None g c = λ before held.
    let sent = c.tell_unbroken.ensures before held in
    let none = subst (λ (o : Option ReachedEvent). IfNone o (HasNoReachedEvent c.args.found.now c.args.conditions.now)) c.in-None.is c.requires.none in (
      sent.0,
      sent.1,
      no_session c.args.request c.args.lab.now c.args.found.now c.args.one.now c.args.one.now.expectation c.args.asked c.without_breach.result sent.0 c.tell_unbroken.result
          refl c.requires.ends
          (never_report c.args.lab.now c.args.found.now c.args.conditions.now c.args.one.now.expectation c.without_breach.result c.requires.said
          (widened c.args.found.now (HasNoReachedEvent c.args.found.now c.args.conditions.now) (IsReachedConditionBreach c.args.lab.now c.args.conditions.now) c.without_breach.result c.without_breach.ensures none))
          sent.2,
    )
