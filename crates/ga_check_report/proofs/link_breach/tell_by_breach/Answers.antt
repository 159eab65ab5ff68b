use Rattle.std.proofs.Common.{Option, subst}
use Rattle.std.specs.Prelude.{IfNone}
use Rattle.ga_state_links.specs.declared.expectation.LinkBreach.{LinkBreach}
use Rattle.ga_state_links.specs.Places.{HasNoLinkBreach}
use Rattle.ga_lab.specs.Machine.{chip_of_machine}
use Rattle.ga_state_expectations.specs.declared.source.Expectation.TheVariants.{LinkPassesWords}
use Rattle.ga_check_report.specs.Outcomes.{IsLinkWordsBreach}
use Rattle.ga_check_report.proofs.JudgingLemmas.{widened}
use Rattle.ga_check_report.proofs.BreachSessions.{no_session}
use Rattle.ga_check_report.proofs.link_breach.tell_by_breach.Goals as goal

pub returns-in-None : goal.returns-in-None
returns-in-None g c = λ before held.
    let sent = c.tell_unbroken.ensures before held in
    let none = subst (λ (o : Option LinkBreach). IfNone o (HasNoLinkBreach c.args.found.now c.args.expected.now)) c.in-None.is c.requires.none in (
      sent.0,
      sent.1,
      no_session c.args.request c.args.lab.now c.args.found.now c.args.one.now (LinkPassesWords c.args.expected.now) c.args.asked c.without_breach.result sent.0 c.tell_unbroken.result
          c.requires.said c.requires.ends
          (widened c.args.found.now (HasNoLinkBreach c.args.found.now c.args.expected.now) (IsLinkWordsBreach (chip_of_machine c.args.lab.now) c.args.expected.now) c.without_breach.result
          c.without_breach.ensures none) sent.2,
    )
