use Rattle.std.proofs.Common.{Option, refl, subst}
use Rattle.std.specs.Prelude.{IfSome, IfNone}
use Rattle.ga_state_links.specs.declared.expectation.LinkBreach.{LinkBreach}
use Rattle.ga_state_links.specs.Places.{HasNoLinkBreach}
use Rattle.ga_check_report.specs.Outcomes.{IsLinkWordsBreach}
use Rattle.ga_check_report.proofs.JudgingLemmas.{widened}
use Rattle.ga_check_report.proofs.LinkBreaches.{BreaksFrom}
use Rattle.ga_check_report.proofs.link_breach.link_outcome.Goals as goal

pub returns-in-Some : goal.returns-in-Some
returns-in-Some c = λ load breaks.
    let it = subst (λ (o : Option LinkBreach). IfSome o (BreaksFrom load c.args.expected.now)) c.in-Some.is breaks in
    (c.in-Some.it.events.items, c.in-Some.it.place, c.in-Some.it.fault, it, refl)

pub returns-in-None : goal.returns-in-None
returns-in-None c = λ load breaks.
    widened c.args.found.now (HasNoLinkBreach c.args.found.now c.args.expected.now) (IsLinkWordsBreach load c.args.expected.now) c.without_breach.result c.without_breach.ensures
    (subst (λ (o : Option LinkBreach). IfNone o (HasNoLinkBreach c.args.found.now c.args.expected.now)) c.in-None.is c.requires)
