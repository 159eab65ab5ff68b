use Rattle.std.proofs.Common.{Option, subst}
use Rattle.std.specs.Prelude.{IfNone}
use Rattle.ga_state_conditions.specs.declared.finding.ReachedEvent.{ReachedEvent}
use Rattle.ga_state_conditions.specs.Reached.{HasNoReachedEvent}
use Rattle.ga_check_report.specs.Never.WritesNeverCheckReport.{none}
use Rattle.ga_check_report.proofs.never.tell_found_event.Goals as goal

pub returns-in-None : goal.returns-in-None
returns-in-None g c = λ before held.
    let sent = c.tell_unreached.ensures before held in
    let nothing = subst (λ (o : Option ReachedEvent). IfNone o (HasNoReachedEvent c.args.found.now c.args.conditions.now)) c.in-None.is c.requires.none in
    (sent.0, sent.1, none c.args.found.now c.requires.ends nothing sent.2)
