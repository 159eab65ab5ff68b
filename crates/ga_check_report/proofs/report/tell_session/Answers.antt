use Rattle.ga_check_report.specs.Checking.WritesEndsReport.{led}
use Rattle.ga_check_report.proofs.report.tell_session.Goals as goal

pub returns-in-Ok : goal.returns-in-Ok
returns-in-Ok g c = λ before held.
    let sent = c.tell_saved_as.ensures before held in
    (sent.0, sent.1, led c.args.found.now c.lead_to.new.lab c.requires.ends c.in-Ok.ensures.led sent.2)
