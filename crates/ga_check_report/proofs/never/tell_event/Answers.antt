use Rattle.ga_check_report.specs.Never.WritesNeverCheckReport.{one}
use Rattle.ga_check_report.proofs.never.tell_event.Goals as goal

pub returns-in-Ok : goal.returns-in-Ok
returns-in-Ok g c = λ before held.
    let sent = c.tell_reached.ensures before held in
    (sent.0, sent.1, one c.args.reached.which c.make_reached.new.lab c.in-Ok.made c.in-Ok.ensures.made sent.2)
