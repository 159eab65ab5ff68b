use Rattle.std.proofs.Common.{subst}
use Rattle.ga_lab.specs.Machine.{MachineState}
use Rattle.ga_check_report.specs.Checking.{WritesEndsReport}
use Rattle.ga_check_report.specs.Checking.WritesEndsReport.{no_memory}
use Rattle.ga_check_report.proofs.report.tell_settled.Goals as goal

pub returns-in-Ok : goal.returns-in-Ok
returns-in-Ok g c = λ before held.
    let sent = c.tell_ends.ensures before held in
    let P : MachineState → Type 0 = λ s. WritesEndsReport c.args.request c.args.asked s sent.0 c.tell_ends.result in
    (sent.0, sent.1, subst P c.in-Ok.ensures.ok sent.2)

pub returns-in-Err : goal.returns-in-Err
returns-in-Err g c = λ before held.
    let sent = c.tell_refused.ensures before held in
    (sent.0, sent.1, no_memory sent.2)
