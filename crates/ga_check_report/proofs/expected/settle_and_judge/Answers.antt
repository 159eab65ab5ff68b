use Rattle.std.proofs.Common.{subst}
use Rattle.ga_lab.specs.Machine.{MachineState}
use Rattle.ga_check_report.specs.Expected.{WritesProgramCheckReport}
use Rattle.ga_check_report.proofs.ExpectationsOut.{without_memory}
use Rattle.ga_check_report.proofs.expected.settle_and_judge.Goals as goal

pub returns-in-Ok : goal.returns-in-Ok
returns-in-Ok g c = λ before held.
    let sent = c.tell_program.ensures before held in
    let P : MachineState → Type 0 = λ s. WritesProgramCheckReport c.args.request c.args.expectations.now c.args.asked s sent.0 c.tell_program.result in
    (sent.0, sent.1, subst P c.in-Ok.ensures.ok sent.2)

pub returns-in-Err : goal.returns-in-Err
returns-in-Err g c = λ before held.
    let sent = c.tell_refused.ensures before held in
    (sent.0, sent.1, without_memory c.args.request c.args.expectations.now c.args.asked _ sent.0 c.tell_refused.result sent.2)
