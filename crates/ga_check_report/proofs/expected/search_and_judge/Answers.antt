use Rattle.ga_check_report.specs.Expected.WritesExpectationsReport.{no_memory}
use Rattle.ga_check_report.proofs.expected.search_and_judge.Goals as goal

pub returns-in-Err : goal.returns-in-Err
returns-in-Err g c = λ before held.
    let sent = c.tell_refused.ensures before held in
    (sent.0, sent.1, no_memory sent.2)
