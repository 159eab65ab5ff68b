use Rattle.std.proofs.Common.{◌≡◌, ◌<◌, length, arith}
use Rattle.ga_check_report.proofs.ExpectationsOut.{with_expectations, without_expectations}
use Rattle.ga_check_report.proofs.expected.tell_program.Goals as goal

pub returns-then-count-eq0 : goal.returns-then-count-eq0
returns-then-count-eq0 g c = λ before held.
    let sent = c.tell_ends.ensures before held in
    let none : length c.args.expectations.now ≡ 0 = omega arith in
    (sent.0, sent.1, without_expectations c.args.request c.args.expectations.now c.args.asked _ sent.0 c.tell_ends.result none sent.2)

pub returns-else-count-eq0 : goal.returns-else-count-eq0
returns-else-count-eq0 g c = λ before held.
    let sent = c.search_and_judge.ensures before held in
    let some : 0 < length c.args.expectations.now = omega arith in
    (sent.0, sent.1, with_expectations c.args.request c.args.expectations.now c.args.asked _ sent.0 c.search_and_judge.result some sent.2)
