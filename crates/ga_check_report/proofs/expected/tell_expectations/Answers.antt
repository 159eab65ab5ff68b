use Rattle.std.proofs.Common.{ℕ, ◌<◌, length, sym, subst, arith}
use Rattle.ga_check_report.specs.Expected.{WritesExpectationsReport}
use Rattle.ga_check_report.specs.Expected.WritesExpectationsReport.{missing}
use Rattle.ga_check_report.proofs.expected.tell_expectations.Goals as goal

pub returns-then-asked-eq0 : goal.returns-then-asked-eq0
returns-then-asked-eq0 g c = λ before held.
    let sent = c.tell_each.ensures before held in
    let P : ℕ → Type 0 = λ n. WritesExpectationsReport c.args.request c.args.expectations.now n c.args.lab.now sent.0 c.tell_each.result in
    (sent.0, sent.1, subst P (sym c.if-asked-eq0.true) sent.2)

pub returns-then-asked-expectations : goal.returns-then-asked-expectations
returns-then-asked-expectations g c = λ before held.
    let sent = c.tell_one.ensures before held in
    (sent.0, sent.1, sent.2 c.args.expectations.now c.expectation_at.ensures)

pub returns-else-asked-expectations : goal.returns-else-asked-expectations
returns-else-asked-expectations g c = λ before held.
    let sent = c.tell_missing.ensures before held in
    let past : length c.args.expectations.now < c.args.asked = omega arith in
    (sent.0, sent.1, missing past sent.2)
