use Rattle.std.proofs.Common.{List, refl, subst}
use Rattle.ga_state_ends.specs.Ends.{EndSearchResult}
use Rattle.ga_check_report.specs.declared.outcome.ExpectationOutcome.{ExpectationOutcome}
use Rattle.ga_check_report.specs.inner.{WritesExpectationOutcomes}
use Rattle.ga_check_report.proofs.ExpectationsOut.{by_outcomes}
use Rattle.ga_check_report.proofs.expected.tell_each.Goals as goal

pub returns-in-Ok : goal.returns-in-Ok
returns-in-Ok g c = λ before held.
    let sent = c.decide_and_tell.ensures before held in
    let P : List ExpectationOutcome → Type 0 =
    λ list. WritesExpectationOutcomes c.args.request c.judge_all.new.found c.args.expectations.now list sent.0 c.decide_and_tell.result in
    let Q : EndSearchResult → Type 0 =
    λ found. WritesExpectationOutcomes c.args.request found c.args.expectations.now c.in-Ok.outcomes.items sent.0 c.decide_and_tell.result in (
      sent.0,
      sent.1,
      by_outcomes c.args.request c.args.found.now c.args.expectations.now c.in-Ok.outcomes.items c.args.lab.now sent.0 c.decide_and_tell.result c.requires
          c.in-Ok.ensures.known (subst Q c.judge_all.ensures.same (subst P c.as_slice.ensures.value sent.2)),
    )
