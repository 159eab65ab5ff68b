use Rattle.std.proofs.Common.{List, Option, sym, subst}
use Rattle.ga_state_ends.specs.Decisions.{EndDecision}
use Rattle.ga_state_ends.specs.Ends.{EndSearchResult}
use Rattle.ga_check_report.specs.Answers.{expectations_answer}
use Rattle.ga_check_report.specs.Checking.{IsWrittenWithVerdictOrFails}
use Rattle.ga_check_report.specs.Outcomes.{expectations_verdict}
use Rattle.ga_check_report.specs.inner.WritesExpectationOutcomes.{decided, undecided}
use Rattle.ga_check_report.proofs.expected.decide_and_tell.Goals as goal

pub returns-in-Ok : goal.returns-in-Ok
returns-in-Ok g c = λ before held.
    let sent = c.tell_outcomes.ensures before held in
    let P : List (Option EndDecision) → Type 0 =
    λ list. IsWrittenWithVerdictOrFails (expectations_answer c.args.request c.decide_breaches.new.found c.args.expectations.now c.args.outcomes.now list) (expectations_verdict c.args.request c.decide_breaches.new.found c.args.outcomes.now) sent.0
    c.tell_outcomes.result in
    let Q : EndSearchResult → Type 0 =
    λ found. IsWrittenWithVerdictOrFails (expectations_answer c.args.request found c.args.expectations.now c.args.outcomes.now c.in-Ok.decisions.items) (expectations_verdict c.args.request found c.args.outcomes.now) sent.0
    c.tell_outcomes.result in
    (sent.0, sent.1, decided c.in-Ok.decisions.items c.in-Ok.ensures.decided (subst Q c.decide_breaches.ensures.same (subst P c.as_slice.ensures.value sent.2)))

pub returns-in-Err : goal.returns-in-Err
returns-in-Err g c = λ before held.
    let sent = c.tell_refused.ensures before held in
    (sent.0, sent.1, undecided sent.2)
