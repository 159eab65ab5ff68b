use Rattle.std.proofs.Common.{rules, ℕ, Bool, List, ap, ◌∙◌, [], subst}
use Rattle.ga_console.proofs.RunLemmas.{written_fresh}
use Rattle.ga_check_report.specs.ExpectationTexts.{unbroken_expectation_text}
use Rattle.ga_check_report.specs.Expected.{unbroken_expectation_verdict}
use Rattle.ga_check_report.specs.Checking.{IsWrittenWithVerdictOrFails}
use Rattle.ga_check_report.proofs.EndsOut.{out_as}
use Rattle.ga_check_report.proofs.breach_session.tell_unbroken.Goals as goal

pub returns : goal.returns
returns g c = λ before held.
    let text : List ℕ = unbroken_expectation_text c.is_fully_explored.result c.args.asked c.args.one.now c.args.outcome.now in
    let done = c.write_unbroken-said.ensures.1 before [] (written_fresh _ before [] _ (ap g.W.Write.contents c.new-out.ensures.stream ∙ held) c.new-out.ensures.nothing) in
    let sent = c.sent.ensures.written before text done in
    let there = sent.1 in
    let P : Bool → Type 0 = λ b. IsWrittenWithVerdictOrFails (unbroken_expectation_text b c.args.asked c.args.one.now c.args.outcome.now) (unbroken_expectation_verdict c.args.outcome.now) sent.0 c.sent.result in
    (sent.0, search rules, subst P c.is_fully_explored.ensures (out_as text sent.0 c.unbroken_expectation_verdict.result _ c.sent.result c.unbroken_expectation_verdict.ensures sent.2))
