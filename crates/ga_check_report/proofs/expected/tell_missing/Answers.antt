use Rattle.std.proofs.Common.{rules, ℕ, List, ap, ◌∙◌, [], subst}
use Rattle.ga_console.proofs.RunLemmas.{written_fresh}
use Rattle.ga_console.specs.declared.run.Status.TheVariants.{ImageRefused}
use Rattle.ga_check_report.specs.Checking.{IsWrittenWithVerdictOrFails}
use Rattle.ga_check_report.specs.declared.report.Verdict.TheVariants.{FailedWithStatus}
use Rattle.ga_check_report.proofs.expected.tell_missing.Goals as goal

pub returns : goal.returns
returns g c = λ before held.
    let text = c.as_slice.result.now in
    let done = c.write_blocks-said.ensures.1 before [] (written_fresh _ before [] _ (ap g.W.Write.contents c.new-out.ensures.stream ∙ held) c.new-out.ensures.nothing) in
    let sent = c.sent.ensures.written before text done in
    let there = sent.1 in
    let P : List ℕ → Type 0 = λ t. IsWrittenWithVerdictOrFails t (FailedWithStatus ImageRefused) sent.0 c.sent.result in
    (sent.0, search rules, subst P (c.as_slice.ensures.value ∙ c.no_such_expectation_text.ensures) sent.2)
