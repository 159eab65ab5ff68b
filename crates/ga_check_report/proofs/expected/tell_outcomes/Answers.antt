use Rattle.std.proofs.Common.{rules, ℕ, List, ap, ◌∙◌, []}
use Rattle.ga_console.proofs.RunLemmas.{written_fresh}
use Rattle.ga_check_report.specs.Answers.{expectations_answer}
use Rattle.ga_check_report.proofs.EndsOut.{out_as}
use Rattle.ga_check_report.proofs.expected.tell_outcomes.Goals as goal

pub returns : goal.returns
returns g c = λ before held.
    let text : List ℕ = expectations_answer c.args.request c.args.found.now c.args.expectations.now c.args.outcomes.now c.args.decisions.now in
    let done = c.write_expectations_answer-said.ensures.1 before [] (written_fresh _ before [] _ (ap g.W.Write.contents c.new-out.ensures.stream ∙ held) c.new-out.ensures.nothing) in
    let sent = c.sent.ensures.written before text done in
    let there = sent.1 in
    (sent.0, search rules, out_as text sent.0 c.expectations_verdict.result _ c.sent.result c.expectations_verdict.ensures sent.2)
