use Rattle.std.proofs.Common.{rules, ℕ, List, ap, ◌∙◌, []}
use Rattle.ga_console.proofs.RunLemmas.{written_fresh}
use Rattle.ga_check_report.specs.Answers.{refusal_answer}
use Rattle.ga_check_report.proofs.report.tell_refused.Goals as goal

pub returns : goal.returns
returns g c = λ before held.
    let text : List ℕ = refusal_answer c.args.format c.args.fault in
    let done = c.write_refusal-said.ensures.1 before [] (written_fresh _ before [] _ (ap g.W.Write.contents c.new-out.ensures.stream ∙ held) c.new-out.ensures.nothing) in
    let sent = c.sent.ensures.written before text done in
    let there = sent.1 in
    (sent.0, search rules, sent.2)
