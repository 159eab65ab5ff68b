use Rattle.std.proofs.Common.{rules, ℕ, List, false, ap, ◌∙◌, []}
use Rattle.ga_console.proofs.RunLemmas.{written_fresh}
use Rattle.ga_check_report.specs.Answers.{reached_event_answer}
use Rattle.ga_check_report.proofs.never.tell_made.Goals as goal

pub returns : goal.returns
returns g c = λ before held.
    let text : List ℕ = reached_event_answer c.args.format false c.args.conditions c.args.which c.args.made c.args.lab.now in
    let done = c.write_reached-said.ensures.1 before [] (written_fresh _ before [] _ (ap g.W.Write.contents c.new-out.ensures.stream ∙ held) c.new-out.ensures.nothing) in
    let sent = c.sent.ensures.written before text done in
    let there = sent.1 in
    (sent.0, search rules, sent.2)
