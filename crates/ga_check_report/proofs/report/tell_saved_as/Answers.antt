use Rattle.std.proofs.Common.{rules, ap, ◌∙◌, []}
use Rattle.ga_console.proofs.RunLemmas.{written_fresh}
use Rattle.ga_explorer_text.specs.Saved.{saved_session_text}
use Rattle.ga_check_report.proofs.report.tell_saved_as.Goals as goal

pub returns : goal.returns
returns g c = λ before held.
    let text = saved_session_text c.args.lab.now in
    let done = c.write_saved_session-said.ensures.1 before [] (written_fresh _ before [] _ (ap g.W.Write.contents c.new-out.ensures.stream ∙ held) c.new-out.ensures.nothing) in
    let sent = c.sent.ensures.written before text done in
    let there = sent.1 in
    (sent.0, search rules, sent.2)
