use Rattle.std.proofs.Common.{rules, ℕ, List, ap, ◌∙◌, []}
use Rattle.ga_console.proofs.RunLemmas.{written_fresh}
use Rattle.ga_check_report.specs.EndTexts.{no_such_end_kind_text}
use Rattle.ga_check_report.proofs.EndsOut.{out_as}
use Rattle.ga_check_report.proofs.report.tell_none.Goals as goal

pub returns : goal.returns
returns g c = λ before held.
    let text : List ℕ = no_such_end_kind_text c.args.asked c.args.found.now in
    let done = c.write_no_kind-said.ensures.1 before [] (written_fresh _ before [] _ (ap g.W.Write.contents c.new-out.ensures.stream ∙ held) c.new-out.ensures.nothing) in
    let sent = c.sent.ensures.written before text done in
    let there = sent.1 in
    (sent.0, search rules, out_as text sent.0 c.missing_end_kind_verdict.result _ c.sent.result c.missing_end_kind_verdict.ensures sent.2)
