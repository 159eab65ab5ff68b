use Rattle.std.proofs.Common.{rules, ℕ, List, ap, ◌∙◌, []}
use Rattle.ga_console.proofs.RunLemmas.{written_fresh}
use Rattle.ga_json.specs.Diagnostics.{diagnostics_json}
use Rattle.ga_asm_text.proofs.JsonSources.{refusal_after}
use Rattle.ga_asm_text.proofs.assembly_json.tell_refused.Goals as goal

pub returns : goal.returns
returns g c = λ before held.
    let text : List ℕ = diagnostics_json c.args.file.now c.args.lines.now in
    let done = c.write_diagnostics-said.ensures.1 before [] (written_fresh _ before [] _ (ap g.W.Write.contents c.new-out.ensures.stream ∙ held) c.new-out.ensures.nothing) in
    let sent = c.finish.ensures.written before text done in
    let there = sent.1 in
    (sent.0, search rules, refusal_after text sent.0 c.finish.result c.refused.result c.refused.ensures sent.2)
