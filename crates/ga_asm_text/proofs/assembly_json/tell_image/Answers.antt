use Rattle.std.proofs.Common.{rules, ℕ, List, ap, ◌∙◌, []}
use Rattle.ga_console.proofs.RunLemmas.{written_fresh}
use Rattle.ga_asm_text.specs.SourceJson.{image_and_warnings_json}
use Rattle.ga_asm_text.proofs.assembly_json.tell_image.Goals as goal

pub returns : goal.returns
returns g c = λ before held.
    let it = c.args.image.now in
    let text : List ℕ = image_and_warnings_json c.args.file.now it.nodes it.image.items it.warnings.items in
    let done = c.write_image-said.ensures.1 before [] (written_fresh _ before [] _ (ap g.W.Write.contents c.new-out.ensures.stream ∙ held) c.new-out.ensures.nothing) in
    let sent = c.finish.ensures.written before text done in
    let there = sent.1 in
    (sent.0, search rules, sent.2)
