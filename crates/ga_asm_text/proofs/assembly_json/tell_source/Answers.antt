use Rattle.std.proofs.Common.{List, ℕ, inl, refl, subst}
use Rattle.ga_json.specs.Diagnostics.{diagnostics_json}
use Rattle.ga_debug_info.specs.Faults.{out_of_memory_text}
use Rattle.ga_asm_text.specs.inner.{WritesRefusalText}
use Rattle.ga_asm_text.proofs.JsonSources.{image_written, faults_written}
use Rattle.ga_asm_text.proofs.assembly_json.tell_source.Goals as goal

pub returns-in-Image : goal.returns-in-Image
returns-in-Image g c = λ before held.
    let sent = c.tell_image.ensures before held in
    let it = c.in-Image.image in
    (sent.0, sent.1, image_written c.args.file.now c.args.source.now it.image.items it.warnings.items it.nodes sent.0 c.tell_image.result c.in-Image.ensures sent.2)

pub returns-in-Faulty : goal.returns-in-Faulty
returns-in-Faulty g c = λ before held.
    let sent = c.tell_refused.ensures before held in
    let file : List ℕ = c.args.file.now in
    let P : List ℕ → Type 0 = λ lines. WritesRefusalText (diagnostics_json file lines) sent.0 c.tell_refused.result in
    (sent.0, sent.1, faults_written file c.args.source.now c.in-Faulty.lines.items sent.0 c.tell_refused.result c.in-Faulty.ensures (subst P c.as_slice.ensures.value sent.2))

pub returns-in-NoMemory : goal.returns-in-NoMemory
returns-in-NoMemory g c = λ before held.
    let sent = c.tell_refused-in-NoMemory.ensures before held in
    (sent.0, sent.1, faults_written c.args.file.now c.args.source.now out_of_memory_text sent.0 c.tell_refused-in-NoMemory.result (inl refl) sent.2)
