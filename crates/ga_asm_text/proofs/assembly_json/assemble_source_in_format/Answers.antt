use Rattle.std.proofs.Common.{sym, subst}
use Rattle.ga_json.specs.declared.format.ReportFormat.{ReportFormat}
use Rattle.ga_asm_text.specs.SourceJson.{WritesAssemblyInFormat}
use Rattle.ga_asm_text.proofs.assembly_json.assemble_source_in_format.Goals as goal

pub returns-in-Text : goal.returns-in-Text
returns-in-Text g c = λ left before known held.
    let it = c.assemble_source.ensures left before known held in
    let P : ReportFormat → Type 0 = λ f. WritesAssemblyInFormat f it.0 it.1 it.2 c.assemble_source.result in
    (it.0, it.1, it.2, it.3, it.4, it.5, subst P (sym c.in-Text.is) it.6)

pub returns-in-Json : goal.returns-in-Json
returns-in-Json g c = λ left before known held.
    let it = c.assemble_objects.ensures left before known held in
    let P : ReportFormat → Type 0 = λ f. WritesAssemblyInFormat f it.0 it.1 it.2 c.assemble_objects.result in
    (it.0, it.1, it.2, it.3, it.4, it.5, subst P (sym c.in-Json.is) it.6)
