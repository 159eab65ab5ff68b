use Rattle.std.proofs.Common.{List, ℕ, ◌++◌, refl, subst}
use Rattle.ga_text.specs.Output.{WritesExactly}
use Rattle.ga_json.specs.Compact.{json_line}
use Rattle.ga_json.specs.Diagnostics.{diagnostics_json}
use Rattle.ga_json.proofs.Says.{begins, goes_on, cuts, ends_with}
use Rattle.ga_asm_text.specs.SourceJson.{image_json_object}
use Rattle.ga_asm_text.proofs.assembly_json.write_image.Goals as goal

pub returns-in_err-write_image_object : goal.returns-in_err-write_image_object
returns-in_err-write_image_object g c =
    let it = c.args.image.now in
    let text : List ℕ = json_line (image_json_object c.args.file.now it.nodes it.image.items) in
    let more : List ℕ = diagnostics_json c.args.file.now it.warnings.items in
    cuts c.from_residual.result c.write_image_object.new.writer text more c.from_residual.ensures.0 (begins g.W.Write.contents c.args.writer.now (text ++ more)) refl c.in_err-write_image_object.ensures

pub returns : goal.returns
returns g c =
    let it = c.args.image.now in
    let file : List ℕ = c.args.file.now in
    let text : List ℕ = json_line (image_json_object file it.nodes it.image.items) in
    let more : List ℕ = diagnostics_json file it.warnings.items in
    let P : List ℕ → Type 0 = λ lines. WritesExactly c.write_diagnostics.result (diagnostics_json file lines) g.W.Write.contents c.write_image_object.new.writer c.write_diagnostics.new.writer in
    ends_with c.write_diagnostics.result c.write_diagnostics.new.writer
    (goes_on c.write_image_object.new.writer text more (begins g.W.Write.contents c.args.writer.now (text ++ more)) refl c.in_ok-write_image_object.ensures)
    (subst P c.as_slice.ensures.value c.write_diagnostics.ensures)
