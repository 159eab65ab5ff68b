use Rattle.std.proofs.Common.{◌≡◌, ◌≤◌, length, false, Some, codes, ◌∙◌, refl, inl, arith}
use Rattle.ga_lab.specs.declared.fault.LabFault.TheVariants.{Memory}
use Rattle.ga_explorer_text.specs.Whence.{last_written_line_number}
use Rattle.ga_explorer_json.specs.Refusals.{lab_refusal_json}
use Rattle.ga_explorer_json.specs.Whence.{provenance_lines_json, IsQueriedValueJson}
use Rattle.ga_explorer_json.proofs.Whence.{lines_found}
use Rattle.ga_explorer_json.proofs.Writing.{line_of}
use Rattle.ga_explorer_json.proofs.whence_json.write_lines.Goals as goal

pub returns-in-Ok : goal.returns-in-Ok
returns-in-Ok g c =
    let s = c.args.lab.now in
    let query = c.args.query in
    let notes = query.notes.now in
    let found = c.in-Ok.found in
    let lines = c.as_slice-lines.result.now in
    let most : length found.lines.items ≤ last_written_line_number query.first = omega (arith, c.in-Ok.ensures.most, c.last_written_line_number-most.ensures) in
    line_of g.W.Write.contents c.write_listed_lines.result c.args.writer.now c.write_listed_lines.new.writer (IsQueriedValueJson notes s query.node query.step query.first (Some c.args.value))
    (provenance_lines_json notes s query.node query.step query.first c.args.value lines found.is_whole)
    (lines_found notes s query.node query.step query.first c.args.value found.lines.items lines found.is_whole c.as_slice-lines.ensures.value c.in-Ok.ensures.lines most
    (λ (e : found.is_whole ≡ false). c.in-Ok.ensures.cut e ∙ c.last_written_line_number-most.ensures))
    c.write_listed_lines.ensures

pub returns-in-Err : goal.returns-in-Err
returns-in-Err g c =
    let s = c.args.lab.now in
    let query = c.args.query in
    let notes = query.notes.now in
    line_of g.W.Write.contents c.write_lab_refusal.result c.args.writer.now c.write_lab_refusal.new.writer (IsQueriedValueJson notes s query.node query.step query.first (Some c.args.value))
    (lab_refusal_json (codes "whence") Memory) (inl refl) c.write_lab_refusal.ensures
