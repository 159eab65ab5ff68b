use Rattle.std.proofs.Common.{List, ℕ, ◌++◌, refl, ap}
use Rattle.ga_json.specs.Compact.{json_line}
use Rattle.ga_json.specs.Fields.{json_object}
use Rattle.ga_json.proofs.Says.{begins, goes_on, cuts, ends_with, says_as}
use Rattle.ga_state_ends.specs.declared.end_kind.EndKind.{EndKind}
use Rattle.ga_check_report.specs.EndJson.{ends_head_fields, end_kinds_objects}
use Rattle.ga_check_report.proofs.ends_json.write_ends_json.Goals as goal

pub returns-in_err-write_ends_head : goal.returns-in_err-write_ends_head
returns-in_err-write_ends_head g c =
    let text : List ℕ = json_line (json_object (ends_head_fields c.args.file.now c.args.found.now)) in
    let more : List ℕ = end_kinds_objects c.args.file.now c.args.found.now.decisions 0 c.args.found.now.kinds in
    cuts c.from_residual.result c.write_ends_head.new.writer text more c.from_residual.ensures.0 (begins g.W.Write.contents c.args.writer.now (text ++ more)) refl
    c.in_err-write_ends_head.ensures

pub returns : goal.returns
returns g c =
    let text : List ℕ = json_line (json_object (ends_head_fields c.args.file.now c.args.found.now)) in
    let objects = λ (kinds : List EndKind). end_kinds_objects c.args.file.now c.args.found.now.decisions 0 kinds in
    let more : List ℕ = objects c.args.found.now.kinds in
    ends_with c.write_kinds_objects.result c.write_kinds_objects.new.writer
    (goes_on c.write_ends_head.new.writer text more (begins g.W.Write.contents c.args.writer.now (text ++ more)) refl c.in_ok-write_ends_head.ensures)
    (says_as g.W.Write.contents c.write_kinds_objects.result c.write_ends_head.new.writer c.write_kinds_objects.new.writer (objects c.kinds.result.now) more
    (ap objects c.kinds.ensures) c.write_kinds_objects.ensures)
