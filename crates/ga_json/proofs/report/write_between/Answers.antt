use Rattle.std.proofs.Common.{◌++◌, false, refl}
use Rattle.ga_json.specs.inner.{json_fields_text}
use Rattle.ga_json.proofs.Says.{begins, goes_on, ends_with, cuts}
use Rattle.ga_json.proofs.report.write_between.Goals as goal

pub returns-in_err-write_blocks : goal.returns-in_err-write_blocks
returns-in_err-write_blocks g c =
    let before = c.args.before.now in
    let more = json_fields_text false c.args.fields.now ++ c.args.after.now in
    cuts c.from_residual.result c.write_blocks.new.self before more c.from_residual.ensures.0
    (begins g.W.Write.contents c.args.writer.now (before ++ more)) refl c.in_err-write_blocks.ensures

pub returns-in_err-write_fields : goal.returns-in_err-write_fields
returns-in_err-write_fields g c =
    let before = c.args.before.now in
    let text = json_fields_text false c.args.fields.now in
    let after = c.args.after.now in
    let start = begins g.W.Write.contents c.args.writer.now (before ++ (text ++ after)) in
    cuts c.from_residual-in_err-write_fields.result c.write_fields.new.writer text after c.from_residual-in_err-write_fields.ensures.0
    (goes_on c.write_blocks.new.self before (text ++ after) start refl c.in_ok-write_blocks.ensures) refl c.in_err-write_fields.ensures

pub returns : goal.returns
returns g c =
    let before = c.args.before.now in
    let text = json_fields_text false c.args.fields.now in
    let after = c.args.after.now in
    let start = begins g.W.Write.contents c.args.writer.now (before ++ (text ++ after)) in
    let begun = goes_on c.write_blocks.new.self before (text ++ after) start refl c.in_ok-write_blocks.ensures in
    ends_with c.write_blocks-2.result c.write_blocks-2.new.self
    (goes_on c.write_fields.new.writer text after begun refl c.in_ok-write_fields.ensures) c.write_blocks-2.ensures
