use Rattle.std.proofs.Common.{◌++◌, false, codes, sym}
use Rattle.ga_json.specs.Compact.{json_line}
use Rattle.ga_json.specs.Fields.{row_json}
use Rattle.ga_json.specs.inner.{json_fields_text}
use Rattle.ga_json.proofs.Says.{says_as}
use Rattle.ga_json.proofs.Texts.{object_splits}
use Rattle.ga_json.proofs.report.write_object.Goals as goal

pub returns : goal.returns
returns g c =
    let fields = c.args.fields.now in
    says_as g.W.Write.contents c.write_between.result c.args.writer.now c.write_between.new.writer
    (codes "{" ++ (json_fields_text false fields ++ codes "}\n")) (json_line (row_json fields)) (sym (object_splits fields)) c.write_between.ensures
