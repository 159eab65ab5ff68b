use Rattle.ga_explorer_json.specs.Texts.{line_refusal_json}
use Rattle.ga_explorer_json.proofs.Writing.{object_as}
use Rattle.ga_explorer_json.proofs.text_json.write_line_refusal.Goals as goal

pub returns : goal.returns
returns g c =
    object_as g.W.Write.contents c.write_object.result c.args.writer.now c.write_object.new.writer c.line_refusal_fields.result
    (line_refusal_json c.args.code c.args.why.now c.args.hint.now) c.line_refusal_fields.ensures c.write_object.ensures
