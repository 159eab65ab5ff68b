use Rattle.ga_explorer_json.specs.Texts.{text_answer_json}
use Rattle.ga_explorer_json.proofs.Writing.{object_as}
use Rattle.ga_explorer_json.proofs.text_json.write_text_answer.Goals as goal

pub returns : goal.returns
returns g c =
    object_as g.W.Write.contents c.write_object.result c.args.writer.now c.write_object.new.writer c.text_answer_fields.result
    (text_answer_json c.args.command.now c.args.text.now) c.text_answer_fields.ensures c.write_object.ensures
