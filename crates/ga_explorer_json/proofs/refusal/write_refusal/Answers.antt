use Rattle.ga_explorer_json.specs.Refusals.{refusal_json}
use Rattle.ga_explorer_json.proofs.Writing.{object_as}
use Rattle.ga_explorer_json.proofs.refusal.write_refusal.Goals as goal

pub returns : goal.returns
returns g c =
    object_as g.W.Write.contents c.write_object.result c.args.writer.now c.write_object.new.writer c.refusal_fields.result
    (refusal_json c.args.command.now c.args.code c.args.why.now c.args.hint.now) c.refusal_fields.ensures c.write_object.ensures
