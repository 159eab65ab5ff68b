use Rattle.ga_explorer_json.specs.Session.{session_ready_json}
use Rattle.ga_explorer_json.proofs.Writing.{object_as}
use Rattle.ga_explorer_json.proofs.session.write_ready.Goals as goal

pub returns : goal.returns
returns g c =
    object_as g.W.Write.contents c.write_object.result c.args.writer.now c.write_object.new.writer c.ready_fields.result
    session_ready_json c.ready_fields.ensures c.write_object.ensures
