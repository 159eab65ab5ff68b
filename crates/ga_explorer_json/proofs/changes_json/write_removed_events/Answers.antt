use Rattle.ga_explorer_json.specs.Changes.{removal_counts_json}
use Rattle.ga_explorer_json.proofs.Writing.{object_as}
use Rattle.ga_explorer_json.proofs.changes_json.write_removed_events.Goals as goal

pub returns : goal.returns
returns g c =
    object_as g.W.Write.contents c.write_object.result c.args.writer.now c.write_object.new.writer c.removed_fields.result
    (removal_counts_json c.args.command.now c.args.removed c.args.kept) c.removed_fields.ensures c.write_object.ensures
