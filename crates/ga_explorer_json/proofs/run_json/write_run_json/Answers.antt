use Rattle.std.proofs.Common.{ap, ◌∙◌}
use Rattle.ga_json.specs.Fields.{row_json}
use Rattle.ga_explorer_json.specs.Changes.{run_json}
use Rattle.ga_explorer_json.proofs.Writing.{object_as}
use Rattle.ga_explorer_json.proofs.run_json.write_run_json.Goals as goal

pub returns : goal.returns
returns g c =
    object_as g.W.Write.contents c.write_object.result c.args.writer.now c.write_object.new.writer c.as_slice.result.now
    (run_json c.args.command.now c.args.ran.now.events c.args.ran.now.end) (ap row_json c.as_slice.ensures.value ∙ c.run_row.ensures) c.write_object.ensures
