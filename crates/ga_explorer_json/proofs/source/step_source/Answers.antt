use Rattle.std.proofs.Common.{◌∙◌}
use Rattle.ga_provenance.specs.Fetched.{fetched_cell}
use Rattle.ga_explorer_text.specs.SourceSuffix.{slot_before_step}
use Rattle.ga_explorer_json.proofs.source.step_source.Goals as goal

pub returns-then-not-has_source : goal.returns-then-not-has_source
returns-then-not-has_source c =
    let s = c.args.lab.now in
    let node = c.args.node in
    let step = c.args.step in
    c.cell_source.ensures ∙ c.has_source.ensures c.if-not-has_source.true node (fetched_cell s node step) (slot_before_step s node step)
