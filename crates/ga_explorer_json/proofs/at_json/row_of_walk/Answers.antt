use Rattle.std.proofs.Common.{Some, List, ◌++◌, ap, ◌∙◌}
use Rattle.std.specs.Prelude.{option_map}
use Rattle.ga_node.specs.Record.{NodeRecord, record_of_node}
use Rattle.ga_provenance.specs.Origins.{node_after_steps}
use Rattle.ga_provenance.proofs.Made.{stood_of}
use Rattle.ga_json.specs.Fields.{NamedValue, json_object}
use Rattle.ga_explorer_json.specs.Around.{step_fields, numbered_step_json}
use Rattle.ga_explorer_json.proofs.at_json.row_of_walk.Goals as goal

pub returns-in-Some : goal.returns-in-Some
returns-in-Some c =
    let s = c.args.lab.now in
    let notes = c.args.notes.now in
    let node = c.args.node in
    let n = node.number in
    let step = c.args.step in
    let made = c.in-Some.made in
    let after = stood_of s c.args.node c.args.there.now step (record_of_node c.node.result.now) c.requires.walk c.requires.within c.node.ensures in
    ap Some c.step_row.ensures
    ∙ ap (λ (z : List NamedValue). Some (json_object (step_fields step (record_of_node c.node.result.now) made ++ z))) c.step_source-source.ensures
    ∙ ap (λ (z : NodeRecord). Some (numbered_step_json notes s node step z made)) after
    ∙ ap (option_map (numbered_step_json notes s node step (node_after_steps s n step))) c.in-Some.ensures

pub returns-in-None : goal.returns-in-None
returns-in-None c =
    ap (option_map (numbered_step_json c.args.notes.now c.args.lab.now c.args.node c.args.step (node_after_steps c.args.lab.now c.args.node.number c.args.step))) c.in-None.ensures
