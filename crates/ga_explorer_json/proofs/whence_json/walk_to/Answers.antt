use Rattle.std.proofs.Common.{rules, ◌≡◌, ◌∙◌, ap}
use Rattle.ga_grid.specs.declared.node_id.NodeId.{NodeId}
use Rattle.ga_grid.proofs.NodeIds.{NodeId-same}
use Rattle.ga_lab.specs.Machine.{NodeAtStep, node_at_step}
use Rattle.ga_explorer_json.proofs.whence_json.walk_to.Goals as goal

pub returns-then-step : goal.returns-then-step
returns-then-step c =
    let near = c.args.near.now in
    let number : c.args.at.number ≡ c.args.node.number = search rules in
    let same : c.args.at ≡ c.args.node = NodeId-same c.args.at c.args.node number in
    c.walk_back_to.ensures
    ∙ ap (λ (z : NodeAtStep). record z { step = c.args.step }) (c.copy-walk.ensures ∙ c.requires.near ∙ ap (λ (n : NodeId). node_at_step c.args.lab.now n near.step) same)
