use Rattle.std.proofs.Common.{rules, ◌≡◌, ◌∙◌, ap}
use Rattle.ga_grid.specs.declared.node_id.NodeId.{NodeId}
use Rattle.ga_grid.proofs.NodeIds.{NodeId-same}
use Rattle.ga_lab.specs.Machine.{NodeAtStep, node_at_step}
use Rattle.ga_explorer_text.proofs.source_suffix.StepContext.walk_back_to_step.Goals as goal

pub returns-then-place-step : goal.returns-then-place-step
returns-then-place-step c =
    let here = c.args.self.now in
    let number : here.node.number ≡ c.args.node.number = search rules in
    let same : here.node ≡ c.args.node = NodeId-same here.node c.args.node number in
    c.walk_back_to.ensures
    ∙ ap (λ (z : NodeAtStep). record z { step = c.args.place }) (c.copy-walk.ensures ∙ here.stands ∙ ap (λ (n : NodeId). node_at_step here.lab.now n here.near.step) same)
