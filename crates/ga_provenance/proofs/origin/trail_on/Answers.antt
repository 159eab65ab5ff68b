use Rattle.std.proofs.Common.{rules, ◌≡◌, ◌∙◌, ap}
use Rattle.ga_grid.specs.declared.node_id.NodeId.{NodeId}
use Rattle.ga_grid.proofs.NodeIds.{NodeId-same}
use Rattle.ga_lab.specs.Machine.{node_at_step}
use Rattle.ga_provenance.proofs.origin.trail_on.Goals as goal

pub returns-then-step-clause-stands : goal.returns-then-step-clause-stands
returns-then-step-clause-stands c =
    let number : c.args.last.number ≡ c.args.node.number = search rules in
    let same : c.args.last ≡ c.args.node = NodeId-same c.args.last c.args.node number in
    c.requires.trail ∙ ap (λ (n : NodeId). node_at_step c.args.lab.now n c.args.trail.step) same
