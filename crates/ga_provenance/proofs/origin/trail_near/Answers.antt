use Rattle.std.proofs.Common.{rules, ◌≡◌, ◌∙◌, ap}
use Rattle.ga_grid.specs.declared.node_id.NodeId.{NodeId}
use Rattle.ga_grid.proofs.NodeIds.{NodeId-same}
use Rattle.ga_lab.specs.Machine.{node_at_step}
use Rattle.ga_provenance.proofs.Made.{has_step_so, stays_so}
use Rattle.ga_provenance.proofs.origin.trail_near.Goals as goal
use Rattle.ga_provenance.proofs.origin.trail_near.Goals.{After-copy}

copy_stands : (c : goal.After-copy) → c.copy.result ≡ node_at_step c.args.lab.now c.args.node c.copy.result.step
copy_stands c =
    let s = c.args.lab.now in
    let number : c.args.at.number ≡ c.args.node.number = search rules in
    let same : c.args.at ≡ c.args.node = NodeId-same c.args.at c.args.node number in
    has_step_so s c.args.node c.args.near.now.step c.copy.result (c.copy.ensures ∙ c.requires.near ∙ ap (λ (n : NodeId). node_at_step s n c.args.near.now.step) same)

pub new-requires : goal.new-requires
new-requires c = copy_stands (goal.at.new-requires c).After-copy

pub returns-then-step-clause-stands : goal.returns-then-step-clause-stands
returns-then-step-clause-stands c =
    stays_so c.args.lab.now c.args.node c.copy.result c.new.result (copy_stands (goal.at.returns-then-step-clause-stands c).After-copy) c.new.ensures.walk
