use Rattle.std.proofs.Common.{◌∙◌, sym, ap, take}
use Rattle.ga_grid.specs.declared.node_id.NodeId.{NodeId}
use Rattle.ga_event.specs.Told.{count_steps}
use Rattle.ga_race_detector.proofs.Glancing.{beside_first, beside_last}
use Rattle.ga_race_detector.proofs.look_changes.steps_beside.Goals as goal

pub returns-then-are_neighbours : goal.returns-then-are_neighbours
returns-then-are_neighbours c = λ s p m.
    m.first ∙ ap (λ (z : NodeId). count_steps z.number (take p s.kept)) (beside_first c.args.node.number c.in-Pass.is (sym c.are_neighbours.ensures ∙ c.if-are_neighbours.true))

pub returns-else-are_neighbours : goal.returns-else-are_neighbours
returns-else-are_neighbours c = λ s p m.
    m.last ∙ ap (λ (z : NodeId). count_steps z.number (take p s.kept)) (beside_last c.args.node.number c.in-Pass.is (sym c.are_neighbours.ensures ∙ c.if-are_neighbours.false))
