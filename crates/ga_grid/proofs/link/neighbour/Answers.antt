use Rattle.ga_grid.specs.Grid.{neighbour_number}
use Rattle.ga_grid.proofs.NodeIds.{from_number_in}
use Rattle.ga_grid.proofs.link.neighbour.Goals as goal

pub returns-clause-node : goal.returns-clause-node
returns-clause-node c = from_number_in _ (neighbour_number c.args.node.number c.args.side) c.in_ok-number.ensures.value
