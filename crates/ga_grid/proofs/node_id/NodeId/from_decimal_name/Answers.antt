use Rattle.std.proofs.Common.{arith}
use Rattle.std.proofs.lemmas.Grind.{common_steps}
use Rattle.ga_grid.specs.Grid.{node_number_of_name}
use Rattle.ga_grid.proofs.NodeIds.{from_number_in}
use Rattle.ga_grid.proofs.node_id.NodeId.from_decimal_name.Goals as goal

pub returns-then-column-lt18-clause-node : goal.returns-then-column-lt18-clause-node
returns-then-column-lt18-clause-node c = from_number_in _ (node_number_of_name c.args.decimal_name) (grind (arith, common_steps))
