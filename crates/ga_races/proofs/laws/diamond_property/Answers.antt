use Rattle.ga_races.proofs.Orders.{diamond_order}
use Rattle.ga_races.proofs.Conflicts.{common_node}
use Rattle.ga_races.proofs.laws.diamond_property.Goals as goal

pub returns-clause-order : goal.returns-clause-order
returns-clause-order c = diamond_order

pub returns-clause-rivals : goal.returns-clause-rivals
returns-clause-rivals c = common_node
