use Rattle.ga_races.proofs.Clocks.{in_order, clock_of}
use Rattle.ga_races.proofs.laws.vector_clocks_are_exact.Goals as goal

pub returns-clause-node : goal.returns-clause-node
returns-clause-node c = in_order

pub returns-clause-made : goal.returns-clause-made
returns-clause-made c = clock_of
