use Rattle.ga_causal.proofs.OldestEventPlaces.{none_marked}
use Rattle.ga_causal.proofs.nodes.NodeSet.none.Goals as goal

pub returns : goal.returns
returns c n = none_marked 144 n
