use Rattle.ga_causal.specs.Dependence.{is_node_flagged}
use Rattle.ga_picture.specs.inner.{AreLinesOfNodes}
use Rattle.ga_picture.proofs.lines.lines_of.Given as goal

abbrev pub invariant-nodes : goal.invariant-nodes
invariant-nodes l = AreLinesOfNodes (is_node_flagged l.used) l.nodes.items l.columns l.number
