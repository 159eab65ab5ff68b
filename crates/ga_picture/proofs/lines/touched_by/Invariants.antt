use Rattle.ga_causal.specs.Dependence.{is_node_flagged}
use Rattle.ga_picture.proofs.Listed.{AreUsed}
use Rattle.ga_picture.proofs.lines.touched_by.Given as goal

abbrev pub invariant-items : goal.invariant-items
invariant-items l = AreUsed l.items l.item-index (is_node_flagged l.touched)
