use Rattle.ga_journal.specs.Marks.{mark_of_node}
use Rattle.ga_rollback.specs.inner.{AreNeighbourMarksLowered}
use Rattle.ga_rollback.proofs.rollback.lower_looker.Given as goal

abbrev pub invariant-finding : goal.invariant-finding
invariant-finding l = AreNeighbourMarksLowered l.fn.journal l.fn.node.number 0 l.journal

abbrev pub decreases-finding : goal.decreases-finding
decreases-finding l = mark_of_node l.journal l.looker.number
