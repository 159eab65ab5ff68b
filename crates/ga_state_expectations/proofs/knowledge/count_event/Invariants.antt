use Rattle.ga_state_expectations.proofs.LinkCounts.{AreCountedUpTo}
use Rattle.ga_state_expectations.proofs.knowledge.count_event.Given as goal

abbrev pub invariant-lines : goal.invariant-lines
invariant-lines l = AreCountedUpTo l.expectations l.lab l.made l.place l.words
