use Rattle.ga_state_expectations.proofs.Tested.{AreTestedUpTo}
use Rattle.ga_state_expectations.proofs.testing.breaks_one_expectation.Given as goal

abbrev pub invariant-lines : goal.invariant-lines
invariant-lines l = AreTestedUpTo l.expectations l.lab l.place l.broken
