use Rattle.ga_state_expectations.proofs.Tested.{IsNoConditionHeld}
use Rattle.ga_state_expectations.proofs.testing.first_condition_given_breach.Given as goal

abbrev pub invariant-conditions : goal.invariant-conditions
invariant-conditions l = IsNoConditionHeld l.breaks l.until l.made l.lab l.place
