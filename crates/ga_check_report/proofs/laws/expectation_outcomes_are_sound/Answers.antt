use Rattle.ga_check_report.proofs.ExpectationTelling.{outcome_held, outcome_broken}
use Rattle.ga_check_report.proofs.laws.expectation_outcomes_are_sound.Goals as goal

pub returns-clause-holds : goal.returns-clause-holds
returns-clause-holds c = outcome_held

pub returns-clause-broken : goal.returns-clause-broken
returns-clause-broken c = outcome_broken
