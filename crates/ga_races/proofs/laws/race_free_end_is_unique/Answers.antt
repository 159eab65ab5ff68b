use Rattle.ga_races.proofs.Orders.{beginning_quiet, steps_quiet, end_quiet}
use Rattle.ga_races.proofs.laws.race_free_end_is_unique.Goals as goal

pub returns-clause-beginning : goal.returns-clause-beginning
returns-clause-beginning c = beginning_quiet

pub returns-clause-steps : goal.returns-clause-steps
returns-clause-steps c = steps_quiet

pub returns-clause-chip : goal.returns-clause-chip
returns-clause-chip c = end_quiet
