use Rattle.ga_races.proofs.Bound.{free_exact}
use Rattle.ga_races.proofs.Before.{every_order, other_order, no_race_if_confluent, step_named, stands, causes_of_run}
use Rattle.ga_races.proofs.laws.reorderings_keep_happens_before.Goals as goal

pub returns-clause-free : goal.returns-clause-free
returns-clause-free c = free_exact

pub returns-clause-causes : goal.returns-clause-causes
returns-clause-causes c chip last events steps is = causes_of_run events chip last steps is

pub returns-clause-named : goal.returns-clause-named
returns-clause-named c = step_named

pub returns-clause-stands : goal.returns-clause-stands
returns-clause-stands c = stands

pub returns-clause-every : goal.returns-clause-every
returns-clause-every c = every_order

pub returns-clause-some : goal.returns-clause-some
returns-clause-some c = other_order

pub returns-clause-exact : goal.returns-clause-exact
returns-clause-exact c = no_race_if_confluent
