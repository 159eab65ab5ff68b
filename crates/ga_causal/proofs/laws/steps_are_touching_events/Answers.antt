use Rattle.ga_causal.proofs.Places.{touching_in, stands_exact, place_step, older_step}
use Rattle.ga_causal.proofs.laws.steps_are_touching_events.Goals as goal

pub returns-clause-events : goal.returns-clause-events
returns-clause-events c events n = touching_in n events

pub returns-clause-stands : goal.returns-clause-stands
returns-clause-stands c = stands_exact

pub returns-clause-place : goal.returns-clause-place
returns-clause-place c = place_step

pub returns-clause-later : goal.returns-clause-later
returns-clause-later c = older_step
