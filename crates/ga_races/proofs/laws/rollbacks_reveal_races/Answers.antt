use Rattle.ga_event.specs.declared.event.Event.TheVariants.{Pass}
use Rattle.ga_races.proofs.Blind.{race_shows, decided}
use Rattle.ga_races.proofs.laws.rollbacks_reveal_races.Goals as goal

pub returns-clause-shown_state : goal.returns-clause-shown_state
returns-clause-shown_state c chip last events steps w x r side other is none race rivals = race_shows chip last events steps is none (Pass w r side) (Pass x r other) race rivals

pub returns-clause-decided : goal.returns-clause-decided
returns-clause-decided c = decided
