use Rattle.ga_races.proofs.Rounds.{round_alone, round_left, shortest_has_none}
use Rattle.ga_races.proofs.laws.polling_rounds_are_removable.Goals as goal

pub returns-clause-alone : goal.returns-clause-alone
returns-clause-alone c = round_alone

pub returns-clause-left : goal.returns-clause-left
returns-clause-left c = round_left

pub returns-clause-shortest : goal.returns-clause-shortest
returns-clause-shortest c = shortest_has_none
