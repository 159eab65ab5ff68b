use Rattle.ga_races.proofs.Sweeps.{near_races, contended_races}
use Rattle.ga_races.proofs.Contended.{rivals_contended, decided_by}
use Rattle.ga_races.proofs.laws.races_read_from_list.Goals as goal

pub returns-clause-looks : goal.returns-clause-looks
returns-clause-looks c chip last events = near_races events chip last

pub returns-clause-passes : goal.returns-clause-passes
returns-clause-passes c = contended_races

pub returns-clause-rivals : goal.returns-clause-rivals
returns-clause-rivals c = rivals_contended

pub returns-clause-decided : goal.returns-clause-decided
returns-clause-decided c = decided_by
