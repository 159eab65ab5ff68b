use Rattle.ga_races.proofs.Exact.{no_race_of}
use Rattle.ga_races.proofs.laws.no_race_if_confluent.Goals as goal

pub returns : goal.returns
returns c = no_race_of
