use Rattle.ga_races.proofs.Kahn.{one_writer_means_no_race}
use Rattle.ga_races.proofs.laws.one_writer_means_no_race.Goals as goal

pub returns : goal.returns
returns c = one_writer_means_no_race
