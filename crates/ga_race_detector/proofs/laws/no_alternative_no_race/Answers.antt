use Rattle.ga_race_detector.proofs.Offering.{no_race_kept}
use Rattle.ga_race_detector.proofs.laws.no_alternative_no_race.Goals as goal

pub returns : goal.returns
returns c = no_race_kept
