use Rattle.ga_race_detector.proofs.Offering.{no_next}
use Rattle.ga_race_detector.proofs.laws.terminal_iff_no_next_event.Goals as goal

pub returns : goal.returns
returns c = no_next
