use Rattle.ga_check_report.proofs.NeverTelling.{reached_told}
use Rattle.ga_check_report.proofs.laws.reached_event_verdict_is_sound.Goals as goal

pub returns : goal.returns
returns c = reached_told
