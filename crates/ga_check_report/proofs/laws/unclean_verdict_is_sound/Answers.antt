use Rattle.ga_check_report.proofs.Telling.{unclean_told}
use Rattle.ga_check_report.proofs.laws.unclean_verdict_is_sound.Goals as goal

pub returns : goal.returns
returns c = unclean_told
