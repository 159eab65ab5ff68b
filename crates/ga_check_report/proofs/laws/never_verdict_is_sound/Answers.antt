use Rattle.ga_check_report.proofs.NeverTelling.{never_told}
use Rattle.ga_check_report.proofs.laws.never_verdict_is_sound.Goals as goal

pub returns : goal.returns
returns c = never_told
