use Rattle.ga_check_report.proofs.Telling.{clean_told, one_end_told}
use Rattle.ga_check_report.proofs.laws.clean_verdict_is_sound.Goals as goal

pub returns-clause-clean : goal.returns-clause-clean
returns-clause-clean c = clean_told

pub returns-clause-same : goal.returns-clause-same
returns-clause-same c = one_end_told
