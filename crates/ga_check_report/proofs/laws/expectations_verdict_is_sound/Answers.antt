use Rattle.ga_check_report.proofs.ExpectationTelling.{clean_told, one_end_told, unclean_told}
use Rattle.ga_check_report.proofs.laws.expectations_verdict_is_sound.Goals as goal

pub returns-clause-clean : goal.returns-clause-clean
returns-clause-clean c = clean_told

pub returns-clause-same : goal.returns-clause-same
returns-clause-same c = one_end_told

pub returns-clause-unclean : goal.returns-clause-unclean
returns-clause-unclean c = unclean_told
