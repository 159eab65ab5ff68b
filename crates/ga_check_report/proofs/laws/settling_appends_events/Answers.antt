use Rattle.ga_check_report.proofs.Resting.{behind_waits}
use Rattle.ga_check_report.proofs.laws.settling_appends_events.Goals as goal

pub returns : goal.returns
returns c s runs = behind_waits s runs
