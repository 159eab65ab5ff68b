use Rattle.ga_check_report.proofs.Telling.{session_told}
use Rattle.ga_check_report.proofs.laws.session_leads_to_end.Goals as goal

pub returns : goal.returns
returns c = session_told
