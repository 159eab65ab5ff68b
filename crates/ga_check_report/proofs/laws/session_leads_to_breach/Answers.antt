use Rattle.ga_check_report.proofs.ExpectationTelling.{session_told}
use Rattle.ga_check_report.proofs.laws.session_leads_to_breach.Goals as goal

pub returns : goal.returns
returns c = session_told
