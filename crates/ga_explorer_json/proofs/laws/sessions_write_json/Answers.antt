use Rattle.ga_explorer_json.proofs.JsonSessions.{session_lines}
use Rattle.ga_explorer_json.proofs.laws.sessions_write_json.Goals as goal

pub returns : goal.returns
returns c = session_lines
