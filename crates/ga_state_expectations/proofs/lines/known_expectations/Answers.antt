use Rattle.std.proofs.Common.{sym, ap}
use Rattle.ga_state_expectations.specs.Lines.{expectations_if_known}
use Rattle.ga_state_expectations.proofs.lines.known_expectations.Goals as goal

pub returns-in-Ok : goal.returns-in-Ok
returns-in-Ok c = sym (ap expectations_if_known c.in-Ok.ensures)
