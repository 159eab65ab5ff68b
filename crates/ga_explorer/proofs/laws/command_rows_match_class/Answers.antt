use Rattle.ga_explorer.proofs.Classes.{explored_class, debugged_class}
use Rattle.ga_explorer.proofs.laws.command_rows_match_class.Goals as goal

pub returns-clause-explored : goal.returns-clause-explored
returns-clause-explored c = explored_class

pub returns-clause-debugged : goal.returns-clause-debugged
returns-clause-debugged c = debugged_class
