use Rattle.ga_picture.proofs.Running.{none_counted}
use Rattle.ga_picture.proofs.runs.Runs.new.Goals as goal

pub returns-clause-none : goal.returns-clause-none
returns-clause-none c = none_counted
