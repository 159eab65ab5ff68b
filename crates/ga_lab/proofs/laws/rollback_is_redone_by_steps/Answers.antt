use Rattle.ga_lab.proofs.Again as Again
use Rattle.ga_lab.proofs.laws.rollback_is_redone_by_steps.Goals as goal

pub returns : goal.returns
returns c = Again.rollback_is_redone_by_steps
