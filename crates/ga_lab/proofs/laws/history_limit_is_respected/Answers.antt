use Rattle.ga_lab.proofs.Again as Reached
use Rattle.ga_lab.proofs.laws.history_limit_is_respected.Goals as goal

pub returns : goal.returns
returns c = Reached.fits
