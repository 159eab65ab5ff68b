use Rattle.ga_provenance.proofs.Whole.{listed_once}
use Rattle.ga_provenance.proofs.laws.values_are_listed_once.Goals as goal

pub returns : goal.returns
returns c s value lines whole are line other at place listed first second = listed_once s value lines whole are line other at place listed first second
