use Rattle.ga_provenance.proofs.Whole.{listed_caused}
use Rattle.ga_provenance.proofs.laws.listed_values_are_causes.Goals as goal

pub returns : goal.returns
returns c s value place lines whole is are line at listed there = listed_caused s value place lines whole is are line at listed there
