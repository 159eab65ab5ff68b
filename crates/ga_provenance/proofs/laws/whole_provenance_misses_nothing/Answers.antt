use Rattle.ga_provenance.proofs.Whole.{sources_listed}
use Rattle.ga_provenance.proofs.laws.whole_provenance_misses_nothing.Goals as goal

pub returns-clause-sources : goal.returns-clause-sources
returns-clause-sources c s value lines are line at listed is = sources_listed s value lines are line at listed is
