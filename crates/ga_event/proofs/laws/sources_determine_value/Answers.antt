use Rattle.ga_event.proofs.Sources.{sources_all, chip_after_replay}
use Rattle.ga_event.proofs.laws.sources_determine_value.Goals as goal

pub returns-clause-value : goal.returns-clause-value
returns-clause-value c = sources_all

pub returns-clause-chip : goal.returns-clause-chip
returns-clause-chip c = chip_after_replay
