use Rattle.ga_lab.proofs.Traces as Traces
use Rattle.ga_lab.proofs.laws.traces_determine_chip.Goals as goal

pub returns : goal.returns
returns c = Traces.traces_determine_chip
