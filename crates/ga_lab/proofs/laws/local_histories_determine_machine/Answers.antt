use Rattle.ga_lab.proofs.Alike as Alike
use Rattle.ga_lab.proofs.laws.local_histories_determine_machine.Goals as goal

pub returns : goal.returns
returns c = Alike.consistent
