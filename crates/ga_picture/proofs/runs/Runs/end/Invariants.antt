use Rattle.ga_picture.proofs.Running.{AreEnded}
use Rattle.ga_picture.proofs.runs.Runs.end.Given as goal

abbrev pub invariant-nodes : goal.invariant-nodes
invariant-nodes l = AreEnded l.fn.self l.self l.item.cause l.number
