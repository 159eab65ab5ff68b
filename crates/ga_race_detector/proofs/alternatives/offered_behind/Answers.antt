use Rattle.std.proofs.Common.{ap}
use Rattle.std.specs.Prelude.{is_some}
use Rattle.ga_race_detector.proofs.Posted.{offered_left}
use Rattle.ga_race_detector.proofs.alternatives.offered_behind.Goals as goal

pub returns-clause-word : goal.returns-clause-word
returns-clause-word c =
    offered_left c.args.lab.now c.args.step.0.number c.args.step.1 c.args.writer.0.number c.args.writer.1 c.args.side c.posted.result
    (ap is_some c.node-stands.ensures.replays) c.requires.reads c.requires.near c.requires.left c.posted.ensures.value
