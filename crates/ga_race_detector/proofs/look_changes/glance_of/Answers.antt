use Rattle.std.proofs.Common.{◌∙◌, sym, ap}
use Rattle.ga_causal.specs.Dependence.{event_at}
use Rattle.ga_lab.specs.Machine.{chip_of_machine}
use Rattle.ga_race_detector.proofs.Acting.{cause_at}
use Rattle.ga_race_detector.proofs.Glancing.{glanced}
use Rattle.ga_race_detector.proofs.NearReadings.{some_none}
use Rattle.ga_race_detector.proofs.look_changes.glance_of.Goals as goal

pub returns-in_err-node-clause-found : goal.returns-in_err-node-clause-found
returns-in_err-node-clause-found c = λ node looked.
    absurd (some_none node
    (sym (c.looking.ensures.found node
    (cause_at c.args.causes.now c.args.near.look c.index-causes-near.result c.requires.look c.index-causes-near.is ∙ ap (λ z. event_at z c.args.near.look) c.requires.all ∙ looked))
    ∙ c.in_err-node.was))

pub returns-clause-is : goal.returns-clause-is
returns-clause-is c =
    glanced c.args.lab.now (chip_of_machine c.args.lab.now) c.args.causes.now c.args.moments.now c.args.near c.index-causes-near.result c.index-causes-near-2.result c.moment_at-at.result c.moment_at-by.result
    c.in_ok-node.node c.neighbour_node_of_event.result c.steps_beside-before.result
    c.node-stands.ensures.replays c.requires.all c.requires.moments c.requires.look c.requires.change c.index-causes-near.is c.index-causes-near-2.is c.moment_at-at.ensures c.moment_at-by.ensures
    c.in_ok-node.ensures.node c.neighbour_node_of_event.ensures c.steps_beside-before.ensures
