use Rattle.std.proofs.Common.{◌∙◌, ap}
use Rattle.ga_lab.specs.Machine.{chip_of_machine}
use Rattle.ga_event.specs.declared.event.Event.{Event}
use Rattle.ga_event.specs.Touches.{touches}
use Rattle.ga_races.proofs.Independence.{touches_own}
use Rattle.ga_race_detector.proofs.Acting.{before_node, own_stood, own_changes}
use Rattle.ga_race_detector.proofs.acts.Behind.back_own.Goals as goal

pub back-first-requires-clause-steps : goal.back-first-requires-clause-steps
back-first-requires-clause-steps c =
    (before_node c.args.lab.now (chip_of_machine c.args.lab.now) c.requires.stood.0 c.args.node.number c.args.cause c.args.self.now.waits c.args.self.now.steps c.requires.replays c.requires.stood.1 c.requires.stood.2
    (ap (λ (e : Event). touches e c.args.node.number) c.requires.own ∙ touches_own c.args.node) c.args.node.in_range).0

pub back-first-requires-clause-valid : goal.back-first-requires-clause-valid
back-first-requires-clause-valid c =
    (before_node c.args.lab.now (chip_of_machine c.args.lab.now) c.requires.stood.0 c.args.node.number c.args.cause c.args.self.now.waits c.args.self.now.steps c.requires.replays c.requires.stood.1 c.requires.stood.2
    (ap (λ (e : Event). touches e c.args.node.number) c.requires.own ∙ touches_own c.args.node) c.args.node.in_range).1

pub returns-clause-stood : goal.returns-clause-stood
returns-clause-stood c =
    own_stood c.args.lab.now (chip_of_machine c.args.lab.now) c.requires.replays c.args.cause c.args.node c.requires.own c.args.self.now.waits c.args.self.now.steps c.back-first.new.self.waits c.back-first.new.self.steps
    c.back-first.result c.no_sides.result c.back-first.ensures.here c.back-first.ensures.sides c.back-first.ensures.waits c.back-first.ensures.others

pub returns-clause-changes : goal.returns-clause-changes
returns-clause-changes c =
    own_changes c.args.lab.now (chip_of_machine c.args.lab.now) c.requires.replays c.args.cause c.args.node c.requires.own c.args.self.now.waits c.args.self.now.steps c.back-first.new.self.waits c.back-first.new.self.steps
    c.back-first.result c.no_sides.result c.back-first.ensures.here c.back-first.ensures.sides c.back-first.ensures.waits c.back-first.ensures.others
