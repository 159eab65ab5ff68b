use Rattle.std.proofs.Common.{◌<◌, ◌∙◌, sym, ap, subst}
use Rattle.std.specs.Prelude.{ℕ}
use Rattle.ga_lab.specs.Machine.{chip_of_machine}
use Rattle.ga_node.specs.State.{IsWaitCode}
use Rattle.ga_event.specs.declared.event.Event.{Event}
use Rattle.ga_event.specs.Touches.{touches}
use Rattle.ga_races.proofs.Independence.{touches_writer, touches_reader}
use Rattle.ga_race_detector.proofs.Acting.{before_node, ends_apart, pass_stood, pass_changes}
use Rattle.ga_race_detector.proofs.acts.Behind.back_pass.Goals as goal

pub back-first-requires-clause-steps : goal.back-first-requires-clause-steps
back-first-requires-clause-steps c =
    (before_node c.args.lab.now (chip_of_machine c.args.lab.now) c.requires.stood.0 c.args.writer.number c.args.cause c.args.self.now.waits c.args.self.now.steps c.requires.replays c.requires.stood.1 c.requires.stood.2
    (ap (λ (e : Event). touches e c.args.writer.number) c.requires.pass.1 ∙ touches_writer c.args.writer c.args.reader c.requires.pass.0) c.args.writer.in_range).0

pub back-first-requires-clause-valid : goal.back-first-requires-clause-valid
back-first-requires-clause-valid c =
    (before_node c.args.lab.now (chip_of_machine c.args.lab.now) c.requires.stood.0 c.args.writer.number c.args.cause c.args.self.now.waits c.args.self.now.steps c.requires.replays c.requires.stood.1 c.requires.stood.2
    (ap (λ (e : Event). touches e c.args.writer.number) c.requires.pass.1 ∙ touches_writer c.args.writer c.args.reader c.requires.pass.0) c.args.writer.in_range).1

pub back-second-requires-clause-steps : goal.back-second-requires-clause-steps
back-second-requires-clause-steps c =
    subst (λ (z : ℕ). 0 < z)
    (sym (c.back-first.ensures.others c.args.reader.number (ends_apart c.args.lab.now (chip_of_machine c.args.lab.now) c.requires.stood.0 c.args.cause c.args.writer c.args.reader c.requires.pass.0 c.requires.replays c.requires.stood.1 c.requires.pass.1)))
    (before_node c.args.lab.now (chip_of_machine c.args.lab.now) c.requires.stood.0 c.args.reader.number c.args.cause c.args.self.now.waits c.args.self.now.steps c.requires.replays c.requires.stood.1 c.requires.stood.2
    (ap (λ (e : Event). touches e c.args.reader.number) c.requires.pass.1 ∙ touches_reader c.args.writer c.args.reader c.requires.pass.0) c.args.reader.in_range).0

pub back-second-requires-clause-valid : goal.back-second-requires-clause-valid
back-second-requires-clause-valid c =
    subst IsWaitCode
    (sym (c.back-first.ensures.waits c.args.reader.number (ends_apart c.args.lab.now (chip_of_machine c.args.lab.now) c.requires.stood.0 c.args.cause c.args.writer c.args.reader c.requires.pass.0 c.requires.replays c.requires.stood.1 c.requires.pass.1)))
    (before_node c.args.lab.now (chip_of_machine c.args.lab.now) c.requires.stood.0 c.args.reader.number c.args.cause c.args.self.now.waits c.args.self.now.steps c.requires.replays c.requires.stood.1 c.requires.stood.2
    (ap (λ (e : Event). touches e c.args.reader.number) c.requires.pass.1 ∙ touches_reader c.args.writer c.args.reader c.requires.pass.0) c.args.reader.in_range).1

pub returns-clause-stood : goal.returns-clause-stood
returns-clause-stood c =
    pass_stood c.args.lab.now (chip_of_machine c.args.lab.now) c.requires.replays c.args.cause c.args.writer c.args.reader c.requires.pass.0 c.requires.pass.1 c.args.self.now.waits c.args.self.now.steps
    c.back-first.new.self.waits c.back-first.new.self.steps c.back-second.new.self.waits c.back-second.new.self.steps c.back-first.result c.back-second.result
    c.back-first.ensures.here c.back-second.ensures.here c.back-first.ensures.sides c.back-second.ensures.sides
    c.back-first.ensures.waits c.back-first.ensures.others c.back-second.ensures.waits c.back-second.ensures.others

pub returns-clause-changes : goal.returns-clause-changes
returns-clause-changes c =
    pass_changes c.args.lab.now (chip_of_machine c.args.lab.now) c.requires.replays c.args.cause c.args.writer c.args.reader c.requires.pass.0 c.requires.pass.1 c.args.self.now.waits c.args.self.now.steps
    c.back-first.new.self.waits c.back-first.new.self.steps c.back-second.new.self.waits c.back-second.new.self.steps c.back-first.result c.back-second.result
    c.back-first.ensures.here c.back-second.ensures.here c.back-first.ensures.sides c.back-second.ensures.sides
    c.back-first.ensures.waits c.back-first.ensures.others c.back-second.ensures.waits c.back-second.ensures.others
