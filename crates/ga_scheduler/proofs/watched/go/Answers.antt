use Rattle.std.proofs.Common.{sym}
use Rattle.ga_lab.specs.Machine.{chip_of_machine}
use Rattle.ga_scheduler.specs.Running.{scheduled_machine}
use Rattle.ga_scheduler.proofs.Stepping.{quiet_is}
use Rattle.ga_scheduler.proofs.Events.{none_left, told_is_first, moved_is_first}
use Rattle.ga_scheduler.proofs.watched.go.Goals as goal

pub returns-in-None-clause-halted : goal.returns-in-None-clause-halted
returns-in-None-clause-halted c =
    quiet_is (chip_of_machine c.args.lab.now) c.args.schedule.now
    (none_left c.args.first (scheduled_machine c.args.lab.now c.args.schedule.now) (sym c.in-None.ensures.chosen))

pub returns-in-Ok-clause-told : goal.returns-in-Ok-clause-told
returns-in-Ok-clause-told c =
    told_is_first c.args.first c.args.lab.now c.args.schedule.now c.in-Some.node c.in-Ok.made (sym c.in-Some.ensures.chosen) c.in-Ok.ensures.ok

pub returns-in-Ok-clause-moved : goal.returns-in-Ok-clause-moved
returns-in-Ok-clause-moved c =
    moved_is_first c.args.first c.args.lab.now c.make.new.lab c.args.schedule.now c.make.new.schedule c.in-Some.node (sym c.in-Some.ensures.chosen) c.in-Ok.ensures.state c.in-Ok.ensures.schedule

pub returns-in-Err-clause-halted : goal.returns-in-Err-clause-halted
returns-in-Err-clause-halted c = (c.in-Some.node, sym c.in-Some.ensures.chosen, c.in-Err.ensures.refused)

pub returns-in-Ok-clause-step : goal.returns-in-Ok-clause-step
returns-in-Ok-clause-step c = record { node = c.in-Some.node; replays = c.requires.replays; told = c.in-Ok.ensures.ok; moved = c.in-Ok.ensures.state }
