use Rattle.std.proofs.Common.{◌≡◌, ◌∙◌, Some, None, refl, sym, ap}
use Rattle.std.specs.Prelude.{is_some}
use Rattle.ga_lab.specs.Machine.{chip_of_machine}
use Rattle.ga_scheduler.specs.Running.{ScheduledMachine, scheduled_machine, node_to_run, next_run_event, run_after_next_event}
use Rattle.ga_scheduler.proofs.WordCounts.{all_counted_on}
use Rattle.ga_scheduler.proofs.Stepping.{choice_is, nothing_past, quiet_is}
use Rattle.ga_scheduler.proofs.Events.{told_is, moved_is, held_is, stayed}
use Rattle.ga_scheduler.proofs.running.advance.Goals as goal

pub next_from-requires-clause-past : goal.next_from-requires-clause-past
next_from-requires-clause-past c = nothing_past (chip_of_machine c.args.lab.now) c.args.ready.now c.requires.ready

pub first_holding_condition-requires-clause-counted : goal.first_holding_condition-requires-clause-counted
first_holding_condition-requires-clause-counted c = all_counted_on c.args.until.now c.args.lab.now c.make.new.lab c.in-Ok.made c.args.words.now c.in-Ok.ensures.words c.requires.counted

pub returns-in-Some-first_holding_condition-clause-over : goal.returns-in-Some-first_holding_condition-clause-over
returns-in-Some-first_holding_condition-clause-over c =
    let who : node_to_run (scheduled_machine c.args.lab.now c.args.schedule.now) ≡ Some c.in-Some.node =
    sym (choice_is (chip_of_machine c.args.lab.now) c.args.ready.now c.args.schedule.now c.requires.ready) ∙ sym c.in-Some.ensures.chosen in
    let here : ScheduledMachine = scheduled_machine c.args.lab.now c.args.schedule.now in
    let next : ScheduledMachine = scheduled_machine c.make.new.lab c.make.new.schedule in
    let is : next_run_event here ≡ Some c.in-Ok.made = told_is c.args.lab.now c.args.schedule.now c.in-Some.node c.in-Ok.made who c.in-Ok.ensures.ok in
    let on : next ≡ run_after_next_event here = moved_is c.args.lab.now c.make.new.lab c.args.schedule.now c.make.new.schedule c.in-Some.node who c.in-Ok.ensures.state c.in-Ok.ensures.schedule in
    (is, held_is c.args.until.now here next c.in-Ok.made (Some c.in-Some-first_holding_condition.which) is on c.in-Some-first_holding_condition.ensures.first, on)

pub returns-in_default-clause-made : goal.returns-in_default-clause-made
returns-in_default-clause-made c =
    let who : node_to_run (scheduled_machine c.args.lab.now c.args.schedule.now) ≡ Some c.in-Some.node =
    sym (choice_is (chip_of_machine c.args.lab.now) c.args.ready.now c.args.schedule.now c.requires.ready) ∙ sym c.in-Some.ensures.chosen in
    ap is_some (told_is c.args.lab.now c.args.schedule.now c.in-Some.node c.in-Ok.made who c.in-Ok.ensures.ok)

pub returns-in_default-clause-unmet : goal.returns-in_default-clause-unmet
returns-in_default-clause-unmet c =
    let who : node_to_run (scheduled_machine c.args.lab.now c.args.schedule.now) ≡ Some c.in-Some.node =
    sym (choice_is (chip_of_machine c.args.lab.now) c.args.ready.now c.args.schedule.now c.requires.ready) ∙ sym c.in-Some.ensures.chosen in
    let here : ScheduledMachine = scheduled_machine c.args.lab.now c.args.schedule.now in
    let next : ScheduledMachine = scheduled_machine c.make.new.lab c.make.new.schedule in
    let is : next_run_event here ≡ Some c.in-Ok.made = told_is c.args.lab.now c.args.schedule.now c.in-Some.node c.in-Ok.made who c.in-Ok.ensures.ok in
    let on : next ≡ run_after_next_event here = moved_is c.args.lab.now c.make.new.lab c.args.schedule.now c.make.new.schedule c.in-Some.node who c.in-Ok.ensures.state c.in-Ok.ensures.schedule in
    held_is c.args.until.now here next c.in-Ok.made None is on c.in_default.ensures.first

pub returns-in_default-clause-moved : goal.returns-in_default-clause-moved
returns-in_default-clause-moved c =
    let who : node_to_run (scheduled_machine c.args.lab.now c.args.schedule.now) ≡ Some c.in-Some.node =
    sym (choice_is (chip_of_machine c.args.lab.now) c.args.ready.now c.args.schedule.now c.requires.ready) ∙ sym c.in-Some.ensures.chosen in
    moved_is c.args.lab.now c.make.new.lab c.args.schedule.now c.make.new.schedule c.in-Some.node who c.in-Ok.ensures.state c.in-Ok.ensures.schedule

pub returns-in-Err-clause-over : goal.returns-in-Err-clause-over
returns-in-Err-clause-over c =
    let who : node_to_run (scheduled_machine c.args.lab.now c.args.schedule.now) ≡ Some c.in-Some.node =
    sym (choice_is (chip_of_machine c.args.lab.now) c.args.ready.now c.args.schedule.now c.requires.ready) ∙ sym c.in-Some.ensures.chosen in
    ((c.in-Some.node, who, c.in-Err.ensures.refused), stayed c.args.lab.now c.make.new.lab c.args.schedule.now c.make.new.schedule c.in-Err.ensures.same c.in-Err.ensures.stays)

pub first_holding_condition-requires-in-Ok-make-clause-counted : goal.first_holding_condition-requires-in-Ok-make-clause-counted
first_holding_condition-requires-in-Ok-make-clause-counted c = all_counted_on c.args.until.now c.args.lab.now c.make-else-is_none.new.lab c.in-Ok-make.made c.args.words.now c.in-Ok-make.ensures.words c.requires.counted

pub returns-in-Some-first_holding_condition-2-clause-over : goal.returns-in-Some-first_holding_condition-2-clause-over
returns-in-Some-first_holding_condition-2-clause-over c =
    let who : node_to_run (scheduled_machine c.args.lab.now c.args.schedule.now) ≡ Some c.in-Some.node =
    sym (choice_is (chip_of_machine c.args.lab.now) c.args.ready.now c.args.schedule.now c.requires.ready) ∙ sym c.in-Some.ensures.chosen in
    let here : ScheduledMachine = scheduled_machine c.args.lab.now c.args.schedule.now in
    let next : ScheduledMachine = scheduled_machine c.make-else-is_none.new.lab c.make-else-is_none.new.schedule in
    let is : next_run_event here ≡ Some c.in-Ok-make.made = told_is c.args.lab.now c.args.schedule.now c.in-Some.node c.in-Ok-make.made who c.in-Ok-make.ensures.ok in
    let on : next ≡ run_after_next_event here = moved_is c.args.lab.now c.make-else-is_none.new.lab c.args.schedule.now c.make-else-is_none.new.schedule c.in-Some.node who c.in-Ok-make.ensures.state c.in-Ok-make.ensures.schedule in
    (is, held_is c.args.until.now here next c.in-Ok-make.made (Some c.in-Some-first_holding_condition-2.which) is on c.in-Some-first_holding_condition-2.ensures.first, on)

pub returns-in_default-first_holding_condition-clause-made : goal.returns-in_default-first_holding_condition-clause-made
returns-in_default-first_holding_condition-clause-made c =
    let who : node_to_run (scheduled_machine c.args.lab.now c.args.schedule.now) ≡ Some c.in-Some.node =
    sym (choice_is (chip_of_machine c.args.lab.now) c.args.ready.now c.args.schedule.now c.requires.ready) ∙ sym c.in-Some.ensures.chosen in
    ap is_some (told_is c.args.lab.now c.args.schedule.now c.in-Some.node c.in-Ok-make.made who c.in-Ok-make.ensures.ok)

pub returns-in_default-first_holding_condition-clause-unmet : goal.returns-in_default-first_holding_condition-clause-unmet
returns-in_default-first_holding_condition-clause-unmet c =
    let who : node_to_run (scheduled_machine c.args.lab.now c.args.schedule.now) ≡ Some c.in-Some.node =
    sym (choice_is (chip_of_machine c.args.lab.now) c.args.ready.now c.args.schedule.now c.requires.ready) ∙ sym c.in-Some.ensures.chosen in
    let here : ScheduledMachine = scheduled_machine c.args.lab.now c.args.schedule.now in
    let next : ScheduledMachine = scheduled_machine c.make-else-is_none.new.lab c.make-else-is_none.new.schedule in
    let is : next_run_event here ≡ Some c.in-Ok-make.made = told_is c.args.lab.now c.args.schedule.now c.in-Some.node c.in-Ok-make.made who c.in-Ok-make.ensures.ok in
    let on : next ≡ run_after_next_event here = moved_is c.args.lab.now c.make-else-is_none.new.lab c.args.schedule.now c.make-else-is_none.new.schedule c.in-Some.node who c.in-Ok-make.ensures.state c.in-Ok-make.ensures.schedule in
    held_is c.args.until.now here next c.in-Ok-make.made None is on c.in_default-first_holding_condition.ensures.first

pub returns-in_default-first_holding_condition-clause-moved : goal.returns-in_default-first_holding_condition-clause-moved
returns-in_default-first_holding_condition-clause-moved c =
    let who : node_to_run (scheduled_machine c.args.lab.now c.args.schedule.now) ≡ Some c.in-Some.node =
    sym (choice_is (chip_of_machine c.args.lab.now) c.args.ready.now c.args.schedule.now c.requires.ready) ∙ sym c.in-Some.ensures.chosen in
    moved_is c.args.lab.now c.make-else-is_none.new.lab c.args.schedule.now c.make-else-is_none.new.schedule c.in-Some.node who c.in-Ok-make.ensures.state c.in-Ok-make.ensures.schedule

pub returns-in-Err-make-clause-over : goal.returns-in-Err-make-clause-over
returns-in-Err-make-clause-over c =
    let who : node_to_run (scheduled_machine c.args.lab.now c.args.schedule.now) ≡ Some c.in-Some.node =
    sym (choice_is (chip_of_machine c.args.lab.now) c.args.ready.now c.args.schedule.now c.requires.ready) ∙ sym c.in-Some.ensures.chosen in
    ((c.in-Some.node, who, c.in-Err-make.ensures.refused), stayed c.args.lab.now c.make-else-is_none.new.lab c.args.schedule.now c.make-else-is_none.new.schedule c.in-Err-make.ensures.same c.in-Err-make.ensures.stays)

pub returns-in-None-clause-over : goal.returns-in-None-clause-over
returns-in-None-clause-over c = (
  quiet_is (chip_of_machine c.args.lab.now) c.args.schedule.now
      (sym (choice_is (chip_of_machine c.args.lab.now) c.args.ready.now c.args.schedule.now c.requires.ready) ∙ sym c.in-None.ensures.chosen),
  refl,
)
