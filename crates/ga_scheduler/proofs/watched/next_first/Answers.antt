use Rattle.std.proofs.Common.{◌≡◌, ◌∙◌, true, false, Option, ap, sym, arith}
use Rattle.ga_grid.specs.declared.node_id.NodeId.{NodeId}
use Rattle.ga_lab.specs.Machine.{chip_of_machine}
use Rattle.ga_races.specs.Orders.{node_has_event}
use Rattle.ga_scheduler.specs.Running.{ScheduledMachine, scheduled_machine}
use Rattle.ga_scheduler.specs.Watched.{next_node_with_precedence}
use Rattle.ga_scheduler.proofs.Stepping.{choice_is, nothing_past}
use Rattle.ga_scheduler.proofs.Events.{chosen_ready, chosen_other}
use Rattle.ga_scheduler.proofs.watched.next_first.Goals as goal

pub next_from-requires-clause-past : goal.next_from-requires-clause-past
next_from-requires-clause-past c = nothing_past (chip_of_machine c.args.lab.now) c.args.ready.now c.requires.ready

pub returns-then-is_number_in_set-clause-chosen : goal.returns-then-is_number_in_set-clause-chosen
returns-then-is_number_in_set-clause-chosen c =
    let r : ScheduledMachine = scheduled_machine c.args.lab.now c.args.schedule.now in
    let node : NodeId = c.in-Some.node in
    let can : node_has_event (chip_of_machine c.args.lab.now) node.number ≡ true =
    sym (c.requires.ready node.number (let l = node.in_range in omega arith)) ∙ sym c.is_number_in_set.ensures ∙ c.if-is_number_in_set.true in
    sym (ap (λ (f : Option NodeId). next_node_with_precedence f r) c.in-Some.is ∙ chosen_ready node r can)

pub returns-else-is_number_in_set-clause-chosen : goal.returns-else-is_number_in_set-clause-chosen
returns-else-is_number_in_set-clause-chosen c =
    let r : ScheduledMachine = scheduled_machine c.args.lab.now c.args.schedule.now in
    let node : NodeId = c.in-Some.node in
    let can : node_has_event (chip_of_machine c.args.lab.now) node.number ≡ false =
    sym (c.requires.ready node.number (let l = node.in_range in omega arith)) ∙ sym c.is_number_in_set.ensures ∙ c.if-is_number_in_set.false in
    c.next_from.ensures.chosen
    ∙ choice_is (chip_of_machine c.args.lab.now) c.args.ready.now c.args.schedule.now c.requires.ready
    ∙ sym (ap (λ (f : Option NodeId). next_node_with_precedence f r) c.in-Some.is ∙ chosen_other node r can)

pub returns-in-None-clause-chosen : goal.returns-in-None-clause-chosen
returns-in-None-clause-chosen c =
    let r : ScheduledMachine = scheduled_machine c.args.lab.now c.args.schedule.now in
    c.next_from-in-None.ensures.chosen
    ∙ choice_is (chip_of_machine c.args.lab.now) c.args.ready.now c.args.schedule.now c.requires.ready
    ∙ sym (ap (λ (f : Option NodeId). next_node_with_precedence f r) c.in-None.is)
