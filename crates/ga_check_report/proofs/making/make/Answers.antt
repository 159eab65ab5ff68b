use Rattle.std.proofs.Common.{◌≡◌, Ok, ap, ◌∙◌}
use Rattle.ga_grid.specs.declared.node_id.NodeId.{NodeId}
use Rattle.ga_event.specs.Next.{next_event_of_node}
use Rattle.ga_lab.specs.Machine.{MachineState, chip_of_machine, machine_with_event}
use Rattle.ga_lab.proofs.Forward.{made_is_next}
use Rattle.ga_check_report.proofs.Leading.{stepped_is, told_is, answer_of, chip_after}
use Rattle.ga_check_report.proofs.making.make.Goals as goal

pub returns-in-Ok-clause-made : goal.returns-in-Ok-clause-made
returns-in-Ok-clause-made c =
    let s : MachineState = c.args.lab.now in
    let n : NodeId = c.own_or_writing_node.result in
    c.in-Ok.ensures.ok
    ∙ stepped_is s n c.in-Ok.made c.args.event (answer_of s n c.in-Ok.made c.in-Ok.ensures.answer)
    (ap (λ (z : NodeId). next_event_of_node (chip_of_machine s) z) c.own_or_writing_node.ensures ∙ made_is_next (chip_of_machine s) c.args.event c.requires)

pub returns-in-Ok-clause-chip : goal.returns-in-Ok-clause-chip
returns-in-Ok-clause-chip c =
    let s : MachineState = c.args.lab.now in
    let n : NodeId = c.own_or_writing_node.result in
    let made : c.step.new.self ≡ machine_with_event s (Ok c.args.event) =
    c.in-Ok.ensures.ok
    ∙ stepped_is s n c.in-Ok.made c.args.event (answer_of s n c.in-Ok.made c.in-Ok.ensures.answer)
    (ap (λ (z : NodeId). next_event_of_node (chip_of_machine s) z) c.own_or_writing_node.ensures ∙ made_is_next (chip_of_machine s) c.args.event c.requires) in
    ap chip_of_machine made ∙ chip_after s c.args.event c.chip-chip.ensures.replays c.requires

pub returns-in-Ok-clause-told : goal.returns-in-Ok-clause-told
returns-in-Ok-clause-told c =
    let s : MachineState = c.args.lab.now in
    let n : NodeId = c.own_or_writing_node.result in
    told_is s n c.in-Ok.made c.args.event (answer_of s n c.in-Ok.made c.in-Ok.ensures.answer)
    (ap (λ (z : NodeId). next_event_of_node (chip_of_machine s) z) c.own_or_writing_node.ensures ∙ made_is_next (chip_of_machine s) c.args.event c.requires)
