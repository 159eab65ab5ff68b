use Rattle.std.proofs.Common.{ap, ◌∙◌, arith}
use Rattle.std.specs.List.{slice_get}
use Rattle.ga_node.specs.Record.{record_of_node}
use Rattle.ga_lab.specs.Machine.{history_of_node}
use Rattle.ga_event.specs.Flow.{flow_of_stored_flow}
use Rattle.ga_provenance.proofs.Made.{then_of, flow_within, flow_none}
use Rattle.ga_provenance.proofs.origin.flow_behind.Goals as goal

pub returns-in-Some-clause-value : goal.returns-in-Some-clause-value
returns-in-Some-clause-value c =
    let s = c.args.lab.now in
    let walk = c.args.walk.now in
    flow_within s c.args.node.number walk.step c.args.part c.in-Some.made (record_of_node c.node.result.now) (flow_of_stored_flow c.part_flow_by_event.result)
    (c.in-Some.ensures ∙ ap (slice_get (history_of_node s c.args.node.number)) c.step.ensures.value)
    (then_of s c.args.node walk (record_of_node c.node.result.now) c.requires.walk (omega (arith, c.step.ensures.value, c.step.ensures.within)) c.node.ensures)
    c.part_flow_by_event.ensures.value

pub returns-in-None-clause-value : goal.returns-in-None-clause-value
returns-in-None-clause-value c =
    flow_none c.args.lab.now c.args.node.number c.args.walk.now.step c.step.result c.args.part c.in-None.ensures c.step.ensures.value
