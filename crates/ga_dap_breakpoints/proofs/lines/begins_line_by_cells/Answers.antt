use Rattle.std.proofs.Common.{ap, ◌∙◌, ◌+◌, arith}
use Rattle.ga_node.specs.Record.{record_of_node}
use Rattle.ga_provenance.proofs.Made.{stood_of}
use Rattle.ga_dap_breakpoints.specs.Lines.{executed_op}
use Rattle.ga_dap_breakpoints.proofs.Following.{begun_by}
use Rattle.ga_dap_breakpoints.proofs.lines.begins_line_by_cells.Goals as goal

pub returns : goal.returns
returns c =
    let s = c.args.lab.now in
    let node = c.args.node in
    let stands = record_of_node c.node.result.now in
    begun_by c.args.began c.args.notes.now s node c.args.step c.args.before c.args.behind c.previous_slot_address_over_calls-there.result c.slot_address_of_node_record-spot.result stands c.executed_op.result c.enters_line.result
    c.previous_slot_address_over_calls-there.ensures c.slot_address_of_node_record-spot.ensures (stood_of s node c.walk_node_from_step-walk.result (c.args.step + 1) stands c.walk_node_from_step-walk.ensures (omega (arith, c.requires)) c.node.ensures)
    (c.executed_op.ensures ∙ ap executed_op c.made_event_of_step-told.ensures) c.enters_line.ensures
