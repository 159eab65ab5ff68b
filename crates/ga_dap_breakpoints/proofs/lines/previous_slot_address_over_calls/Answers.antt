use Rattle.std.proofs.Common.{ap, ◌∙◌}
use Rattle.ga_node.specs.Record.{record_of_node}
use Rattle.ga_lab.specs.Machine.{NodeAtStep}
use Rattle.ga_provenance.proofs.Made.{stood_of}
use Rattle.ga_dap_breakpoints.proofs.Following.{stood_here}
use Rattle.ga_dap_breakpoints.proofs.lines.previous_slot_address_over_calls.Goals as goal

pub returns-then-before-place : goal.returns-then-before-place
returns-then-before-place c =
    let s = c.args.lab.now in
    let node = c.args.node in
    let stands = record_of_node c.node.result.now in
    stood_here c.args.began s node c.args.place c.previous_step_count_over_calls-before.result c.args.word stands c.slot_address_of_node_record.result c.previous_step_count_over_calls-before.ensures.value c.if-before-place.true
    (stood_of s node c.walk_back_to.new.self c.args.place stands (c.walk_back_to.ensures ∙ ap (λ (z : NodeAtStep). record z { step = c.args.place }) c.requires.walk) c.requires.within c.node.ensures) c.slot_address_of_node_record.ensures
