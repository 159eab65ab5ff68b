use Rattle.std.proofs.Common.{◌∙◌, ap, arith}
use Rattle.std.specs.Prelude.{option_map}
use Rattle.ga_node.specs.Record.{record_of_node}
use Rattle.ga_provenance.specs.Origins.{node_after_steps}
use Rattle.ga_provenance.specs.Fetched.{fetched_cell}
use Rattle.ga_provenance.proofs.Made.{then_of}
use Rattle.ga_dap_views.specs.Spots.{slot_address}
use Rattle.ga_dap_views.proofs.Standings.{due_so, running_so}
use Rattle.ga_dap_views.proofs.spots.spot_at.Goals as goal

pub returns-then-slot-eq4 : goal.returns-then-slot-eq4
returns-then-slot-eq4 c =
    let s = c.args.lab.now in
    let node = c.args.node in
    let walk = c.args.walk.now in
    let there = then_of s node walk (record_of_node c.node.result.now) c.requires (omega (arith, c.step-step.ensures.value, c.step-step.ensures.within)) c.node.ensures in
    c.due_spot.ensures
    ∙ due_so (record_of_node c.node.result.now) (node_after_steps s node.number walk.step) c.next_slot_and_p-slot.result.0 c.next_slot_and_p-slot.result.1 (fetched_cell s node walk.step) there c.next_slot_and_p-slot.ensures.slot c.next_slot_and_p-slot.ensures.p
    c.if-slot-eq4.true

pub returns-in-Some : goal.returns-in-Some
returns-in-Some c =
    let s = c.args.lab.now in
    let node = c.args.node in
    let walk = c.args.walk.now in
    let there = then_of s node walk (record_of_node c.node.result.now) c.requires (omega (arith, c.step-step.ensures.value, c.step-step.ensures.within)) c.node.ensures in
    ap (option_map (slot_address c.next_slot_and_p-slot.result.0)) (c.in-Some.ensures ∙ ap (fetched_cell s node) c.step-step.ensures.value)
    ∙ running_so (record_of_node c.node.result.now) (node_after_steps s node.number walk.step) c.next_slot_and_p-slot.result.0 (fetched_cell s node walk.step) there c.next_slot_and_p-slot.ensures.slot c.if-slot-eq4.false

pub returns-in-None : goal.returns-in-None
returns-in-None c =
    let s = c.args.lab.now in
    let node = c.args.node in
    let walk = c.args.walk.now in
    let there = then_of s node walk (record_of_node c.node.result.now) c.requires (omega (arith, c.step-step.ensures.value, c.step-step.ensures.within)) c.node.ensures in
    ap (option_map (slot_address c.next_slot_and_p-slot.result.0)) (c.in-None.ensures ∙ ap (fetched_cell s node) c.step-step.ensures.value)
    ∙ running_so (record_of_node c.node.result.now) (node_after_steps s node.number walk.step) c.next_slot_and_p-slot.result.0 (fetched_cell s node walk.step) there c.next_slot_and_p-slot.ensures.slot c.if-slot-eq4.false
