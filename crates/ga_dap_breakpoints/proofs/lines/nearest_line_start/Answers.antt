use Rattle.std.proofs.Common.{sym, ap, ◌∙◌, ◌-◌, arith}
use Rattle.ga_lab.specs.Machine.{NodeAtStep}
use Rattle.ga_provenance.proofs.Made.{has_step_so}
use Rattle.ga_dap_views.specs.Spots.{slot_address_after_steps}
use Rattle.ga_dap_breakpoints.specs.Lines.{executed_op, nearest_line_start}
use Rattle.ga_dap_breakpoints.proofs.Beginnings.{began_here, began_before, began_at_load, none_looked_at}
use Rattle.ga_dap_breakpoints.proofs.lines.nearest_line_start.Goals as goal

pub going-preserved : goal.going-preserved
going-preserved c =
    let s = c.args.lab.now in
    let node = c.args.node in
    let at = ap (λ (z : NodeAtStep). z.step) c.slot_address_of_walked_back_node-there.ensures.walk in
    record {
      walk = has_step_so s node c.previous_step_count_over_calls-before.result c.slot_address_of_walked_back_node-there.new.walk c.slot_address_of_walked_back_node-there.ensures.walk;
      order = omega (arith, at);
      within = omega (arith, c.previous_step_count_over_calls-before.ensures.within, c.going.invariant.within);
      spot = c.slot_address_of_walked_back_node-there.ensures.spot;
      same = c.going.invariant.same
          ∙ began_before c.args.notes.now s node c.going.place c.going.left c.slot_address_of_walked_back_node-there.result c.going.spot c.executed_op-op.result c.enters_line.result (omega arith) (omega arith)
          (c.slot_address_of_walked_back_node-there.ensures.spot ∙ ap (slot_address_after_steps s node) c.previous_step_count_over_calls-before.ensures.value) c.going.invariant.spot (c.executed_op-op.ensures ∙ ap executed_op c.made_event_of_step-told.ensures) c.enters_line.ensures c.if-enters_line.false
          ∙ ap (λ z. nearest_line_start c.args.notes.now s node z (c.going.left - 1)) (sym c.previous_step_count_over_calls-before.ensures.value);
    }

pub returns-then-place-eq0 : goal.returns-then-place-eq0
returns-then-place-eq0 c = sym (c.going.invariant.same ∙ began_at_load c.args.notes.now c.args.lab.now c.args.node c.going.place c.going.left c.if-place-eq0.true)

pub returns-then-enters_line : goal.returns-then-enters_line
returns-then-enters_line c =
    let s = c.args.lab.now in
    let node = c.args.node in
    sym (c.going.invariant.same
    ∙ began_here c.args.notes.now s node c.going.place c.going.left c.slot_address_of_walked_back_node-there.result c.going.spot c.executed_op-op.result c.enters_line.result (omega arith) (omega arith)
    (c.slot_address_of_walked_back_node-there.ensures.spot ∙ ap (slot_address_after_steps s node) c.previous_step_count_over_calls-before.ensures.value) c.going.invariant.spot (c.executed_op-op.ensures ∙ ap executed_op c.made_event_of_step-told.ensures) c.enters_line.ensures c.if-enters_line.true)

pub returns : goal.returns
returns c = sym (c.going.invariant.same ∙ none_looked_at c.args.notes.now c.args.lab.now c.args.node c.going.place c.going.left (omega arith))
