use Rattle.std.proofs.Common.{◌≡◌, ℕ, suc, ◌-◌, ap, ◌∙◌, refl, arith}
use Rattle.ga_event.specs.Flow.{ValueFlow, flow_of_stored_flow}
use Rattle.ga_provenance.specs.Origins.{moved_source_part, value_made_by_step, origin_after_steps}
use Rattle.ga_lab.specs.Machine.{NodeAtStep}
use Rattle.ga_provenance.proofs.Made.{back_on, back_end, told_so, stays_so}
use Rattle.ga_provenance.proofs.origin.origin_behind.Goals as goal

pub steps-preserved : goal.steps-preserved
steps-preserved c =
    let s = c.args.lab.now in
    let node = c.args.node in
    let value = c.steps.value in
    let k : ℕ = value.step - 1 in
    let told = c.trace_by_steps_as_made-value-in-Some in
    let made = origin_after_steps s node c.args.step c.args.part in
    let is : suc k ≡ value.step = omega (arith, c.steps-test.true) in
    record {
      node = told.ensures.followed.node;
      part = told.ensures.followed.part;
      trail = stays_so s node c.flow_by_trail-flow.new.trail told.new.self c.flow_by_trail-flow.ensures.trail told.ensures.trail;
      order = (let same = ap (λ (z : NodeAtStep). z.step) told.ensures.trail in omega (arith, told.ensures.followed.within, c.flow_by_trail-flow.ensures.order, same));
      back = omega (arith, told.ensures.followed.within, c.steps.invariant.back);
      same = told_so s node (value_made_by_step node k c.in-Some.from) told.result made refl told.ensures.followed.node told.ensures.followed.same
          (back_on s node value.step k value.part c.in-Some.from made is (c.in-Some.ensures.value ∙ ap (λ (z : ValueFlow). moved_source_part z value.part) c.flow_by_trail-flow.ensures.value) c.steps.invariant.same);
    }

pub returns-in-None-clause-value : goal.returns-in-None-clause-value
returns-in-None-clause-value c =
    let s = c.args.lab.now in
    let node = c.args.node in
    let value = c.steps.value in
    let k : ℕ = value.step - 1 in
    let is : suc k ≡ value.step = omega (arith, c.steps-test.true) in
    back_end s node value.step k value.part c.part_to_list_for_value_flow-part.result (flow_of_stored_flow c.flow_by_trail-flow.result) (origin_after_steps s node c.args.step c.args.part)
    is c.flow_by_trail-flow.ensures.value (c.in-None.ensures.value ∙ ap (λ (z : ValueFlow). moved_source_part z value.part) c.flow_by_trail-flow.ensures.value) c.part_to_list_for_value_flow-part.ensures.value c.steps.invariant.same
