use Rattle.std.proofs.Common.{◌≡◌, ◌≤◌, ℕ, sym, ap, subst, ◌∙◌, arith}
use Rattle.std.specs.Prelude.{slice_index}
use Rattle.ga_node.specs.Record.{NodeRecord, record_of_node}
use Rattle.ga_event.specs.Told.{count_steps}
use Rattle.ga_lab.specs.Machine.{NodeAtStep}
use Rattle.ga_provenance.specs.inner.{AreRegistersAfterSteps}
use Rattle.ga_provenance.proofs.Made.{has_step_so, stood_of}
use Rattle.ga_provenance.proofs.writes.CellWrites.new.Goals as goal

pub invariant_of-result : goal.invariant_of-result
invariant_of-result c =
    let s = c.args.lab.now in
    let node = c.args.node in
    let step = c.steps-step.result in
    let within : step ≤ count_steps node.number s.kept = omega (arith, c.steps-step.ensures.steps) in
    let same : c.new.result.step ≡ step = ap (λ (z : NodeAtStep). z.step) (c.new.ensures.walk ∙ c.walk_node_from_step-walk.ensures) in
    record {
      of_ram = c.requires;
      trail = has_step_so s node step c.new.result (c.new.ensures.walk ∙ c.walk_node_from_step-walk.ensures);
      order = omega (arith, same);
      held = record {
        registers = subst (λ (k : ℕ). AreRegistersAfterSteps s node.number k c.registers_in-registers.result) (ap (λ (z : NodeAtStep). z.step) c.walk_node_from_step-walk.ensures) c.registers_in-registers.ensures;
        word = ap (λ (z : NodeRecord). slice_index z.ram c.args.cell)
            (sym (stood_of s node c.walk_node_from_step-walk.result step (record_of_node c.node.result.now) c.walk_node_from_step-walk.ensures within c.node.ensures)) ∙ sym c.word_in-word.ensures.value;
        fits = c.word_in-word.ensures.fits;
      };
    }
