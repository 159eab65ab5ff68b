use Rattle.std.proofs.Common.{◌∙◌, ◌+◌, ◌≡◌, ap, sym, arith}
use Rattle.std.specs.Prelude.{is_some}
use Rattle.ga_node.specs.Record.{record_of_node}
use Rattle.ga_event.specs.Apply.{waits_to_write_side}
use Rattle.ga_lab.specs.Machine.{NodeAtStep, node_at_step}
use Rattle.ga_race_detector.proofs.Silent.{silent, at_walk, silent_here, silent_last, silent_more, walked}
use Rattle.ga_race_detector.proofs.writers.has_written.Goals as goal

pub back-init : goal.back-init
back-init c =
    let s = c.args.lab.now in
    let node = c.args.node in
    let w : NodeAtStep = c.walk_node_from_step-walk.result in
    let step : w.step ≡ c.steps.result = ap (λ (z : NodeAtStep). z.step) c.walk_node_from_step-walk.ensures in
    let is : w ≡ node_at_step s node w.step = c.walk_node_from_step-walk.ensures ∙ ap (node_at_step s node) (sym step) in
    let held = record_of_node c.node.result.now in
    record {
      walk = is;
      silent = λ free. silent_last s node.number c.args.side w.step (step ∙ c.steps.ensures.steps)
          (silent_here s node.number c.args.side w.step held c.is_waiting_to_write-waits.result (at_walk w s node held is c.node.ensures)
          (c.is_waiting_to_write-waits.ensures ∙ ap (λ z. waits_to_write_side z c.args.side) c.wait.ensures.value) free);
    }

pub back-preserved : goal.back-preserved
back-preserved c =
    let s = c.args.lab.now in
    let node = c.args.node in
    let old : NodeAtStep = c.back.walk in
    let new : NodeAtStep = c.back-in-back.new.self in
    let is : new ≡ node_at_step s node new.step = walked old new s node c.back.invariant.walk c.back-in-back.ensures in
    let step : new.step + 1 ≡ old.step = (let e = ap (λ (z : NodeAtStep). z.step) c.back-in-back.ensures in omega (arith, e, c.if-step-gt0.true, c.step.ensures.value)) in
    let held = record_of_node c.node-in-back.result.now in
    record {
      walk = is;
      silent = λ free. silent_more s node.number c.args.side old.step new.step step (c.back.invariant.silent c.back-test.true)
          (silent_here s node.number c.args.side new.step held c.is_waiting_to_write-waits-in-back.result (at_walk new s node held is c.node-in-back.ensures)
          (c.is_waiting_to_write-waits-in-back.ensures ∙ ap (λ z. waits_to_write_side z c.args.side) c.wait-in-back.ensures.value) free);
    }

pub returns-else-step-gt0 : goal.returns-else-step-gt0
returns-else-step-gt0 c = λ free n k near.
    silent c.args.lab.now c.args.node.number c.args.side (ap is_some c.node-stands.ensures.replays)
    (λ j. c.back.invariant.silent free j (omega (arith, c.if-step-gt0.false, c.step.ensures.value))) n k near
