use Rattle.std.proofs.Common.{◌∙◌, ℕ, ap, arith, length-set}
use Rattle.ga_event.specs.Told.{count_steps}
use Rattle.ga_dap_control.proofs.WentLines.{counted_more}
use Rattle.ga_dap_control.proofs.back.steps_kept.Goals as goal

pub loop-number-preserved : goal.loop-number-preserved
loop-number-preserved c = record {
  size = length-set c.loop-number.steps c.loop-number.number c.steps-kept.result ∙ c.loop-number.invariant.size;
  counted = counted_more c.loop-number.steps c.loop-number.number c.steps-kept.result (λ n. count_steps n c.args.lab.now.kept)
      (omega (arith, c.loop-number.invariant.size, c.loop-number-test.true)) c.loop-number.invariant.counted
      (c.steps-kept.ensures.steps ∙ ap (λ (n : ℕ). count_steps n c.args.lab.now.kept) c.new.ensures);
}
