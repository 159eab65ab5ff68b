use Rattle.std.proofs.Common.{◌≡◌, ℕ, ◌≤◌, false}
use Rattle.ga_lab.specs.Machine.{node_at_step}
use Rattle.ga_race_detector.proofs.Silent.{IsSilentAt}
use Rattle.ga_race_detector.proofs.writers.has_written.Given as goal

abbrev pub invariant-back : goal.invariant-back
invariant-back l = record {
  walk : l.walk ≡ node_at_step l.lab l.fn.node l.walk.step;
  silent : l.waits ≡ false → (j : ℕ) → l.walk.step ≤ j → IsSilentAt l.lab l.fn.node.number l.side j;
}

abbrev pub decreases-back : goal.decreases-back
decreases-back l = l.walk.step
