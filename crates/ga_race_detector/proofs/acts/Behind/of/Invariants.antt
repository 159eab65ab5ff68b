use Rattle.std.proofs.Common.{◌≡◌, ◌<◌, ℕ, length, take}
use Rattle.std.specs.Prelude.{slice_index}
use Rattle.ga_race_detector.specs.inner.Glances.{HadWaitAndSteps}
use Rattle.ga_race_detector.proofs.acts.Behind.of.Given as goal

abbrev pub invariant-nodes : goal.invariant-nodes
invariant-nodes l = record {
  waits : length l.waits ≡ 144;
  steps : length l.steps ≡ 144;
  stood : (p : ℕ) → take p l.lab.kept ≡ l.lab.kept → (m : ℕ) → m < l.number → HadWaitAndSteps l.lab m p (slice_index l.waits m) (slice_index l.steps m);
}
