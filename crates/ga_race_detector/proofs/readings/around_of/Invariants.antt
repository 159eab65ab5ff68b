use Rattle.std.proofs.Common.{◌≡◌, length}
use Rattle.ga_race_detector.specs.inner.Glances.{AreKnownStepsLeftCorrect}
use Rattle.ga_race_detector.proofs.readings.around_of.Given as goal

abbrev pub invariant-others : goal.invariant-others
invariant-others l = record {
  size : length l.known.items ≡ length l.glances;
  known : AreKnownStepsLeftCorrect l.causes l.glances l.known.items;
}
