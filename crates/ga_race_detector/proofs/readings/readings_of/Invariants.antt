use Rattle.std.proofs.Common.{◌≡◌, length}
use Rattle.std.specs.List.{All}
use Rattle.ga_race_detector.specs.Readings.{IsReportedLookRace}
use Rattle.ga_race_detector.specs.inner.Glances.{AreKnownStepsLeftCorrect}
use Rattle.ga_race_detector.proofs.NearReadings.{AreReadUpto}
use Rattle.ga_race_detector.proofs.readings.readings_of.Given as goal

abbrev pub invariant-glances : goal.invariant-glances
invariant-glances l = record {
  size : length l.known.items ≡ length l.glances;
  known : AreKnownStepsLeftCorrect l.causes l.glances l.known.items;
  told : All (IsReportedLookRace l.lab l.only) l.list.items;
  found : AreReadUpto l.lab l.only l.glances l.place l.list.items;
}
