use Rattle.std.proofs.Common.{◌≡◌, ◌≤◌, length}
use Rattle.ga_race_detector.specs.inner.Glances.{AllNodesHadWaitsAndSteps, AreStepCountsOfEventsFrom}
use Rattle.ga_race_detector.proofs.Acting.{AreActsFrom, HaveCauses}
use Rattle.ga_race_detector.proofs.acts.kept_accesses.Given as goal

abbrev pub invariant-back : goal.invariant-back
invariant-back l = record {
  size : length l.acts.items ≡ length l.causes;
  many : length l.moments.items ≡ length l.causes;
  within : l.place ≤ length l.acts.items;
  causes : HaveCauses l.acts.items l.causes;
  changes : AreActsFrom l.lab l.place l.acts.items;
  moments : AreStepCountsOfEventsFrom l.lab l.place l.causes l.moments.items;
  stood : AllNodesHadWaitsAndSteps l.lab l.place l.behind.waits l.behind.steps;
}

abbrev pub decreases-back : goal.decreases-back
decreases-back l = l.place
