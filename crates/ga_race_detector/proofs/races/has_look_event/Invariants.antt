use Rattle.std.proofs.Common.{◌≡◌, drop}
use Rattle.ga_race_detector.specs.Races.{has_look_event}
use Rattle.ga_race_detector.proofs.races.has_look_event.Given as goal

abbrev pub invariant-causes : goal.invariant-causes
invariant-causes l = has_look_event l.causes ≡ has_look_event (drop l.cause-index l.causes)
