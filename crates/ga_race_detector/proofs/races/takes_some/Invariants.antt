use Rattle.std.proofs.Common.{◌≡◌, []}
use Rattle.ga_race_detector.specs.Races.{races_of_first_steps}
use Rattle.ga_race_detector.proofs.races.takes_some.Given as goal

abbrev pub invariant-steps : goal.invariant-steps
invariant-steps l = [] ≡ races_of_first_steps l.lab l.node l.place
