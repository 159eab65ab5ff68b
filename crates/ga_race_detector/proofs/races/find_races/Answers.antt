use Rattle.std.proofs.Common.{subst}
use Rattle.std.specs.List.{All}
use Rattle.ga_lab.specs.Machine.{MachineState}
use Rattle.ga_race_detector.specs.Readings.{IsReportedLookRace}
use Rattle.ga_race_detector.proofs.races.find_races.Goals as goal

pub returns-clause-readings : goal.returns-clause-readings
returns-clause-readings c =
    subst (λ (z : MachineState). All (IsReportedLookRace z c.args.only) c.in_ok-readings.readings.items) c.in_ok-list.ensures.same c.in_ok-readings.ensures.told
