use Rattle.std.proofs.Common.{◌≡◌}
use Rattle.ga_grid.specs.Chip.{records_of_chip}
use Rattle.ga_race_detector.specs.Races.{has_next_look_event}
use Rattle.ga_race_detector.proofs.races.has_next_look_event.Given as goal

abbrev pub invariant-nodes : goal.invariant-nodes
invariant-nodes l = l.looks ≡ has_next_look_event (records_of_chip l.chip) l.number
