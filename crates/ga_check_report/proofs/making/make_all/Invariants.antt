use Rattle.std.proofs.Common.{◌≡◌, take, drop}
use Rattle.ga_event.specs.Apply.{replay}
use Rattle.ga_lab.specs.Machine.{chip_of_machine}
use Rattle.ga_check_report.specs.Checking.{HasAppendedEvents}
use Rattle.ga_check_report.proofs.making.make_all.Given as goal

abbrev pub invariant-events : goal.invariant-events
invariant-events l = record {
  made : HasAppendedEvents l.initial.lab (take l.place l.events) l.lab;
  rest : replay (chip_of_machine l.lab) (drop l.place l.events) ≡ replay (chip_of_machine l.initial.lab) l.events;
}
