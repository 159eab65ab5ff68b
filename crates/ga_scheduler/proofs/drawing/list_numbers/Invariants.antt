use Rattle.std.proofs.Common.{◌≡◌, ◌-◌, ◌≤◌}
use Rattle.ga_scheduler.specs.inner.{is_number_in_set}
use Rattle.ga_scheduler.specs.Schedules.{passing_numbers_below}
use Rattle.ga_scheduler.proofs.drawing.list_numbers.Given as goal

abbrev pub invariant-loop-from : goal.invariant-loop-from
invariant-loop-from l = record {
  within : l.from ≤ 144;
  listed : l.numbers.items ≡ passing_numbers_below (is_number_in_set l.ready) l.from;
}

abbrev pub decreases-loop-from : goal.decreases-loop-from
decreases-loop-from l = 144 - l.from
