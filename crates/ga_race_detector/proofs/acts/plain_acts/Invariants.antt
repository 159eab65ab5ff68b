use Rattle.std.proofs.Common.{◌≡◌, take}
use Rattle.ga_races.specs.HappensBefore.{events_with_looks_of_trace_actions}
use Rattle.ga_races.specs.Acts.{trace_actions_of_accesses}
use Rattle.ga_race_detector.proofs.acts.plain_acts.Given as goal

abbrev pub invariant-causes : goal.invariant-causes
invariant-causes l = events_with_looks_of_trace_actions (trace_actions_of_accesses l.acts.items) ≡ take l.cause-index l.causes
