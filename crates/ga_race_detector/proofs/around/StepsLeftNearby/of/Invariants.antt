use Rattle.std.proofs.Common.{◌≡◌, ◌≤◌, take, drop, get_or, ℕ}
use Rattle.ga_causal.specs.Steps.{count_touching_events}
use Rattle.ga_race_detector.proofs.Lefts.{AreGoing, AreMost}
use Rattle.ga_race_detector.proofs.around.StepsLeftNearby.of.Given as goal

abbrev pub invariant-causes : goal.invariant-causes
invariant-causes l = record {
  going : AreGoing l.causes l.from.number l.fn.node.number (λ (n : ℕ). get_or l.depths n 0) l.made l.sweep (drop l.cause-index l.causes);
  all : l.made ≡ count_touching_events l.from.number (take l.cause-index l.causes);
  made : l.made ≤ l.cause-index;
  few : AreMost l.sweep l.cause-index;
}
