use Rattle.std.proofs.Common.{◌≡◌, ◌≤◌, take, drop, get_or, ℕ}
use Rattle.ga_causal.specs.Steps.{count_touching_events}
use Rattle.ga_race_detector.proofs.Depths.{IsGoing}
use Rattle.ga_race_detector.proofs.left.steps_left.Given as goal

abbrev pub invariant-causes : goal.invariant-causes
invariant-causes l = record {
  going : IsGoing l.causes l.node.number l.fn.other.number (λ (n : ℕ). get_or l.depths n 0) l.made l.left.count l.left.list.items (drop l.cause-index l.causes);
  of : l.left.node ≡ l.fn.other;
  all : l.made ≡ count_touching_events l.node.number (take l.cause-index l.causes);
  made : l.made ≤ l.cause-index;
  count : l.left.count ≤ l.cause-index;
}
