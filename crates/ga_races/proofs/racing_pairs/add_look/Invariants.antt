use Rattle.std.proofs.Common.{◌≡◌, ◌<◌, ◌≤◌, ℕ, false}
use Rattle.ga_races.specs.HappensBefore.{trace_action_at}
use Rattle.ga_races.specs.Acts.{trace_actions_of_accesses, is_look_of_node}
use Rattle.ga_races.proofs.racing_pairs.add_look.Given as goal

abbrev pub invariant-back : goal.invariant-back
invariant-back l = record {
  within : l.place ≤ l.change;
  same : l.list.items ≡ l.fn.list.items;
  none : (q : ℕ) → l.place ≤ q → q < l.change → is_look_of_node (trace_action_at (trace_actions_of_accesses l.acts) q) l.node.number ≡ false;
}

abbrev pub decreases-back : goal.decreases-back
decreases-back l = l.place
