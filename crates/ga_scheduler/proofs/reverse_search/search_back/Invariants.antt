use Rattle.std.proofs.Common.{◌≡◌, ◌≤◌, max, take, length}
use Rattle.ga_event.specs.Told.{count_steps}
use Rattle.ga_lab.specs.Machine.{earlier_state, backward_state}
use Rattle.ga_scheduler.specs.inner.{condition_transfer_count, condition_node_or_zero, newest_held_prefix_length}
use Rattle.ga_scheduler.proofs.reverse_search.search_back.Given as goal

abbrev pub invariant-loop-place : goal.invariant-loop-place
invariant-loop-place l = record {
  within : l.place ≤ length l.lab.kept;
  events : l.events ≡ backward_state l.lab l.place;
  machine : l.walk.machine ≡ l.lab;
  node : l.walk.node ≡ condition_node_or_zero l.until;
  steps : count_steps (condition_node_or_zero l.until).number (take l.place l.lab.kept) ≤ l.walk.step;
  words : condition_transfer_count l.until (earlier_state l.lab l.place) ≡ l.words;
  same : max l.least (newest_held_prefix_length l.until l.only l.lab l.place) ≡ max l.least (newest_held_prefix_length l.until l.only l.lab (length l.lab.kept));
}

abbrev pub decreases-loop-place : goal.decreases-loop-place
decreases-loop-place l = l.place
