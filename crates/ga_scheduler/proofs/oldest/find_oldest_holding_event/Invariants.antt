use Rattle.std.proofs.Common.{◌≡◌, ◌≤◌, take, length}
use Rattle.ga_event.specs.Told.{count_steps}
use Rattle.ga_lab.specs.Machine.{earlier_state, backward_state}
use Rattle.ga_scheduler.specs.inner.{condition_transfer_count, condition_node_or_zero}
use Rattle.ga_scheduler.specs.Oldest.{earlier_place, oldest_holding_event}
use Rattle.ga_scheduler.proofs.oldest.find_oldest_holding_event.Given as goal

abbrev pub invariant-loop-place : goal.invariant-loop-place
invariant-loop-place l = record {
  within : l.place ≤ length l.lab.kept;
  events : l.events ≡ backward_state l.lab l.place;
  machine : l.walk.machine ≡ l.lab;
  node : l.walk.node ≡ condition_node_or_zero l.until;
  steps : count_steps (condition_node_or_zero l.until).number (take l.place l.lab.kept) ≤ l.walk.step;
  words : condition_transfer_count l.until (earlier_state l.lab l.place) ≡ l.words;
  same : earlier_place (oldest_holding_event l.until l.lab l.place) l.oldest ≡ oldest_holding_event l.until l.lab (length l.lab.kept);
}

abbrev pub decreases-loop-place : goal.decreases-loop-place
decreases-loop-place l = l.place
