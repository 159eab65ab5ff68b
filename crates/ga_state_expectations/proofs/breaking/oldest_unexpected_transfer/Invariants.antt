use Rattle.std.proofs.Common.{◌≡◌, ◌≤◌, length}
use Rattle.ga_lab.specs.Machine.{earlier_state, backward_state}
use Rattle.ga_scheduler.specs.Words.{link_transfer_count}
use Rattle.ga_scheduler.specs.Oldest.{earlier_place}
use Rattle.ga_state_expectations.specs.Breaking.{oldest_unexpected_transfer}
use Rattle.ga_state_expectations.proofs.breaking.oldest_unexpected_transfer.Given as goal

abbrev pub invariant-loop-place : goal.invariant-loop-place
invariant-loop-place l = record {
  within : l.place ≤ length l.lab.kept;
  events : l.events ≡ backward_state l.lab l.place;
  words : link_transfer_count (earlier_state l.lab l.place) l.expected.from.number l.expected.to.number ≡ l.words;
  same : earlier_place (oldest_unexpected_transfer l.expected l.lab l.place) l.oldest ≡ oldest_unexpected_transfer l.expected l.lab (length l.lab.kept);
}

abbrev pub decreases-loop-place : goal.decreases-loop-place
decreases-loop-place l = l.place
