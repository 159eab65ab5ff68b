use Rattle.std.proofs.Common.{◌≡◌, ◌+◌, length}
use Rattle.ga_scheduler.specs.Words.{link_transfers, unlisted_transfers}
use Rattle.ga_state_expectations.specs.Statuses.{first_link_fault}
use Rattle.ga_state_expectations.proofs.status.link_status.Given as goal

abbrev pub invariant-words : goal.invariant-words
invariant-words l = record {
  first : first_link_fault l.expected l.place (unlisted_transfers l.lab l.words) ≡ first_link_fault l.expected 0 (link_transfers l.lab l.expected.from.number l.expected.to.number);
  count : l.place + length (unlisted_transfers l.lab l.words) ≡ length (link_transfers l.lab l.expected.from.number l.expected.to.number);
}

abbrev pub decreases-words : goal.decreases-words
decreases-words l = length (unlisted_transfers l.lab l.words)
