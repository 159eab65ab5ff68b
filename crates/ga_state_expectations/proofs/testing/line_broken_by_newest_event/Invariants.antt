use Rattle.std.proofs.Common.{◌≡◌, drop}
use Rattle.ga_state_expectations.specs.Breaking.{line_broken_by_newest_event}
use Rattle.ga_state_expectations.proofs.testing.line_broken_by_newest_event.Given as goal

abbrev pub invariant-lines : goal.invariant-lines
invariant-lines l = line_broken_by_newest_event (drop l.one-index l.expectations) l.lab ≡ line_broken_by_newest_event l.expectations l.lab
