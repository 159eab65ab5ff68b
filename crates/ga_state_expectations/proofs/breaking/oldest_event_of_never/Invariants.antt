use Rattle.std.proofs.Common.{◌≡◌, drop}
use Rattle.ga_scheduler.specs.Oldest.{earlier_place}
use Rattle.ga_state_expectations.specs.Breaking.{oldest_event_of_never}
use Rattle.ga_state_expectations.proofs.breaking.oldest_event_of_never.Given as goal

abbrev pub invariant-conditions : goal.invariant-conditions
invariant-conditions l = earlier_place l.oldest (oldest_event_of_never (drop l.condition-index l.conditions) l.lab) ≡ oldest_event_of_never l.conditions l.lab
