use Rattle.std.proofs.Common.{◌≡◌, drop, length}
use Rattle.ga_scheduler.specs.Oldest.{earlier_place, oldest_event_of_conditions}
use Rattle.ga_scheduler.proofs.oldest.find_oldest_matching_event.Given as goal

abbrev pub invariant-conditions : goal.invariant-conditions
invariant-conditions l = earlier_place l.oldest (oldest_event_of_conditions (drop l.condition-index l.until) l.lab (length l.lab.kept)) ≡ oldest_event_of_conditions l.until l.lab (length l.lab.kept)
