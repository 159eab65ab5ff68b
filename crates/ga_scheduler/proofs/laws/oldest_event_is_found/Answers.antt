use Rattle.ga_scheduler.proofs.OldestLaws.{some_oldest}
use Rattle.ga_scheduler.proofs.laws.oldest_event_is_found.Goals as goal

pub returns-clause-some : goal.returns-clause-some
returns-clause-some c = some_oldest
