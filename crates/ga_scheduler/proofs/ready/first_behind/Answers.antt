use Rattle.ga_scheduler.specs.inner.{is_number_in_set}
use Rattle.ga_races.proofs.Ready.{ahead_is}
use Rattle.ga_scheduler.proofs.ready.first_behind.Goals as goal

pub returns-in-Some-clause-first : goal.returns-in-Some-clause-first
returns-in-Some-clause-first c = ahead_is (is_number_in_set c.args.ready.now) c.args.turn.number c.in-Some.node c.in-Some.ensures.least c.in-Some.ensures.is_in c.in-Some.ensures.before
