use Rattle.ga_scheduler.specs.Watched.{make_run_watch}
use Rattle.ga_scheduler.proofs.Events.{after_after_first, watch_after_after, ended_later_first, after_none}
use Rattle.ga_scheduler.proofs.laws.watched_slices_are_one_run.Goals as goal

pub returns-clause-events : goal.returns-clause-events
returns-clause-events g c = λ first r m n. after_after_first first r m n

pub returns-clause-watch : goal.returns-clause-watch
returns-clause-watch g c = λ first w r m n. watch_after_after (make_run_watch first g.W.StopCondition.ends g.W.StopCondition.seen) w r m n

pub returns-clause-end : goal.returns-clause-end
returns-clause-end g c = λ first w r m most n end. ended_later_first (make_run_watch first g.W.StopCondition.ends g.W.StopCondition.seen) w r most m n end

pub returns-clause-order : goal.returns-clause-order
returns-clause-order g c = after_none
