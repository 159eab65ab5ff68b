use Rattle.std.proofs.Common.{◌≡◌, ◌-◌, ◌≤◌}
use Rattle.std.specs.Prelude.{IsSome}
use Rattle.ga_event.specs.Apply.{replay}
use Rattle.ga_lab.specs.Machine.{chip_of_machine}
use Rattle.ga_scheduler.specs.inner.{HoldsExactlyReadyNodes, IsReadySetKnowledgeTrue, is_random_order}
use Rattle.ga_scheduler.specs.Running.{scheduled_machine}
use Rattle.ga_scheduler.specs.Watched.{run_after_events_with_precedence, CanMakeNextPrecedenceEvents, make_run_watch, watch_state_after_events, HasNoWatchEnd}
use Rattle.ga_scheduler.proofs.watched.run_watched.Given as goal

abbrev pub invariant-loop-events : goal.invariant-loop-events
invariant-loop-events g l = record {
  at : scheduled_machine l.lab l.schedule ≡ run_after_events_with_precedence l.first (scheduled_machine l.initial.lab l.initial.schedule) l.events;
  made : CanMakeNextPrecedenceEvents l.first (scheduled_machine l.initial.lab l.initial.schedule) l.events;
  watch : g.W.StopCondition.state l.watch ≡ watch_state_after_events (make_run_watch l.first g.W.StopCondition.ends g.W.StopCondition.seen) (g.W.StopCondition.state l.initial.watch) (scheduled_machine l.initial.lab l.initial.schedule) l.events;
  remembers : g.W.StopCondition.remembers l.watch l.lab;
  never : HasNoWatchEnd (make_run_watch l.first g.W.StopCondition.ends g.W.StopCondition.seen) (g.W.StopCondition.state l.initial.watch) (scheduled_machine l.initial.lab l.initial.schedule) l.events;
  ready : HoldsExactlyReadyNodes (chip_of_machine l.lab) l.ready;
  known : IsReadySetKnowledgeTrue l.ready l.known;
  draws : l.draws ≡ is_random_order l.schedule.order;
  replays : IsSome (replay l.lab.load l.lab.kept);
  most : l.events ≤ l.most;
}

abbrev pub decreases-loop-events : goal.decreases-loop-events
decreases-loop-events g l = l.most - l.events
