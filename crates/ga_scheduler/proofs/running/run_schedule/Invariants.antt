use Rattle.std.proofs.Common.{◌≡◌, ◌-◌, ◌≤◌, length}
use Rattle.std.specs.Prelude.{IsSome}
use Rattle.ga_event.specs.Apply.{replay}
use Rattle.ga_lab.specs.Machine.{chip_of_machine}
use Rattle.ga_scheduler.specs.inner.{HoldsExactlyReadyNodes, IsReadySetKnowledgeTrue, is_random_order, AreLinkCountsKnown}
use Rattle.ga_scheduler.specs.Running.{scheduled_machine, run_after_events, CanMakeNextEvents, HasNoConditionHeld}
use Rattle.ga_scheduler.proofs.running.run_schedule.Given as goal

abbrev pub invariant-loop-events : goal.invariant-loop-events
invariant-loop-events l = record {
  at : scheduled_machine l.lab l.schedule ≡ run_after_events (scheduled_machine l.initial.lab l.initial.schedule) l.events;
  made : CanMakeNextEvents (scheduled_machine l.initial.lab l.initial.schedule) l.events;
  never : HasNoConditionHeld l.until (scheduled_machine l.initial.lab l.initial.schedule) l.events;
  ready : HoldsExactlyReadyNodes (chip_of_machine l.lab) l.ready;
  known : IsReadySetKnowledgeTrue l.ready l.known;
  draws : l.draws ≡ is_random_order l.schedule.order;
  size : length l.words ≡ 8;
  words : AreLinkCountsKnown l.until l.lab l.words;
  replays : IsSome (replay l.lab.load l.lab.kept);
  most : l.events ≤ l.most;
}

abbrev pub decreases-loop-events : goal.decreases-loop-events
decreases-loop-events l = l.most - l.events
