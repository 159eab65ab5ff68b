use Rattle.std.proofs.Common.{◌≡◌, ◌∙◌, true, false, refl, ap, arith, subst}
use Rattle.std.specs.Prelude.{is_some}
use Rattle.ga_scheduler.specs.inner.{HoldsExactlyReadyNodes}
use Rattle.ga_scheduler.specs.Running.{ScheduledMachine, scheduled_machine}
use Rattle.ga_scheduler.specs.Watched.{make_run_watch, watch_ends_run_after}
use Rattle.ga_scheduler.proofs.Drawn.{nothing_known}
use Rattle.ga_scheduler.proofs.Events.{gone_on_first, made_more_first, seen_more, ends_is, never_more_first, ended_seen, ended_halted_first}
use Rattle.ga_scheduler.proofs.watched.run_watched.Goals as goal

pub loop-events-preserved : goal.loop-events-preserved
loop-events-preserved g c =
    let i = c.loop-events.invariant in
    let by = make_run_watch c.args.first g.W.StopCondition.ends g.W.StopCondition.seen in
    let start : ScheduledMachine = scheduled_machine c.args.lab.now c.args.schedule in
    let here : ScheduledMachine = scheduled_machine c.loop-events.lab c.loop-events.schedule in
    let next : ScheduledMachine = scheduled_machine c.go.new.lab c.go.new.schedule in
    let unmet : watch_ends_run_after by (g.W.StopCondition.state c.args.watch.now) start c.loop-events.events ≡ false =
    ends_is by (g.W.StopCondition.state c.args.watch.now) (g.W.StopCondition.state c.loop-events.watch) start here next c.loop-events.events c.in-Ok.made c.ends_run_after_event.result i.watch i.at c.in-Ok.ensures.told c.in-Ok.ensures.moved c.ends_run_after_event.ensures.answer
    ∙ c.if-ends_run_after_event.false in
    record {
      at = gone_on_first c.args.first start here next c.loop-events.events i.at c.in-Ok.ensures.moved;
      made = made_more_first c.args.first start here c.loop-events.events c.in-Ok.made i.at c.in-Ok.ensures.told i.made;
      watch = seen_more by (g.W.StopCondition.state c.args.watch.now) (g.W.StopCondition.state c.loop-events.watch) (g.W.StopCondition.state c.ends_run_after_event.new.self) start here next c.loop-events.events c.in-Ok.made i.watch i.at c.in-Ok.ensures.told c.in-Ok.ensures.moved c.ends_run_after_event.ensures.behind;
      remembers = c.ends_run_after_event.ensures.remembers;
      never = never_more_first by (g.W.StopCondition.state c.args.watch.now) start c.loop-events.events unmet i.never;
      ready = c.in-Ok.ensures.ready;
      known = c.in-Ok.ensures.known;
      draws = c.go.ensures.draws;
      replays = c.in-Ok.ensures.replays;
      most = omega arith;
    }

pub loop-events-init : goal.loop-events-init
loop-events-init g c = record {
  at = refl;
  made = λ k l. absurd (omega arith);
  watch = refl;
  remembers = c.requires;
  never = λ k l. absurd (omega arith);
  ready = subst (λ z. HoldsExactlyReadyNodes z c.ready_nodes-ready.result) c.chip.ensures.value c.ready_nodes-ready.ensures;
  draws = c.draws-draws.ensures;
  known = nothing_known c.ready_nodes-ready.result c.no_known_nodes-known.result c.no_known_nodes-known.ensures.alone c.no_known_nodes-known.ensures.listed;
  replays = ap is_some c.chip.ensures.replays;
  most = omega arith;
}

pub ends_run_after_event-requires-clause-remembered : goal.ends_run_after_event-requires-clause-remembered
ends_run_after_event-requires-clause-remembered g c = (c.loop-events.lab, c.loop-events.invariant.remembers, c.in-Ok.ensures.step)

pub returns-then-ends_run_after_event-clause-state : goal.returns-then-ends_run_after_event-clause-state
returns-then-ends_run_after_event-clause-state g c =
    gone_on_first c.args.first (scheduled_machine c.args.lab.now c.args.schedule) (scheduled_machine c.loop-events.lab c.loop-events.schedule) (scheduled_machine c.go.new.lab c.go.new.schedule) c.loop-events.events
    c.loop-events.invariant.at c.in-Ok.ensures.moved

pub returns-then-ends_run_after_event-clause-made : goal.returns-then-ends_run_after_event-clause-made
returns-then-ends_run_after_event-clause-made g c =
    made_more_first c.args.first (scheduled_machine c.args.lab.now c.args.schedule) (scheduled_machine c.loop-events.lab c.loop-events.schedule) c.loop-events.events c.in-Ok.made
    c.loop-events.invariant.at c.in-Ok.ensures.told c.loop-events.invariant.made

pub returns-then-ends_run_after_event-clause-watch : goal.returns-then-ends_run_after_event-clause-watch
returns-then-ends_run_after_event-clause-watch g c =
    let i = c.loop-events.invariant in
    seen_more (make_run_watch c.args.first g.W.StopCondition.ends g.W.StopCondition.seen) (g.W.StopCondition.state c.args.watch.now) (g.W.StopCondition.state c.loop-events.watch) (g.W.StopCondition.state c.ends_run_after_event.new.self) (scheduled_machine c.args.lab.now c.args.schedule)
    (scheduled_machine c.loop-events.lab c.loop-events.schedule) (scheduled_machine c.go.new.lab c.go.new.schedule) c.loop-events.events c.in-Ok.made i.watch i.at c.in-Ok.ensures.told c.in-Ok.ensures.moved c.ends_run_after_event.ensures.behind

pub returns-then-ends_run_after_event-clause-end : goal.returns-then-ends_run_after_event-clause-end
returns-then-ends_run_after_event-clause-end g c =
    let i = c.loop-events.invariant in
    let by = make_run_watch c.args.first g.W.StopCondition.ends g.W.StopCondition.seen in
    let start : ScheduledMachine = scheduled_machine c.args.lab.now c.args.schedule in
    let here : ScheduledMachine = scheduled_machine c.loop-events.lab c.loop-events.schedule in
    let next : ScheduledMachine = scheduled_machine c.go.new.lab c.go.new.schedule in
    let met : watch_ends_run_after by (g.W.StopCondition.state c.args.watch.now) start c.loop-events.events ≡ true =
    ends_is by (g.W.StopCondition.state c.args.watch.now) (g.W.StopCondition.state c.loop-events.watch) start here next c.loop-events.events c.in-Ok.made c.ends_run_after_event.result i.watch i.at c.in-Ok.ensures.told c.in-Ok.ensures.moved c.ends_run_after_event.ensures.answer
    ∙ c.if-ends_run_after_event.true in
    ended_seen by (g.W.StopCondition.state c.args.watch.now) start here c.args.most c.loop-events.events c.in-Ok.made i.at i.never c.in-Ok.ensures.told met

pub returns-in-Err-clause-state : goal.returns-in-Err-clause-state
returns-in-Err-clause-state g c =
    ap (λ z. scheduled_machine z c.go.new.schedule) c.in-Err.ensures.same ∙ ap (scheduled_machine c.loop-events.lab) c.in-Err.ensures.stays ∙ c.loop-events.invariant.at

pub returns-in-Err-clause-end : goal.returns-in-Err-clause-end
returns-in-Err-clause-end g c =
    ended_halted_first (make_run_watch c.args.first g.W.StopCondition.ends g.W.StopCondition.seen) (g.W.StopCondition.state c.args.watch.now) (scheduled_machine c.args.lab.now c.args.schedule) (scheduled_machine c.loop-events.lab c.loop-events.schedule)
    c.args.most c.loop-events.events c.in-Err.end c.loop-events.invariant.at c.loop-events-test.true c.loop-events.invariant.never c.in-Err.ensures.halted

pub returns-clause-state : goal.returns-clause-state
returns-clause-state g c = c.loop-events.invariant.at

pub returns-clause-end : goal.returns-clause-end
returns-clause-end g c = (omega (arith, c.loop-events.invariant.most, c.loop-events-test.false), c.loop-events.invariant.never)
