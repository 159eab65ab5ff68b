use Rattle.std.proofs.Common.{◌∙◌, refl, sym, ap, arith, subst}
use Rattle.std.specs.Prelude.{is_some}
use Rattle.ga_scheduler.specs.inner.{HoldsExactlyReadyNodes}
use Rattle.ga_scheduler.specs.Running.{ScheduledMachine, scheduled_machine, run_after_events, CanMakeNextEvents, HasRunEnded}
use Rattle.ga_scheduler.proofs.Drawn.{nothing_known}
use Rattle.ga_scheduler.proofs.Events.{gone_on, never_more, made_one, over_state, over_made, over_end, over_most}
use Rattle.ga_scheduler.proofs.running.run_schedule.Goals as goal

pub loop-events-preserved : goal.loop-events-preserved
loop-events-preserved c =
    let i = c.loop-events.invariant in
    let start : ScheduledMachine = scheduled_machine c.args.lab.now c.args.schedule in
    let here : ScheduledMachine = scheduled_machine c.loop-events.lab c.loop-events.schedule in
    let next : ScheduledMachine = scheduled_machine c.advance.new.lab c.advance.new.schedule in
    let now = c.in-Ok.ensures in
    record {
      at = gone_on start here next c.loop-events.events i.at now.moved;
      made = made_one start here c.loop-events.events i.at now.made i.made;
      never = never_more c.args.until.now start here c.loop-events.events i.at now.unmet i.never;
      ready = now.ready;
      known = now.known;
      draws = c.advance.ensures.draws;
      size = now.size;
      words = now.counted;
      replays = now.replays;
      most = omega arith;
    }

pub loop-events-init : goal.loop-events-init
loop-events-init c = record {
  at = refl;
  made = λ k l. absurd (omega arith);
  never = λ k l. absurd (omega arith);
  ready = subst (λ z. HoldsExactlyReadyNodes z c.ready_nodes-ready.result) c.chip.ensures.value c.ready_nodes-ready.ensures;
  draws = c.draws-draws.ensures;
  known = nothing_known c.ready_nodes-ready.result c.no_known_nodes-known.result c.no_known_nodes-known.ensures.alone c.no_known_nodes-known.ensures.listed;
  size = c.count_all-words.ensures.size;
  words = c.count_all-words.ensures.counted;
  replays = ap is_some c.chip.ensures.replays;
  most = omega arith;
}

pub returns-in-Err-clause-state : goal.returns-in-Err-clause-state
returns-in-Err-clause-state c =
    over_state c.args.until.now (scheduled_machine c.args.lab.now c.args.schedule) (scheduled_machine c.loop-events.lab c.loop-events.schedule) (scheduled_machine c.advance.new.lab c.advance.new.schedule) c.loop-events.events c.advance.new.end
    c.loop-events.invariant.at c.in-Err.ensures.over
    ∙ ap (run_after_events (scheduled_machine c.args.lab.now c.args.schedule)) (sym c.event_count_at_end-events.ensures)

pub returns-in-Err-clause-made : goal.returns-in-Err-clause-made
returns-in-Err-clause-made c =
    subst (CanMakeNextEvents (scheduled_machine c.args.lab.now c.args.schedule)) (sym c.event_count_at_end-events.ensures)
    (over_made c.args.until.now (scheduled_machine c.args.lab.now c.args.schedule) (scheduled_machine c.loop-events.lab c.loop-events.schedule) (scheduled_machine c.advance.new.lab c.advance.new.schedule) c.loop-events.events c.advance.new.end
    c.loop-events.invariant.at c.in-Err.ensures.over c.loop-events.invariant.made)

pub returns-in-Err-clause-most : goal.returns-in-Err-clause-most
returns-in-Err-clause-most c = omega (arith, c.event_count_at_end-events.ensures, over_most c.loop-events.events c.args.most c.advance.new.end c.loop-events-test.true)

pub returns-in-Err-clause-end : goal.returns-in-Err-clause-end
returns-in-Err-clause-end c =
    subst (λ z. HasRunEnded (scheduled_machine c.args.lab.now c.args.schedule) c.args.most c.args.until.now z c.advance.new.end) (sym c.event_count_at_end-events.ensures)
    (over_end c.args.until.now (scheduled_machine c.args.lab.now c.args.schedule) (scheduled_machine c.loop-events.lab c.loop-events.schedule) (scheduled_machine c.advance.new.lab c.advance.new.schedule) c.args.most c.loop-events.events c.advance.new.end
    c.loop-events.invariant.at c.loop-events-test.true c.in-Err.ensures.over c.loop-events.invariant.never)

pub returns-clause-state : goal.returns-clause-state
returns-clause-state c = c.loop-events.invariant.at

pub returns-clause-end : goal.returns-clause-end
returns-clause-end c = (omega (arith, c.loop-events.invariant.most, c.loop-events-test.false), c.loop-events.invariant.never)
