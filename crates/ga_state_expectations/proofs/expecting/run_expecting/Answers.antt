use Rattle.std.proofs.Common.{ℕ, None, sym, ap, subst}
use Rattle.ga_scheduler.specs.Running.{ScheduledMachine, scheduled_machine}
use Rattle.ga_state_expectations.specs.declared.expecting.AwaitedConditions.{AwaitedConditions}
use Rattle.ga_state_expectations.specs.Runs.{HasExpectingRunEnded}
use Rattle.ga_state_expectations.proofs.ExpectingRuns.{ended_so}
use Rattle.ga_state_expectations.proofs.expecting.run_expecting.Goals as goal

pub returns-clause-end : goal.returns-clause-end
returns-clause-end c =
    let awaited : AwaitedConditions = record { until = c.args.until; expectations = c.args.expectations; held = None } in
    let start : ScheduledMachine = scheduled_machine c.args.lab.now c.args.schedule in
    let n : ℕ = c.run_watched-run.result.events in
    subst (HasExpectingRunEnded c.args.expectations.now c.args.until.now start c.args.most n) (sym c.run_end_of_watched_run.ensures)
    (ended_so awaited start c.args.most n c.run_watched-run.result.end c.run_watched-run.new.watch.awaited.held (ap (λ (z : AwaitedConditions). z.held) c.run_watched-run.ensures.watch) c.run_watched-run.ensures.end)
