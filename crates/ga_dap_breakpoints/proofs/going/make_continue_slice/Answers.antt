use Rattle.std.proofs.Common.{◌≡◌, ◌∙◌, ℕ, List, None, ap, sym, subst}
use Rattle.ga_state_expectations.specs.declared.knowledge.ExpectationKnowledge.{ExpectationKnowledge}
use Rattle.ga_state_expectations.specs.declared.source.LineExpectation.{LineExpectation}
use Rattle.ga_state_expectations.specs.Knowledge.{IsExpectationKnowledge}
use Rattle.ga_event.specs.declared.made.MadeEvent.{MadeEvent}
use Rattle.ga_lab.specs.Machine.{MachineState}
use Rattle.ga_scheduler.specs.Running.{ScheduledMachine, scheduled_machine, run_after_events}
use Rattle.ga_scheduler.proofs.Events.{after_none}
use Rattle.ga_dap_breakpoints.specs.declared.halts.HaltConditions.{HaltConditions}
use Rattle.ga_dap_breakpoints.specs.Breakpoints.{ends_move_early}
use Rattle.ga_dap_breakpoints.specs.Going.{MovePlan, IsMoveResult, tally_after_events, continue_plan}
use Rattle.ga_dap_breakpoints.specs.inner.Halting.{halt_conditions_after_event, halt_reason_of_run}
use Rattle.ga_dap_breakpoints.proofs.Moving.{counted_so, went_so, hits_after, go_alike}
use Rattle.ga_dap_breakpoints.proofs.Cells.{none_known}
use Rattle.ga_dap_breakpoints.proofs.going.make_continue_slice.Goals as goal

pub run_watched-run-requires : goal.run_watched-run-requires
run_watched-run-requires c = record { cells = none_known c.args.lab.now; known = c.requires }

pub returns-clause-state : goal.returns-clause-state
returns-clause-state c =
    let start : ScheduledMachine = scheduled_machine c.args.lab.now c.args.schedule in
    ap (scheduled_machine c.run_watched-run.new.lab) c.move_result.ensures.schedule
    ∙ c.run_watched-run.ensures.state
    ∙ after_none start c.run_watched-run.result.events
    ∙ ap (run_after_events start) (sym c.move_result.ensures.events)

pub returns-clause-hits : goal.returns-clause-hits
returns-clause-hits c =
    let start : ScheduledMachine = scheduled_machine c.args.lab.now c.args.schedule in
    c.move_result.ensures.tally
    ∙ ap (λ (z : HaltConditions). z.tally) (c.run_watched-run.ensures.watch ∙ hits_after c.args.halts start c.run_watched-run.result.events)
    ∙ ap (tally_after_events None c.args.halts.breakpoints.now c.args.halts.tally start) (sym c.move_result.ensures.events)

pub returns-clause-end : goal.returns-clause-end
returns-clause-end c =
    let start : ScheduledMachine = scheduled_machine c.args.lab.now c.args.schedule in
    let n : ℕ = c.run_watched-run.result.events in
    let g : MovePlan = continue_plan c.args.halts.breakpoints.now c.args.halts.expectations.now c.args.halts.tally c.args.halts.stops start in
    subst (λ (z : ℕ). IsMoveResult g start c.args.most z c.move_result.result.halt) (sym c.move_result.ensures.events)
    (went_so (λ (w : HaltConditions) (told : MadeEvent) (s : MachineState). ends_move_early w.breakpoints.now w.expectations.now w.tally w.stops None told s) (λ (w : HaltConditions) (told : MadeEvent) (s : MachineState). halt_conditions_after_event w told s)
    c.args.halts start (scheduled_machine c.run_watched-run.new.lab c.run_watched-run.result.schedule) g c.args.most n c.run_watched-run.result.end c.move_result.result.halt
    (tally_after_events None c.args.halts.breakpoints.now c.args.halts.tally start n).hit
    (go_alike c.args.halts start) c.run_watched-run.ensures.state c.run_watched-run.ensures.end
    (λ (k : ℕ) (told : MadeEvent) e is. counted_so None c.args.halts.breakpoints.now c.args.halts.tally start n k told e is)
    (c.move_result.ensures.halt ∙ ap (λ (z : HaltConditions). halt_reason_of_run z.tally.hit z.stops z.expectations.now None c.run_watched-run.result.end c.run_watched-run.new.lab) (c.run_watched-run.ensures.watch ∙ hits_after c.args.halts start n)))

pub returns-clause-known : goal.returns-clause-known
returns-clause-known c =
    let start : ScheduledMachine = scheduled_machine c.args.lab.now c.args.schedule in
    let same : c.run_watched-run.new.watch.halts.expectations.now ≡ c.args.halts.expectations.now =
    ap (λ (z : HaltConditions). z.expectations.now) (c.run_watched-run.ensures.watch ∙ hits_after c.args.halts start c.run_watched-run.result.events) in
    subst (λ (z : List LineExpectation). IsExpectationKnowledge z c.run_watched-run.new.lab c.move_result.result.known) same
    (subst (λ (z : ExpectationKnowledge). IsExpectationKnowledge c.run_watched-run.new.watch.halts.expectations.now c.run_watched-run.new.lab z) (sym c.move_result.ensures.known) c.run_watched-run.ensures.remembers.known)
