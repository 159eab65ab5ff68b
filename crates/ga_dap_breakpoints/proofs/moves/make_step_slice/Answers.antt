use Rattle.std.proofs.Common.{◌≡◌, ◌∙◌, ◌||◌, ℕ, List, Option, Some, ap, sym, subst}
use Rattle.ga_state_expectations.specs.declared.knowledge.ExpectationKnowledge.{ExpectationKnowledge}
use Rattle.ga_state_expectations.specs.declared.source.LineExpectation.{LineExpectation}
use Rattle.ga_state_expectations.specs.Knowledge.{IsExpectationKnowledge}
use Rattle.ga_event.specs.declared.made.MadeEvent.{MadeEvent}
use Rattle.ga_grid.specs.declared.node_id.NodeId.{NodeId}
use Rattle.ga_lab.specs.Machine.{MachineState}
use Rattle.ga_scheduler.specs.Running.{ScheduledMachine, scheduled_machine}
use Rattle.ga_scheduler.specs.Watched.{run_after_events_with_precedence}
use Rattle.ga_dap_breakpoints.specs.declared.moves.StepState.{StepState}
use Rattle.ga_dap_breakpoints.specs.Breakpoints.{ends_move_early}
use Rattle.ga_dap_breakpoints.specs.Stepping.{move_after_events, completes_move}
use Rattle.ga_dap_breakpoints.specs.Going.{MovePlan, IsMoveResult, tally_after_events, step_plan}
use Rattle.ga_dap_breakpoints.specs.inner.Halting.{halt_reason_of_run}
use Rattle.ga_dap_breakpoints.specs.inner.Stepping.{step_state_after_event}
use Rattle.ga_dap_breakpoints.proofs.Moving.{counted_so, went_so, goes_after, step_alike}
use Rattle.ga_dap_breakpoints.proofs.Cells.{none_known}
use Rattle.ga_dap_breakpoints.proofs.moves.make_step_slice.Goals as goal

pub run_watched-run-requires : goal.run_watched-run-requires
run_watched-run-requires c = record { halting = record { cells = none_known c.args.lab.now; known = c.requires }; word = c.word_begun-word.ensures }

pub returns-clause-state : goal.returns-clause-state
returns-clause-state c =
    let start : ScheduledMachine = scheduled_machine c.args.lab.now c.args.schedule in
    ap (scheduled_machine c.run_watched-run.new.lab) c.move_result.ensures.schedule
    ∙ c.run_watched-run.ensures.state
    ∙ ap (run_after_events_with_precedence (Some c.args.stepping.now.node) start) (sym c.move_result.ensures.events)

pub returns-clause-stepping : goal.returns-clause-stepping
returns-clause-stepping c =
    let start : ScheduledMachine = scheduled_machine c.args.lab.now c.args.schedule in
    let watch : StepState = record { notes = c.args.notes; halts = c.args.halts; stepping = c.args.stepping.now } in
    ap (λ (z : StepState). z.stepping) (c.run_watched-run.ensures.watch ∙ goes_after watch start c.run_watched-run.result.events)
    ∙ ap (move_after_events c.args.stepping.now start) (sym c.move_result.ensures.events)

pub returns-clause-hits : goal.returns-clause-hits
returns-clause-hits c =
    let start : ScheduledMachine = scheduled_machine c.args.lab.now c.args.schedule in
    let watch : StepState = record { notes = c.args.notes; halts = c.args.halts; stepping = c.args.stepping.now } in
    c.move_result.ensures.tally
    ∙ ap (λ (z : StepState). z.halts.tally) (c.run_watched-run.ensures.watch ∙ goes_after watch start c.run_watched-run.result.events)
    ∙ ap (tally_after_events (Some c.args.stepping.now.node) c.args.halts.breakpoints.now c.args.halts.tally start) (sym c.move_result.ensures.events)

pub returns-clause-end : goal.returns-clause-end
returns-clause-end c =
    let start : ScheduledMachine = scheduled_machine c.args.lab.now c.args.schedule in
    let n : ℕ = c.run_watched-run.result.events in
    let first : Option NodeId = Some c.args.stepping.now.node in
    let watch : StepState = record { notes = c.args.notes; halts = c.args.halts; stepping = c.args.stepping.now } in
    let g : MovePlan = step_plan c.args.notes.now c.args.halts.breakpoints.now c.args.halts.expectations.now c.args.halts.tally c.args.halts.stops c.args.stepping.now start in
    subst (λ (z : ℕ). IsMoveResult g start c.args.most z c.move_result.result.halt) (sym c.move_result.ensures.events)
    (went_so
    (λ (w : StepState) (told : MadeEvent) (s : MachineState). ends_move_early w.halts.breakpoints.now w.halts.expectations.now w.halts.tally w.halts.stops (Some w.stepping.node) told s || completes_move w.notes.now w.stepping told s)
    (λ (w : StepState) (told : MadeEvent) (s : MachineState). step_state_after_event w told s) watch start
    (scheduled_machine c.run_watched-run.new.lab c.run_watched-run.result.schedule) g c.args.most n c.run_watched-run.result.end c.move_result.result.halt
    (tally_after_events first c.args.halts.breakpoints.now c.args.halts.tally start n).hit
    (step_alike watch start) c.run_watched-run.ensures.state c.run_watched-run.ensures.end
    (λ (k : ℕ) (told : MadeEvent) e is. counted_so first c.args.halts.breakpoints.now c.args.halts.tally start n k told e is)
    (c.move_result.ensures.halt ∙ ap (λ (z : StepState). halt_reason_of_run z.halts.tally.hit z.halts.stops z.halts.expectations.now first c.run_watched-run.result.end c.run_watched-run.new.lab) (c.run_watched-run.ensures.watch ∙ goes_after watch start n)))

pub returns-clause-known : goal.returns-clause-known
returns-clause-known c =
    let start : ScheduledMachine = scheduled_machine c.args.lab.now c.args.schedule in
    let watch : StepState = record { notes = c.args.notes; halts = c.args.halts; stepping = c.args.stepping.now } in
    let same : c.run_watched-run.new.watch.halting.halts.expectations.now ≡ c.args.halts.expectations.now =
    ap (λ (z : StepState). z.halts.expectations.now) (c.run_watched-run.ensures.watch ∙ goes_after watch start c.run_watched-run.result.events) in
    subst (λ (z : List LineExpectation). IsExpectationKnowledge z c.run_watched-run.new.lab c.move_result.result.known) same
    (subst (λ (z : ExpectationKnowledge). IsExpectationKnowledge c.run_watched-run.new.watch.halting.halts.expectations.now c.run_watched-run.new.lab z) (sym c.move_result.ensures.known) c.run_watched-run.ensures.remembers.halting.known)
