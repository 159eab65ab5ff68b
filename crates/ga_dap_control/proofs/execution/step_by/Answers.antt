use Rattle.std.proofs.Common.{◌∙◌, List, Some, sym, subst}
use Rattle.ga_state_expectations.specs.declared.source.LineExpectation.{LineExpectation}
use Rattle.ga_state_expectations.specs.Knowledge.{IsExpectationKnowledge}
use Rattle.ga_scheduler.specs.Running.{scheduled_machine}
use Rattle.ga_dap_control.specs.Slices.{slice_event_limit}
use Rattle.ga_dap_control.proofs.Answered.{stepped_so, hits_so}
use Rattle.ga_dap_control.proofs.execution.step_by.Goals as goal

pub returns-clause-hits : goal.returns-clause-hits
returns-clause-hits c =
    hits_so (Some c.args.stepping.node) _ _ _ _ (scheduled_machine c.args.lab.now c.args.execution.now.schedule) c.make_step_slice-went.result.events c.make_step_slice-went.result.tally
    c.halt_conditions_with_tally-halts.ensures.points (c.halt_conditions_with_tally-halts.ensures.hits ∙ c.hit_tally_before_slice-tally.ensures) c.make_step_slice-went.ensures.hits

pub returns-clause-end : goal.returns-clause-end
returns-clause-end c =
    stepped_so c.args.notes.now _ _ _ _ _ _ _ _ c.args.stepping (scheduled_machine c.args.lab.now c.args.execution.now.schedule) slice_event_limit c.make_step_slice-went.result.events
    c.make_step_slice-went.result.halt c.halt_conditions_with_tally-halts.ensures.points c.halt_conditions_with_tally-halts.ensures.expectations (c.halt_conditions_with_tally-halts.ensures.hits ∙ c.hit_tally_before_slice-tally.ensures) c.halt_conditions_with_tally-halts.ensures.stops c.make_step_slice-went.ensures.end

pub returns-clause-known : goal.returns-clause-known
returns-clause-known c =
    subst (λ (z : List LineExpectation). IsExpectationKnowledge z c.make_step_slice-went.new.lab c.make_step_slice-went.result.known) c.halt_conditions_with_tally-halts.ensures.expectations
    c.make_step_slice-went.ensures.known

pub make_step_slice-went-requires : goal.make_step_slice-went-requires
make_step_slice-went-requires c =
    subst (λ (z : List LineExpectation). IsExpectationKnowledge z c.args.lab.now c.args.known) (sym c.halt_conditions_with_tally-halts.ensures.expectations) c.requires
