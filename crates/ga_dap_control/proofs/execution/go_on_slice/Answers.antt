use Rattle.std.proofs.Common.{◌∙◌, List, None, refl, sym, subst}
use Rattle.ga_scheduler.specs.Running.{ScheduledMachine, scheduled_machine}
use Rattle.ga_state_expectations.specs.declared.source.LineExpectation.{LineExpectation}
use Rattle.ga_state_expectations.specs.Knowledge.{IsExpectationKnowledge}
use Rattle.ga_dap_control.specs.Slices.{slice_event_limit}
use Rattle.ga_dap_control.proofs.Answered.{gone_by, hits_so}
use Rattle.ga_dap_control.proofs.execution.go_on_slice.Goals as goal

pub returns-clause-slice : goal.returns-clause-slice
returns-clause-slice c =
    let r : ScheduledMachine = scheduled_machine c.args.program.now.lab c.args.execution.now.schedule in
    let counted = c.halt_conditions_with_tally-halts.ensures.hits ∙ c.hit_tally_before_slice-tally.ensures in (
      c.make_continue_slice-went.ensures.state,
      c.make_continue_slice-went.ensures.most,
      hits_so None _ _ _ _ r c.make_continue_slice-went.result.events c.make_continue_slice-went.result.tally c.halt_conditions_with_tally-halts.ensures.points counted c.make_continue_slice-went.ensures.hits,
      gone_by _ _ _ _ _ _ _ _ r slice_event_limit c.make_continue_slice-went.result.events c.make_continue_slice-went.result.halt c.halt_conditions_with_tally-halts.ensures.points
          c.halt_conditions_with_tally-halts.ensures.expectations counted c.halt_conditions_with_tally-halts.ensures.stops c.make_continue_slice-went.ensures.end,
      refl,
      refl,
    )

pub returns-clause-known : goal.returns-clause-known
returns-clause-known c =
    subst (λ (z : List LineExpectation). IsExpectationKnowledge z c.make_continue_slice-went.new.lab c.make_continue_slice-went.result.known) c.halt_conditions_with_tally-halts.ensures.expectations
    c.make_continue_slice-went.ensures.known

pub make_continue_slice-went-requires : goal.make_continue_slice-went-requires
make_continue_slice-went-requires c =
    subst (λ (z : List LineExpectation). IsExpectationKnowledge z c.args.program.now.lab c.args.known) (sym c.halt_conditions_with_tally-halts.ensures.expectations) c.requires
