use Rattle.std.proofs.Common.{Option, Some, refl, ap, subst}
use Rattle.std.specs.Prelude.{is_some}
use Rattle.ga_grid.specs.declared.node_id.NodeId.{NodeId}
use Rattle.ga_dap_control.specs.Slices.{MakesEventsUnlessDeadlocked}
use Rattle.ga_dap_control.proofs.execution.make_slice_of.Goals as goal

pub returns-in-Some-clause-slice : goal.returns-in-Some-clause-slice
returns-in-Some-clause-slice c =
    let told = c.in-Some.ensures in (
      c.stuck_of-before.result,
      told.0,
      c.stuck_of-before.ensures,
      told.1,
      subst (λ (z : Option NodeId). MakesEventsUnlessDeadlocked z c.args.goal (is_some c.args.watched.now) c.stuck_of-before.result c.args.program.now c.args.settings.now c.args.execution.now c.args.program.now c.report.new.execution
          (Some c.report.result)) told.2 (refl, c.report.ensures.next, ap Some c.report.ensures.reason),
    )

pub returns-in-None-clause-slice : goal.returns-in-None-clause-slice
returns-in-None-clause-slice c =
    let told = c.in-None.ensures in (
      c.stuck_of-before.result,
      told.0,
      c.stuck_of-before.ensures,
      told.1,
      subst (λ (z : Option NodeId). MakesEventsUnlessDeadlocked z c.args.goal (is_some c.args.watched.now) c.stuck_of-before.result c.args.program.now c.args.settings.now c.args.execution.now c.make_events.new.program
          c.make_events.new.execution c.make_events.result) told.2 c.make_events.ensures.slice,
    )
