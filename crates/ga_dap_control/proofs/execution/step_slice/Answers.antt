use Rattle.std.proofs.Common.{◌≡◌, Option, refl, sym, ap, subst}
use Rattle.ga_debug_info.specs.declared.notes.DebugInfo.{DebugInfo}
use Rattle.ga_scheduler.specs.Running.{ScheduledMachine, scheduled_machine}
use Rattle.ga_dap_breakpoints.specs.Going.{IsMoveResult, step_plan}
use Rattle.ga_dap_breakpoints.specs.declared.hits.HitTally.{HitTally}
use Rattle.ga_dap_queries.specs.Disassembling.{debug_info_or_empty, program_debug_info}
use Rattle.ga_dap_control.specs.Slices.{slice_event_limit, hit_tally_before_slice}
use Rattle.ga_dap_control.proofs.execution.step_slice.Goals as goal

pub returns-in-Some-clause-slice : goal.returns-in-Some-clause-slice
returns-in-Some-clause-slice c =
    let r : ScheduledMachine = scheduled_machine c.args.program.now.lab c.args.execution.now.schedule in
    let tally : HitTally = hit_tally_before_slice c.args.program.now.lab c.args.settings.now c.args.execution.now.tally in
    let e : c.in-Some.notes ≡ program_debug_info c.args.program.now = sym (ap (λ (z : Option DebugInfo). debug_info_or_empty z c.args.program.now.empty_debug_info) c.in-Some.is) in (
      c.step_by.ensures.state,
      c.step_by.ensures.most,
      c.step_by.ensures.hits,
      subst (λ (z : DebugInfo). IsMoveResult (step_plan z c.args.settings.now.points.points.items c.args.expectations.now tally c.args.settings.now.stops c.args.stepping r) r slice_event_limit c.step_by.result.events c.step_by.result.halt) e
          c.step_by.ensures.end,
      refl,
      c.step_by.ensures.next,
    )

pub returns-in-None-clause-slice : goal.returns-in-None-clause-slice
returns-in-None-clause-slice c =
    let r : ScheduledMachine = scheduled_machine c.args.program.now.lab c.args.execution.now.schedule in
    let tally : HitTally = hit_tally_before_slice c.args.program.now.lab c.args.settings.now c.args.execution.now.tally in
    let e : c.args.program.now.empty_debug_info ≡ program_debug_info c.args.program.now = sym (ap (λ (z : Option DebugInfo). debug_info_or_empty z c.args.program.now.empty_debug_info) c.in-None.is) in (
      c.step_by-in-None.ensures.state,
      c.step_by-in-None.ensures.most,
      c.step_by-in-None.ensures.hits,
      subst (λ (z : DebugInfo). IsMoveResult (step_plan z c.args.settings.now.points.points.items c.args.expectations.now tally c.args.settings.now.stops c.args.stepping r) r slice_event_limit c.step_by-in-None.result.events
          c.step_by-in-None.result.halt) e c.step_by-in-None.ensures.end,
      refl,
      c.step_by-in-None.ensures.next,
    )
