use Rattle.std.proofs.Common.{rules, refl, ap}
use Rattle.ga_event.specs.Told.{count_steps}
use Rattle.ga_lab.specs.Machine.{MachineState}
use Rattle.ga_display.specs.Texts.{removed_events_text, worded_step_refusal_text}
use Rattle.ga_console.proofs.ReplyLemmas.{rewind_done, rewind_refused}
use Rattle.ga_console.proofs.changes.write_rewind_reply.Goals as goal

pub returns-in-Ok : goal.returns-in-Ok
returns-in-Ok g c = (
  search rules,
  λ before said h. (
    removed_events_text c.in-Ok.removed c.counts.result.kept,
    rewind_done c.args.wording c.args.lab.now c.args.node c.args.step c.in-Ok.removed c.counts.result.kept _ c.rewind.new.self c.in-Ok.ensures.answer c.in-Ok.ensures.state
        c.counts.ensures.kept refl,
    c.write_removed_events.ensures.1 before said h,
  ),
)

pub returns-in-Err : goal.returns-in-Err
returns-in-Err g c = (
  search rules,
  λ before said h. (
    _,
    rewind_refused c.args.wording c.args.lab.now c.args.node c.args.step c.in-Err.fault _ c.rewind.new.self c.in-Err.ensures.answer c.in-Err.ensures.same
        (ap (λ (s : MachineState). worded_step_refusal_text c.args.wording c.args.node (count_steps c.args.node.number s.kept) c.in-Err.fault) c.in-Err.ensures.same),
    c.write_step_refusal.ensures.1 before said h,
  ),
)
