use Rattle.std.proofs.Common.{rules, refl}
use Rattle.ga_display.specs.Texts.{event_text}
use Rattle.ga_console.proofs.ReplyLemmas.{step_made, step_refused}
use Rattle.ga_console.proofs.changes.write_step_reply.Goals as goal

pub returns-in-Ok : goal.returns-in-Ok
returns-in-Ok g c = (
  search rules,
  λ before said h. (
    event_text c.in-Ok.made,
    step_made c.args.wording c.args.lab.now c.args.node c.in-Ok.made _ c.step_inlined.new.self c.in-Ok.ensures.answer c.in-Ok.ensures.ok refl,
    c.write_event.ensures.1 before said h,
  ),
)

pub returns-in-Err : goal.returns-in-Err
returns-in-Err g c = (
  search rules,
  λ before said h. (
    c.refusal_in_wording.result.now,
    step_refused c.args.wording c.args.lab.now c.args.node c.in-Err.fault _ c.step_inlined.new.self c.in-Err.ensures.answer c.in-Err.ensures.err c.refusal_in_wording.ensures.text,
    c.write_text.ensures.1 before said h,
  ),
)
