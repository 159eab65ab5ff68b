use Rattle.std.proofs.Common.{rules, refl}
use Rattle.ga_display.specs.Texts.{removed_events_text}
use Rattle.ga_console.proofs.ReplyLemmas.{back_done, back_refused}
use Rattle.ga_console.proofs.changes.write_back_reply.Goals as goal

pub returns-in-Ok : goal.returns-in-Ok
returns-in-Ok g c = (
  search rules,
  λ before said h. (
    removed_events_text 1 c.counts.result.kept,
    back_done c.args.wording c.args.lab.now _ c.undo.new.self c.counts.result.kept c.in-Ok.ensures.answer c.in-Ok.ensures.state c.counts.ensures.kept refl,
    c.write_removed_events.ensures.1 before said h,
  ),
)

pub returns-in-Err : goal.returns-in-Err
returns-in-Err g c = (
  search rules,
  λ before said h. (
    c.refusal_in_wording.result.now,
    back_refused c.args.wording c.args.lab.now c.in-Err.fault _ c.undo.new.self c.in-Err.ensures.answer c.in-Err.ensures.state c.refusal_in_wording.ensures.text,
    c.write_text.ensures.1 before said h,
  ),
)
