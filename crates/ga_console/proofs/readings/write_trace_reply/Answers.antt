use Rattle.std.proofs.Common.{rules, ◌∙◌}
use Rattle.ga_console.proofs.ReplyLemmas.{trace_done, trace_refused}
use Rattle.ga_console.proofs.readings.write_trace_reply.Goals as goal

pub returns-in-Ok : goal.returns-in-Ok
returns-in-Ok g c = (
  search rules,
  λ before said h.
      let done = c.say_steps.ensures.1 before said h in
      (done.0, trace_done c.args.wording c.args.lab.now c.args.node c.as_slice.result.now done.0 (c.as_slice.ensures.value ∙ c.in-Ok.ensures.ok) done.1, done.2),
)

pub returns-in-Err : goal.returns-in-Err
returns-in-Err g c = (
  search rules,
  λ before said h. (
    c.refusal_in_wording.result.now,
    trace_refused c.args.wording c.args.lab.now c.args.node c.in-Err.fault _ c.in-Err.ensures.err c.refusal_in_wording.ensures.text,
    c.write_text.ensures.1 before said h,
  ),
)
