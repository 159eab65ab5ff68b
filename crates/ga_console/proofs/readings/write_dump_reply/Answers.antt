use Rattle.std.proofs.Common.{rules}
use Rattle.ga_console.proofs.ReplyLemmas.{dump_done, dump_refused}
use Rattle.ga_console.proofs.readings.write_dump_reply.Goals as goal

pub returns-in-Ok : goal.returns-in-Ok
returns-in-Ok g c = (
  search rules,
  λ before said h. (
    c.as_slice.result.now,
    dump_done c.args.wording c.args.lab.now _ c.in-Ok.image.items c.as_slice.result.now c.chip.ensures.value c.in-Ok.ensures.text c.as_slice.ensures.value,
    c.write_blocks.ensures.1 before said h,
  ),
)

pub returns-in-Err : goal.returns-in-Err
returns-in-Err g c = (
  search rules,
  λ before said h. (
    c.refusal_in_wording.result.now,
    dump_refused c.args.wording c.args.lab.now c.refusal_in_wording.result.now c.refusal_in_wording.ensures.text,
    c.write_text.ensures.1 before said h,
  ),
)
