use Rattle.ga_asm_text.proofs.Sources.{source_written, refusal_written}
use Rattle.ga_asm_text.proofs.disassembly.disassemble_text.Goals as goal

pub returns-in-Ok : goal.returns-in-Ok
returns-in-Ok g c = λ before held.
    let done = c.write_text_with_status.ensures before held in (
      done.0,
      done.1,
      source_written c.args.image.items c.in-Ok.text.items done.0 c.write_text_with_status.result c.in-Ok.ensures.ok done.2,
    )

pub returns-in-Err : goal.returns-in-Err
returns-in-Err g c = λ before held.
    let done = c.write_image_refusal.ensures before held in (
      done.0,
      done.1,
      refusal_written c.args.image.items done.0 c.in-Err.fault c.write_image_refusal.result c.in-Err.ensures.err done.2,
    )
