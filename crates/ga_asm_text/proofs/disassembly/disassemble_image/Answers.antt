use Rattle.std.proofs.Common.{[], Some, inl, refl, sym, ap, ◌∙◌}
use Rattle.std.proofs.lemmas.List.{append-nil}
use Rattle.ga_console.proofs.Races.{alone_whole, alone_long}
use Rattle.ga_asm_text.proofs.Sources.{disassembles, disassembles_nothing}
use Rattle.ga_asm_text.proofs.disassembly.disassemble_image.Goals as goal

pub returns-in-Whole : goal.returns-in-Whole
returns-in-Whole g c = λ left before known held.
    let got = c.in-Whole.ensures left known in
    let done = c.disassemble_text.ensures before held in (
      got.0,
      got.1,
      done.0,
      got.2,
      got.3,
      done.1,
      disassembles c.in-Whole.image.items got.4.0 got.0 got.1 done.0 c.disassemble_text.result got.4.1
          (alone_whole c.in-Whole.image.items got.4.0 got.1 got.4.2) done.2,
    )

pub returns-in-TooLong : goal.returns-in-TooLong
returns-in-TooLong g c = λ left before known held.
    let got = c.in-TooLong.ensures left known in
    let done = c.disassemble_text-in-TooLong.ensures before held in (
      got.0,
      got.1,
      done.0,
      got.2,
      got.3,
      done.1,
      disassembles c.in-TooLong.image.items got.4.0 got.0 got.1 done.0 c.disassemble_text-in-TooLong.result got.4.1
          (alone_long c.in-TooLong.image.items got.4.0 got.1 got.4.2) done.2,
    )

pub returns-in-ReadFailed : goal.returns-in-ReadFailed
returns-in-ReadFailed g c = λ left before known held.
    let got = c.in-ReadFailed.ensures left known in
    (got.0, got.1, [], got.2, got.3, held ∙ ap Some (sym (append-nil before)), inl (refl, got.4))

pub returns-in-NoMemory : goal.returns-in-NoMemory
returns-in-NoMemory g c = λ left before known held.
    let got = c.in-NoMemory.ensures left known in
    let sent = c.write_image_refusal.ensures before held in
    (got.0, got.1, sent.0, got.2, got.3, sent.1, disassembles_nothing got.0 got.1 sent.0 c.write_image_refusal.result sent.2)
